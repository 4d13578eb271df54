-- The ledger that the code holds.
use Rattle.std.specs.Prelude.{◌≡◌, length}
use Rattle.ledger.specs.declared.places.Ledger.{Ledger}
use Rattle.ledger.specs.Places.{Notes, notes}

-- what is noted in it
abbrev pub notes_in : Ledger → Notes
notes_in l = notes l.marks.now l.stamp

-- its marks are the same lent words still, and as many
abbrev pub SameMarks : Ledger → Ledger → Type 0
SameMarks l l' = (l'.marks.ghost_name ≡ l.marks.ghost_name) × (length l'.marks.now ≡ length l.marks.now)
