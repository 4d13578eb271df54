-- The mark of one place: its words, and what a touch makes of it.
use Rattle.std.specs.Prelude.{◌≡◌, ℕ, ◌+◌, ◌*◌, ◌/◌, ◌%◌, Bool, true, false, cond, not, ◌&&◌, ◌||◌, Some, None, Option, ◌==◌}
use Rattle.model.specs.declared.Change.TheVariants.{Write as write, Add as add}
use Rattle.model.specs.declared.Access.{Access}
use Rattle.model.specs.declared.Access.TheVariants.{Reading as reading, Changing as changing}
use Rattle.model.specs.Kernel.{bit}
use Rattle.model.specs.Races.{together}
use Rattle.ledger.specs.declared.mark.Mark.{Mark}

-- the second word: the stamp, and below it a bit for each flag
abbrev pub tag : Mark → ℕ
tag m = 16 * m.stamp + (bit m.read + 2 * bit m.written + 4 * bit m.added + 8 * bit m.shared)

abbrev pub untag : ℕ → ℕ → Mark
untag first w = record {
  first = record { 0 = first };
  stamp = w / 16;
  read = (w % 2 == 1);
  written = (w / 2 % 2 == 1);
  added = (w / 4 % 2 == 1);
  shared = (w / 8 % 2 == 1);
}

-- the two words of a mark, from which it is read back
pub record IsPacked (m : Mark) (w : ℕ × ℕ) : Type 0 where
  pub words : w ≡ (m.first.0, tag m)
  pub back : untag w.0 w.1 ≡ m

-- whether the mark tells a touch of that way
abbrev pub has : Mark → Access → Bool
has m reading = m.read
has m (changing write) = m.written
has m (changing add) = m.added

abbrev pub flagged : Mark → Access → Mark
flagged m reading = record { first = m.first; stamp = m.stamp; read = true; written = m.written; added = m.added; shared = m.shared }
flagged m (changing write) = record { first = m.first; stamp = m.stamp; read = m.read; written = true; added = m.added; shared = m.shared }
flagged m (changing add) = record { first = m.first; stamp = m.stamp; read = m.read; written = m.written; added = true; shared = m.shared }

abbrev pub blank : ℕ → ℕ → Mark
blank now i = record { first = record { 0 = i }; stamp = now; read = false; written = false; added = false; shared = false }

abbrev pub fresh : ℕ → ℕ → Access → Mark
fresh now i h = flagged (blank now i) h

abbrev pub shared_mark : Mark → Mark
shared_mark m = record { first = m.first; stamp = m.stamp; read = m.read; written = m.written; added = m.added; shared = true }

-- whether a touch of way h goes with those of way k, if the mark tells any
abbrev pub goes_with : Mark → Access → Access → Bool
goes_with m k h = not (has m k) || together k h

-- .. and with all that the mark tells
abbrev pub admits : Mark → Access → Bool
admits m h = goes_with m reading h && (goes_with m (changing write) h && goes_with m (changing add) h)

-- The mark of this stretch after thread i has touched the place once more, in way h; nothing where that is a clash.
abbrev pub again : Mark → ℕ → Access → Option Mark
again m i h = cond (not m.shared && m.first.0 == i) (Some (flagged m h)) (cond (admits m h) (Some (shared_mark m)) None)

-- The mark of any stretch after that, in the stretch `now`.
abbrev pub noted : Mark → ℕ → ℕ → Access → Option Mark
noted m now i h = cond (m.stamp == now) (again m i h) (Some (fresh now i h))
