-- The marks of all places in one list of words, and the stamp of the stretch.
use Rattle.std.specs.Prelude.{ℕ, ◌+◌, ◌*◌, List, length, replicate, Some, None, Option, slice_index, slice_set}
use Rattle.model.specs.declared.Access.{Access}
use Rattle.ledger.specs.declared.mark.Mark.{Mark}
use Rattle.ledger.specs.Stamps.{after_stamp}
use Rattle.ledger.specs.Marks.{tag, untag, noted}

abbrev pub mark_in : List ℕ → ℕ → Mark
mark_in w a = untag (slice_index w (2 * a)) (slice_index w (2 * a + 1))

abbrev pub marked_at : List ℕ → ℕ → Mark → List ℕ
marked_at w a m = slice_set (slice_set w (2 * a) m.first.0) (2 * a + 1) (tag m)

-- what is noted: the words of all marks, and the stamp
pub record Notes : Type 0 where
  pub words : List ℕ
  pub stamp : ℕ

abbrev pub notes : List ℕ → ℕ → Notes
notes w stamp = record { words = w; stamp = stamp }

-- so many words in which nothing is noted
abbrev pub opened : ℕ → Notes
opened n = notes (replicate n 0) 1

-- with the mark of place a after a touch
abbrev pub with_mark : Notes → ℕ → Option Mark → Option Notes
with_mark l a (Some m) = Some (notes (marked_at l.words a m) l.stamp)
with_mark l a None = None

-- Thread i touches place a in way h: the ledger after it, or nothing where that is a clash.
abbrev pub noting : Notes → ℕ → ℕ → Access → Option Notes
noting l i a h = with_mark l a (noted (mark_in l.words a) l.stamp i h)

-- in the stretch of this stamp; where there is none, all words are cleared
abbrev pub with_stamp : Notes → Option ℕ → Notes
with_stamp l (Some stamp) = notes l.words stamp
with_stamp l None = opened (length l.words)

-- All threads go on: the next stamp, or a new beginning.
abbrev pub next : Notes → Notes
next l = with_stamp l (after_stamp l.stamp)
