-- What it means that nothing, or a clash, is told of an order so far.
use Rattle.std.specs.Prelude.{◌≡◌, ℕ, ◌+◌, ◌*◌, ◌<◌, ◌≤◌, Bool, true, false, List, length, Some, None, Option}
use Rattle.model.specs.Steps.{Touch as ModelTouch, State, resumed}
use Rattle.model.specs.Orders.{Clash}
use Rattle.machine.specs.declared.touched.Touch.{Touch}
use Rattle.ledger.specs.Places.{Notes, notes}
use Rattle.ledger.specs.Promises.{OpenPost}
use Rattle.ledger.specs.Runs.{ledger_words}
use Rattle.ledger.specs.Tells.{Tells, Grows}
use Rattle.kernel.specs.declared.watch.Watch.{Watch}

-- what is noted in the marks while there was no clash, in the stretch with this stamp
abbrev pub noted_in : Option ℕ → List ℕ → Option Notes
noted_in (Some stamp) marks = Some (notes marks stamp)
noted_in None marks = None

abbrev pub told_in : Watch → List ℕ → Option Notes
told_in w marks = noted_in w.0 marks

abbrev pub has_clashed : Option Notes → Bool
has_clashed (Some l) = false
has_clashed None = true

-- nothing is noted in so many words
abbrev pub Opened : ℕ → Option Notes → Type 0
Opened words (Some l) = OpenPost words l × (length l.words ≡ words)
Opened words None = ⊥

-- each of so many places has its two words, as long as touches are noted
abbrev pub Room : ℕ → Option Notes → Type 0
Room places (Some l) = ledger_words places ≤ length l.words
Room places None = Unit {0}

-- the place that was touched has its two words
abbrev pub Places : ℕ → Option Touch → Type 0
Places words None = Unit {0}
Places words (Some t) = 2 * t.place.0 + 1 < words

-- .. as long as touches are noted
abbrev pub Within : Option Notes → Option Touch → Type 0
Within (Some l) t = Places (length l.words) t
Within None t = Unit {0}

-- The order has come to s, and P says that there was a clash on the way: while there was none, what is noted
-- tells all touches.
abbrev pub Said : Option Notes → State → Type 0 → Type 0
Said (Some l) s P = Tells l s × (P → ⊥)
Said None s P = P

-- there was no clash before s: now it is in s, or what is noted still tells all touches
abbrev pub Follows : Option Notes → State → Type 0
Follows (Some l) s = Tells l s
Follows None s = Clash s

-- how a step leads from one state to the next
abbrev pub touching : ℕ → List ModelTouch → State → State → Type 0
touching i τs s u = Grows s u i τs

abbrev pub resuming : State → State → Type 0
resuming s u = u ≡ resumed s

-- what is told goes with each such step
pub record Watched (R : State → State → Type 0) (w w' : Option Notes) : Type 0 where
  pub quiet : (l : Notes) → w ≡ Some l → (s u : State) → R s u → Tells l s → Follows w' u
  pub clashed : w ≡ None → w' ≡ None
  pub room : (places : ℕ) → Room places w → Room places w'
