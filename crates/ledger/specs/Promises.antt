-- What the functions on lent words promise.
use Rattle.std.specs.Prelude.{◌≡◌, ℕ, ◌<◌, List, [], ◌∷◌, length, Some, None, Option, Ok, Err, Result}
use Rattle.std.specs.List.{slice_get}
use Rattle.model.specs.declared.Access.{Access}
use Rattle.model.specs.Kernel.{Kernel}
use Rattle.model.specs.Steps.{Touch, Thread, State, next_effect, stepped, resumed, begin}
use Rattle.model.specs.Races.{Race}
use Rattle.model.specs.Orders.{RaceFree}
use Rattle.ledger.specs.declared.places.Earlier.{Earlier}
use Rattle.ledger.specs.Places.{Notes, mark_in, opened, noting, next}
use Rattle.ledger.specs.Tells.{Tells, Grows, InOrder}
use Rattle.ledger.specs.Runs.{touched_by, LedgerTells}

abbrev pub one_touch : ℕ → Access → List Touch
one_touch a h = record { at = a; how = h } ∷ []

-- what is answered, and the ledger that is left
abbrev pub Answered : Notes → Notes → ℕ → Result (Unit {0}) Earlier → Option Notes → Type 0
Answered l l' a r (Some after) = (r ≡ Ok tt) × (l' ≡ after)
Answered l l' a r None = (r ≡ Err (record { 0 = (mark_in l.words a).first })) × (l' ≡ l)

-- no clash: a ledger that told what was touched tells it with this touch
pub record FinePost (l l' : Notes) (i a : ℕ) (h : Access) : Type 0 where
  pub tells : (s s' : State) → Tells l s → Grows s s' i (one_touch a h) → Tells l' s'
  pub in_order : (s s' : State) → Tells l s → InOrder l s i → Grows s s' i (one_touch a h) → InOrder l' s' i

-- a clash: thread i then clashes with another one at this place, and nobody elsewhere; where threads go one
-- after the other, that is the first thread, and a smaller one
pub record ClashPost (l : Notes) (first i a : ℕ) (h : Access) : Type 0 where
  pub race : (s s' : State) → Tells l s → Grows s s' i (one_touch a h) → (j : ℕ) × Race s' j i a
  pub only_here : (s s' : State) → Tells l s → Grows s s' i (one_touch a h) → (j k b : ℕ) → Race s' j k b → b ≡ a
  pub in_order : (s s' : State) → Tells l s → InOrder l s i → Grows s s' i (one_touch a h) → Race s' first i a × (first < i)

abbrev pub Means : Notes → Notes → ℕ → ℕ → Access → Result (Unit {0}) Earlier → Type 0
Means l l' i a h (Ok done) = FinePost l l' i a h
Means l l' i a h (Err earlier) = ClashPost l earlier.0.0 i a h

-- Beside any steps: whole runs are told rightly; a ledger that tells what was touched excludes a clash; a step
-- adds the touches of its effect; and one that touches nothing leaves all as it is.
pub record Laws : Type 0 where
  pub ledger_tells : LedgerTells
  pub race_free : (l : Notes) (s : State) → Tells l s → RaceFree s
  pub steps_grow : (s : State) (i : ℕ) (t : Thread) → slice_get s.threads i ≡ Some t → Grows s (stepped s i t) i (touched_by (next_effect i (length s.threads) (length s.memory) t t.todo))
  pub no_touch : (l : Notes) (s s' : State) (i : ℕ) → Tells l s → Grows s s' i [] → Tells l s'
  pub no_touch_in_order : (l : Notes) (s s' : State) (i : ℕ) → InOrder l s i → Grows s s' i [] → InOrder l s' i

pub record NotePost (l l' : Notes) (i a : ℕ) (h : Access) (r : Result (Unit {0}) Earlier) : Type 0 where
  pub value : Answered l l' a r (noting l i a h)
  pub means : Means l l' i a h r
  pub laws : Laws

pub record NextPost (l l' : Notes) : Type 0 where
  pub value : l' ≡ next l
  pub tells : (s : State) → Tells l s → (u : State) → Tells l' (resumed u)
  pub in_order : (u : State) (i : ℕ) → InOrder l' (resumed u) i

-- so many words, in which nothing is noted
pub record OpenPost (words : ℕ) (l : Notes) : Type 0 where
  pub value : l ≡ opened words
  pub tells : (k : Kernel) (n turns : ℕ) (m : List ℕ) → Tells l (begin k n turns m)
  pub in_order : (k : Kernel) (n turns : ℕ) (m : List ℕ) (i : ℕ) → InOrder l (begin k n turns m) i
