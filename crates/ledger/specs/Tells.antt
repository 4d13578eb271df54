-- What it means that the marks tell who touched what since all last went on.
use Rattle.std.specs.Prelude.{◌≡◌, ℕ, ◌≤◌, true, false, ◌⊎◌, List, Some, ◌≢◌}
use Rattle.std.specs.List.{slice_get}
use Rattle.model.specs.declared.Access.{Access}
use Rattle.model.specs.Steps.{Touch, Thread, State}
use Rattle.model.specs.Races.{together, In}
use Rattle.ledger.specs.declared.mark.Mark.{Mark}
use Rattle.ledger.specs.Marks.{has}
use Rattle.ledger.specs.Places.{Notes, mark_in}

-- The mark of a place that was touched in this stretch. By i h: thread i touched it in way h.
pub record Marked (m : Mark) (By : ℕ → Access → Type 0) : Type 0 where
  pub some : (h : Access) × (has m h ≡ true)
  -- every touch has its flag, and every flag is a touch by the first thread
  pub told : (i : ℕ) (h : Access) → By i h → has m h ≡ true
  pub by_first : (h : Access) → has m h ≡ true → By m.first.0 h
  -- not shared: there is no other thread
  pub alone : m.shared ≡ false → (i : ℕ) (h : Access) → By i h → i ≡ m.first.0
  -- shared: there is another one, and all touches go together
  pub other : m.shared ≡ true → (i : ℕ) × (h : Access) × (i ≢ m.first.0) × By i h
  pub alike : m.shared ≡ true → (h k : Access) → has m h ≡ true → has m k ≡ true → together h k ≡ true

-- The mark of any place, in the stretch `now`: a mark of another stretch says that nobody touched the place.
pub record Told (now : ℕ) (m : Mark) (By : ℕ → Access → Type 0) : Type 0 where
  pub past : m.stamp ≤ now
  pub old : (m.stamp ≢ now) → (i : ℕ) (h : Access) → By i h → ⊥
  pub current : m.stamp ≡ now → Marked m By

-- In s, thread i has touched place a in way h since all last went on.
pub record Touched (s : State) (a i : ℕ) (h : Access) : Type 0 where
  pub t : Thread
  pub is : slice_get s.threads i ≡ Some t
  pub by : In (record { at = a; how = h }) t.touched

abbrev pub Tells : Notes → State → Type 0
Tells l s = (a : ℕ) → Told l.stamp (mark_in l.words a) (Touched s a)

-- From s to s', what was touched grows by these touches of thread i, and nothing else.
pub record Grows (s s' : State) (i : ℕ) (τs : List Touch) : Type 0 where
  pub keeps : (a j : ℕ) (h : Access) → Touched s a j h → Touched s' a j h
  pub adds : (τ : Touch) → In τ τs → Touched s' τ.at i τ.how
  pub only : (a j : ℕ) (h : Access) → Touched s' a j h → Touched s a j h ⊎ ((j ≡ i) × In (record { at = a; how = h }) τs)

-- the first thread that touched the place in the stretch `now` is the smallest that did
abbrev pub FirstLeast : ℕ → Mark → (ℕ → Access → Type 0) → Type 0
FirstLeast now m By = m.stamp ≡ now → (i : ℕ) (h : Access) → By i h → m.first.0 ≤ i

-- Where threads go one after the other, and thread i is the next: nobody behind it has touched anything.
pub record InOrder (l : Notes) (s : State) (i : ℕ) : Type 0 where
  pub first_least : (a : ℕ) → FirstLeast l.stamp (mark_in l.words a) (Touched s a)
  pub none_behind : (a j : ℕ) (h : Access) → Touched s a j h → j ≤ i
