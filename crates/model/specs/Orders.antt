-- What is promised of the orders in which threads can take their steps.
use Rattle.std.specs.Prelude.{◌≡◌, ℕ, zero, suc, ◌≤◌, true, cond, ◌⊎◌, List, [], ◌∷◌, Some, ◌≢◌}
use Rattle.std.specs.List.{slice_get}
use Rattle.model.specs.declared.Change.{Change}
use Rattle.model.specs.declared.Status.TheVariants.{Going as going}
use Rattle.model.specs.Chains.{ChainThrough}
use Rattle.model.specs.Kernel.{Kernel, changed, commutes}
use Rattle.model.specs.Steps.{Thread, State, is_going, some_waiting, stepped, resumed, Step, Steps, Reaches, Ended, begin}
use Rattle.model.specs.Races.{Race, Racy}

-- two threads clash somewhere
abbrev pub Clash : State → Type 0
Clash s = (i : ℕ) × (j : ℕ) × (a : ℕ) × Race s i j a

abbrev pub RaceFree : State → Type 0
RaceFree s = Clash s → ⊥

-- from s to u in so many steps, and no state on the way has a clash, s and u included
abbrev pub Calm : ℕ → State → State → Type 0
Calm = ChainThrough RaceFree Step

-- The order in which threads go one after the other, each until it waits or stops: the first thread that is
-- going takes the next step; where none is going, all that wait go on. At an end nothing changes.
-- (ts: the threads from number i on)
abbrev pub next_from : State → ℕ → List Thread → State
next_from s i [] = cond (some_waiting s.threads) (resumed s) s
next_from s i (t ∷ ts) = cond (is_going t.status) (stepped s i t) (next_from s (suc i) ts)

abbrev pub next_state : State → State
next_state s = next_from s 0 s.threads

-- the state after so many steps of that order
abbrev pub after : ℕ → State → State
after zero s = s
after (suc c) s = after c (next_state s)

-- Changes of a kind that commutes can be made in either order.
abbrev pub Lawful : Type 0
Lawful = (c : Change) → commutes c ≡ true → (w a b : ℕ) → changed c (changed c w a) b ≡ changed c (changed c w b) a

-- From any state, no order takes more than a certain number of steps.
abbrev pub Ends : Type 0
Ends = (s : State) → (most : ℕ) × ((c : ℕ) (u : State) → Steps c s u → c ≤ most)

-- Thread i of s is t, and can take a step.
pub record Going (s : State) (i : ℕ) (t : Thread) : Type 0 where
  pub is : slice_get s.threads i ≡ Some t
  pub goes : t.status ≡ going

-- Neither of two steps takes the other away; and the threads clash after both, or both orders of the two
-- lead to the same state.
pub record Swap (s : State) (i j : ℕ) (t u : Thread) : Type 0 where
  pub first_stays : Going (stepped s j u) i t
  pub second_stays : Going (stepped s i t) j u
  pub alike : ((a : ℕ) × Race (stepped (stepped s i t) j u) i j a) ⊎ (stepped (stepped s i t) j u ≡ stepped (stepped s j u) i t)

-- Steps of two threads that don't clash can be taken in either order, with the same state after both.
abbrev pub Commutes : Type 0
Commutes = (s : State) (i j : ℕ) (t u : Thread) → (i ≢ j) → Going s i t → Going s j u → Swap s i j t u

-- Two orders that part come together again by further steps, if one of them had no clash and leads to none.
abbrev pub Meets : Type 0
Meets = (b s t : State) (c : ℕ) → Calm c b s → ((u : State) → Reaches s u → RaceFree u) → Reaches b t → (u : State) × Reaches s u × Reaches t u

-- Each state has a next one in the order in which threads go one after the other, or is an end.
abbrev pub FirstOrderSteps : Type 0
FirstOrderSteps = (s : State) → Step s (next_state s) ⊎ (Ended s × (next_state s ≡ s))

-- If any order leads to a clash, that order does.
abbrev pub FirstOrderTells : Type 0
FirstOrderTells = (k : Kernel) (n turns : ℕ) (m : List ℕ) → Racy k n turns m → (c : ℕ) × Steps c (begin k n turns m) (after c (begin k n turns m)) × Clash (after c (begin k n turns m))

-- Every order can be carried on to an end.
abbrev pub GoesOn : Type 0
GoesOn = (s : State) → (e : State) × Reaches s e × Ended e

-- With no clash in any order, all orders end alike: thread by thread and word by word.
abbrev pub AnyOrder : Type 0
AnyOrder = (k : Kernel) (n turns : ℕ) (m : List ℕ) → (Racy k n turns m → ⊥) → (s t : State) → Reaches (begin k n turns m) s → Reaches (begin k n turns m) t → Ended s → Ended t → s ≡ t

-- One order that comes to an end without a clash shows that no order has one.
abbrev pub OneOrderTells : Type 0
OneOrderTells = (k : Kernel) (n turns : ℕ) (m : List ℕ) (c : ℕ) (e : State) → Calm c (begin k n turns m) e → Ended e → Racy k n turns m → ⊥

pub record Parts : Type 0 where
  pub lawful : Lawful
  pub ends : Ends
  pub commutes : Commutes
  pub meets : Meets
  pub first_order_steps : FirstOrderSteps
  pub first_order_tells : FirstOrderTells
  pub goes_on : GoesOn
  pub any_order : AnyOrder
  pub one_order_tells : OneOrderTells
