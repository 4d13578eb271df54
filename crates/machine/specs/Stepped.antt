-- What a step of the words is: a step of every thread that they hold.
use Rattle.std.specs.Prelude.{◌≡◌, ℕ, ◌<◌, List, ◌++◌, length, Some, None, Option, ◌≢◌}
use Rattle.std.specs.List.{slice_get}
use Rattle.model.specs.declared.Status.TheVariants.{Going as going}
use Rattle.model.specs.Steps.{Effect, Thread, State, next_effect, thread_after, memory_after, stepped}
use Rattle.machine.specs.declared.touched.Touch.{Touch}
use Rattle.machine.specs.All.{AllHeld}
use Rattle.machine.specs.Loads.{loads}
use Rattle.machine.specs.Rules.{touches}
use Rattle.machine.specs.Stands.{Source}
use Rattle.machine.specs.Words.{Holds}

-- the words hold some thread that can take a step
pub record CanStep (s : Source) (w : List ℕ) : Type 0 where
  pub thread : Thread
  pub holds : Holds s w thread
  pub goes : thread.status ≡ going

-- The words w' and the memory m' are what the effect e leaves of the thread t and the memory m, and r is
-- what it touched.
pub record Done (s : Source) (w' m m' : List ℕ) (r : Option Touch) (t : Thread) (e : Effect) : Type 0 where
  pub holds : Holds s w' (thread_after e m)
  pub memory_is : m' ≡ memory_after e m
  pub touched : (thread_after e m).touched ≡ t.touched ++ touches r

-- thread i of n took a step
pub record Stepped (s : Source) (i n : ℕ) (w w' m m' : List ℕ) (r : Option Touch) : Type 0 where
  pub each : (t : Thread) → Holds s w t → t.status ≡ going → Done s w' m m' r t (next_effect i n (length m) t t.todo)

-- The words and the memory are those of a state of n threads.
pub record StateHeld (s : Source) (work m : List ℕ) (n : ℕ) (st : State) : Type 0 where
  pub all : AllHeld s work st.threads
  pub memory_is : m ≡ st.memory
  pub count : length st.threads ≡ n

-- .. in which thread i can take a step
pub record CanStepOf (s : Source) (work m : List ℕ) (i n : ℕ) : Type 0 where
  pub state : State
  pub thread : Thread
  pub held : StateHeld s work m n state
  pub is : slice_get state.threads i ≡ Some thread
  pub goes : thread.status ≡ going

-- From every state that the words hold, thread i of n took its step; r is what it touched.
pub record Moved (s : Source) (i n : ℕ) (work' m' : List ℕ) (r : Option Touch) (st : State) (t : Thread) : Type 0 where
  pub held : StateHeld s work' m' n (stepped st i t)
  pub touched : (thread_after (next_effect i (length st.threads) (length st.memory) t t.todo) st.memory).touched ≡ t.touched ++ touches r

pub record SteppedOf (s : Source) (i n : ℕ) (work work' m m' : List ℕ) (r : Option Touch) : Type 0 where
  pub each : (st : State) (t : Thread) → StateHeld s work m n st → slice_get st.threads i ≡ Some t → t.status ≡ going → Moved s i n work' m' r st t
  pub lighter : loads s work' n < loads s work n

-- the words and the memory hold some state of n threads
pub record Running (s : Source) (work m : List ℕ) (n : ℕ) : Type 0 where
  pub state : State
  pub held : StateHeld s work m n state

-- Thread i took its step; or it is not going, in any state that the words hold, and nothing has changed.
abbrev pub Advanced : Source → ℕ → ℕ → List ℕ → List ℕ → List ℕ → List ℕ → Option (Option Touch) → Type 0
Advanced s i n work work' m m' None = (work' ≡ work) × (m' ≡ m) × ((st : State) (t : Thread) → StateHeld s work m n st → slice_get st.threads i ≡ Some t → t.status ≢ going)
Advanced s i n work work' m m' (Some r) = SteppedOf s i n work work' m m' r × ((st : State) (t : Thread) → StateHeld s work m n st → slice_get st.threads i ≡ Some t → t.status ≡ going)
