-- What is promised of a whole order.
use Rattle.std.specs.Prelude.{◌≡◌, ℕ, Bool, false, List, [], ◌∷◌, length, take, drop}
use Rattle.model.specs.Kernel.{Kernel}
use Rattle.model.specs.Rows.{Rows}
use Rattle.model.specs.Steps.{Thread, State, Steps, Reaches, Ended, begin}
use Rattle.model.specs.Races.{Racy}
use Rattle.model.specs.Orders.{Parts}
use Rattle.machine.specs.Stands.{Source}
use Rattle.machine.specs.Words.{status_code}
use Rattle.machine.specs.All.{AllHeld}
use Rattle.machine.specs.Begins.{TextStands}
use Rattle.ledger.specs.Runs.{ClashOn, Exactly}
use Rattle.ledger.specs.Promises.{Laws}

-- The rows say the kernel k, and it stands in them with its table of ends.
pub record TextIn (s : Source) (k : Kernel) : Type 0 where
  pub says : Rows s.rows k
  pub variables : s.variables ≡ k.vars
  pub stands : TextStands s k.body

pub record SomeText (s : Source) : Type 0 where
  pub kernel : Kernel
  pub text : TextIn s kernel

-- the numbers of what the threads are at
abbrev pub codes : List Thread → List ℕ
codes [] = []
codes (t ∷ ts) = status_code t.status ∷ codes ts

-- the first n places have the numbers of the n threads that the words hold, and the others are as they were
pub record Written (work : List ℕ) (n : ℕ) (before after : List ℕ) : Type 0 where
  pub codes_are : (s : Source) (ts : List Thread) → length ts ≡ n → AllHeld s work ts → take n after ≡ codes ts
  pub others_stay : drop n after ≡ drop n before

-- no order has a clash, and each that ends, ends in s
pub record Settled (k : Kernel) (n turns : ℕ) (m : List ℕ) (s : State) : Type 0 where
  pub no_clash : Racy k n turns m → ⊥
  pub one_end : (u : State) → Reaches (begin k n turns m) u → Ended u → u ≡ s

-- An order of n threads has gone from the begin on the memory m to an end; there, m' is the memory, and the
-- first n places of `after` tell what the threads are at. r says exactly whether two threads clashed on the way.
pub record Ran (k : Kernel) (n turns : ℕ) (m m' before after : List ℕ) (r : Bool) : Type 0 where
  pub state : State
  pub count : ℕ
  pub path : Steps count (begin k n turns m) state
  pub ended : Ended state
  pub memory_is : m' ≡ state.memory
  pub states_are : take n after ≡ codes state.threads
  pub others_stay : drop n after ≡ drop n before
  pub clash : Exactly r (ClashOn count (begin k n turns m) state path)
  pub settled : r ≡ false → Settled k n turns m state

-- Of whatever kernel the rows say, an order has run. Beside it stand what holds of all orders, and of what
-- the marks tell of them.
pub record OrderPost (rows : List ℕ) (n turns : ℕ) (m m' before after : List ℕ) (r : Bool) : Type 0 where
  pub each : (k : Kernel) → Rows rows k → Ran k n turns m m' before after r
  pub parts : Parts
  pub laws : Laws
