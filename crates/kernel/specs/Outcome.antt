-- What an order leaves at its end, and what it decides for all other orders.
use Rattle.std.specs.Prelude.{◌≡◌, ℕ, Bool, false, List, take, drop, Ok, Err, Result}
use Rattle.model.specs.Kernel.{Kernel}
use Rattle.model.specs.Rows.{Rows}
use Rattle.model.specs.Steps.{State, Reaches, begin}
use Rattle.kernel.specs.declared.job.Refused.{Refused}
use Rattle.kernel.specs.Ran.{codes, Settled, Ran}

-- m' is the memory of s, and the first n bytes of o' are the numbers of its n threads; the others are those of o
pub record HandedOut (n : ℕ) (s : State) (m' o o' : List ℕ) : Type 0 where
  pub memory_is : m' ≡ s.memory
  pub states_are : take n o' ≡ codes s.threads
  pub others_stay : drop n o' ≡ drop n o

-- s settles how all orders end, and wherever an order has come to, s is still ahead of it.
pub record Decided (k : Kernel) (n turns : ℕ) (m : List ℕ) (s : State) : Type 0 where
  pub settled : Settled k n turns m s
  pub ahead : (u : State) → Reaches (begin k n turns m) u → Reaches u s

-- An order has run to its end; where it came to no clash, that decides all orders.
pub record WholeOrder (k : Kernel) (n turns : ℕ) (m m' o o' : List ℕ) (r : Bool) : Type 0 where
  pub ran : Ran k n turns m m' o o' r
  pub decided : r ≡ false → Decided k n turns m ran.state

-- .. of the kernel that the rows say, where an order was drawn
abbrev pub IsWhole : List ℕ → ℕ → ℕ → List ℕ → List ℕ → List ℕ → List ℕ → Result Bool Refused → Type 0
IsWhole w n turns m m' o o' (Err x) = Unit {0}
IsWhole w n turns m m' o o' (Ok clashed) = (k : Kernel) × Rows w k × WholeOrder k n turns m m' o o' clashed
