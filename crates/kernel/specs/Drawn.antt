-- What `draw_order` promises.
use Rattle.std.specs.Prelude.{◌≡◌, ℕ, Bool, List, length, Ok, Err, Result}
use Rattle.model.specs.Kernel.{Kernel}
use Rattle.model.specs.Rows.{Rows, OneKernel}
use Rattle.model.specs.Orders as orders
use Rattle.ledger.specs.Runs.{LedgerTells}
use Rattle.kernel.specs.declared.job.Refused.{Refused}
use Rattle.kernel.specs.declared.job.Sizes.{Sizes}
use Rattle.kernel.specs.Jobs.{Refuses}
use Rattle.kernel.specs.Ran.{Ran}

-- what holds of rows, of all orders, and of what is kept in mind of them
pub record Parts : Type 0 where
  pub one_kernel : OneKernel
  pub orders : orders.Parts
  pub ledger_tells : LedgerTells

-- The job is refused; or some order has run to its end. Where no order has run, memory and states are as they were.
abbrev pub DrawnSays : List ℕ → ℕ → ℕ → Sizes → List ℕ → List ℕ → List ℕ → List ℕ → Result Bool Refused → Type 0
DrawnSays w n turns l m m' o o' (Err x) = Refuses w (length m) n l x × (m' ≡ m) × (o' ≡ o)
DrawnSays w n turns l m m' o o' (Ok clashed) = (k : Kernel) × Rows w k × Ran k n turns m m' o o' clashed

pub record DrawnPost (w : List ℕ) (n turns : ℕ) (l : Sizes) (m m' o o' : List ℕ) (r : Result Bool Refused) : Type 0 where
  pub says : DrawnSays w n turns l m m' o o' r
  pub parts : Parts
