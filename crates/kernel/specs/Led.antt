-- What is promised of the order that is led step by step.
use Rattle.std.specs.Prelude.{◌≡◌, ℕ, Bool, true, false, ◌&&◌, List, length, Ok, Err, Result, Some, ◌==◌}
use Rattle.model.specs.declared.Clash.{Clash}
use Rattle.model.specs.Kernel.{Kernel}
use Rattle.model.specs.Rows.{Rows}
use Rattle.model.specs.Steps.{State, Reaches, Ended, begin}
use Rattle.model.specs.Races.{Race, Racy}
use Rattle.model.specs.Orders.{Calm as CalmWay}
use Rattle.machine.specs.declared.engine.Engine.{Engine}
use Rattle.machine.specs.Stands.{source}
use Rattle.ledger.specs.Places.{Notes}
use Rattle.kernel.specs.declared.job.Sizes.{Sizes}
use Rattle.kernel.specs.declared.led.ClashAt.{ClashAt}
use Rattle.kernel.specs.declared.led.NotCalm.{NotCalm}
use Rattle.kernel.specs.declared.led.NotCalm.TheVariants.{NotRun, Clashed}
use Rattle.kernel.specs.Jobs.{Refuses}
use Rattle.kernel.specs.Order.{Run, WentOn}

-- a clash, as the second of its threads meets it
abbrev pub met_at : Clash → ClashAt
met_at k = record { thread = k.second; place = k.place }

-- An order leads from b to a state in which the thread clashes with some other one, at the place.
pub record ComesToClash (b : State) (x : ClashAt) : Type 0 where
  pub state : State
  pub reached : Reaches b state
  pub other : ℕ
  pub race : Race state other x.thread.0 x.place.0

-- An order leads from b to an end, with no clash on the way.
pub record EndsCalmly (b : State) : Type 0 where
  pub state : State
  pub count : ℕ
  pub way : CalmWay count b state
  pub ended : Ended state

-- wherever the order had begun, it comes to a clash
pub record ToClash (e : Engine) (l : Notes) (k : ClashAt) : Type 0 where
  pub each : (b st : State) → Run e (Some l) b st → ComesToClash b k

-- .. or to an end
pub record ToEnd (e : Engine) (l : Notes) : Type 0 where
  pub each : (b st : State) → Run e (Some l) b st → EndsCalmly b

-- thread i took a step, which was fine, or clashed
abbrev pub SteppedOn : Engine → Notes → Engine → Notes → ℕ → Result (Unit {0}) ClashAt → Type 0
SteppedOn e l e' l' i (Ok done) = WentOn e (Some l) e' (Some l')
SteppedOn e l e' l' i (Err k) = ToClash e l k × (k.thread.0 ≡ i)

-- it has gone on, or is at its end, or has come to a clash
abbrev pub GoneOn : Engine → Notes → Engine → Notes → Result Bool ClashAt → Type 0
GoneOn e l e' l' (Ok true) = WentOn e (Some l) e' (Some l')
GoneOn e l e' l' (Ok false) = ToEnd e l
GoneOn e l e' l' (Err k) = ToClash e l k

-- the whole order, of whatever kernel the rows say
pub record LeadsToEnd (e : Engine) (turns : ℕ) : Type 0 where
  pub each : (k : Kernel) → Rows (source e.script.now).rows k → EndsCalmly (begin k e.threads turns e.memory.now)

pub record LeadsToClash (e : Engine) (turns : ℕ) (x : ClashAt) : Type 0 where
  pub each : (k : Kernel) → Rows (source e.script.now).rows k → ComesToClash (begin k e.threads turns e.memory.now) x

-- The job is refused; or no order has a clash; or some order comes to the clash that is told.
abbrev pub LedSays : List ℕ → ℕ → ℕ → Sizes → List ℕ → Result ℕ NotCalm → Type 0
LedSays w n turns l m (Err (NotRun x)) = Refuses w (length m) n l x
LedSays w n turns l m (Err (Clashed x)) = (k : Kernel) × Rows w k × ComesToClash (begin k n turns m) x
LedSays w n turns l m (Ok stretches) = (k : Kernel) × Rows w k × (Racy k n turns m → ⊥)

-- whether the order came to this clash: by the second of its threads, at its place
abbrev pub meets : Clash → Result ℕ NotCalm → Bool
meets x (Ok stretches) = false
meets x (Err (NotRun refused)) = false
meets x (Err (Clashed at)) = at.thread.0 == x.second.0 && at.place.0 == x.place.0
