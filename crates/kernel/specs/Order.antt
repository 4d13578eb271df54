-- How far an order has come.
use Rattle.std.specs.Prelude.{ℕ, ◌<◌, Bool, true, false, length, Option}
use Rattle.model.specs.Steps.{State, Step, Steps, Ended}
use Rattle.machine.specs.declared.engine.Engine.{Engine}
use Rattle.ledger.specs.Places.{Notes}
use Rattle.ledger.specs.Runs.{ClashOn}
use Rattle.kernel.specs.Held.{HeldIn, left}
use Rattle.kernel.specs.Watching.{Room, Said}

-- An order has come from b to the state st, which the engine holds, and what is told of it says whether two
-- threads clashed on the way.
pub record Run (e : Engine) (w : Option Notes) (b st : State) : Type 0 where
  pub count : ℕ
  pub path : Steps count b st
  pub held : HeldIn e st
  pub said : Said w st (ClashOn count b st path)

-- some order has come so far, and each place has its two words
pub record SomeRun (e : Engine) (w : Option Notes) : Type 0 where
  pub from : State
  pub state : State
  pub run : Run e w from state
  pub room : Room (length e.memory.now) w

-- .. and one step further
pub record Onward (e : Engine) (w : Option Notes) (b st : State) : Type 0 where
  pub state : State
  pub step : Step st state
  pub run : Run e w b state

-- each order that had come so far has gone a step on, and there is less to do
pub record WentOn (e : Engine) (w : Option Notes) (e' : Engine) (w' : Option Notes) : Type 0 where
  pub each : (b st : State) → Run e w b st → Onward e' w' b st
  pub lighter : left e' < left e
  pub room : (places : ℕ) → Room places w → Room places w'

-- each order that had come so far is at its end
pub record AtEnd (e : Engine) (w : Option Notes) (e' : Engine) (w' : Option Notes) : Type 0 where
  pub same : (b st : State) → Run e w b st → Run e' w' b st
  pub ended : (b st : State) → Run e w b st → Ended st

abbrev pub Turned : Engine → Option Notes → Engine → Option Notes → Bool → Type 0
Turned e w e' w' false = AtEnd e w e' w'
Turned e w e' w' true = WentOn e w e' w'

-- the order has been carried on, to an end
pub record Finished (e : Engine) (w : Option Notes) (b : State) : Type 0 where
  pub state : State
  pub run : Run e w b state
  pub ended : Ended state

pub record Played (e : Engine) (w : Option Notes) (e' : Engine) (w' : Option Notes) : Type 0 where
  pub each : (b st : State) → Run e w b st → Finished e' w' b
