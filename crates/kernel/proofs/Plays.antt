-- Turn by turn, an order is carried on.
use Rattle.std.proofs.Common.{Option, sym, subst}
use Rattle.model.specs.Steps.{State}
use Rattle.machine.specs.declared.engine.Engine.{Engine}
use Rattle.machine.specs.Engines.{Stays}
use Rattle.ledger.specs.Places.{Notes}
use Rattle.kernel.specs.Watching.{Room}
use Rattle.kernel.specs.Order.{Run, SomeRun, WentOn, AtEnd, Played}

pub record Reached (e : Engine) (w : Option Notes) (b : State) : Type 0 where
  pub state : State
  pub run : Run e w b state

-- so far: some order has come here, and each that had begun at e has come to e'
pub record Playing (e : Engine) (w : Option Notes) (e' : Engine) (w' : Option Notes) : Type 0 where
  pub some : SomeRun e' w'
  pub each : (b st : State) → Run e w b st → Reached e' w' b

module _ {e : Engine} {w : Option Notes} where
  pub begins : SomeRun e w → Playing e w e w
  begins run = record { some = run; each = λ b st r. record { state = st; run = r } }

  module _ {e' : Engine} {w' : Option Notes} (so_far : Playing e w e' w') {e'' : Engine} {w'' : Option Notes} where
    pub goes_on : Stays e' e'' → WentOn e' w' e'' w'' → Playing e w e'' w''
    goes_on stays went = record {
      some = let last = so_far.some in record { from = last.from; state = _; run = (went.each last.from last.state last.run).run; room = subst (λ places. Room places w'') (sym stays.as_long) (went.room _ last.room) };
      each = λ b st r. let last = so_far.each b st r in record { state = _; run = (went.each b last.state last.run).run };
    }

    pub stops : AtEnd e' w' e'' w'' → Played e w e'' w''
    stops end = record {
      each = λ b st r. let last = so_far.each b st r in record { state = last.state; run = end.same b last.state last.run; ended = end.ended b last.state last.run };
    }
