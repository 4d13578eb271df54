use Rattle.ledger.specs.Lent.{notes_in}
use Rattle.kernel.proofs.Leads.{went_so, ended_so, ends_so, clashes_so}
use Rattle.kernel.proofs.Plays.{goes_on}
use Rattle.kernel.proofs.Progress.{broke}
use Rattle.kernel.proofs.led.carry_on.Goals as goal

pub order-preserved : goal.order-preserved
order-preserved c = goes_on c.order.invariant c.turn.ensures.stays (went_so _ _ _ c.if-branch.true c.in_ok-turn.ensures.on)

pub returns-in_err-turn : goal.returns-in_err-turn
returns-in_err-turn c = broke _ _ c.from_residual.result _ c.from_residual.ensures.1 (clashes_so c.order.invariant c.in_err-turn.ensures.on)

pub returns : goal.returns
returns c = ends_so c.order.invariant (ended_so c.turn.new.engine (notes_in c.turn.new.ledger) _ c.if-branch.false c.in_ok-turn.ensures.on)
