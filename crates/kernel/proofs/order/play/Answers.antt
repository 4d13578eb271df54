use Rattle.kernel.proofs.Engines.{then_stays}
use Rattle.kernel.proofs.Plays.{goes_on, stops}
use Rattle.kernel.proofs.order.play.Goals as goal

pub order-preserved : goal.order-preserved
order-preserved c = (goes_on c.order.invariant.0 c.turn.ensures.stays (c.order-test.ensures.turned), then_stays c.order.invariant.1 c.turn.ensures.stays)

pub returns-clause-played : goal.returns-clause-played
returns-clause-played c = stops c.order.invariant.0 c.order-test.ensures.turned
