use Rattle.machine.proofs.Parts.{lent, lent_size}
use Rattle.machine.proofs.Moved.{can_step, stepped_of}
use Rattle.machine.proofs.engine.Engine.step.Goals as goal

pub step-requires : goal.step-requires
step-requires c = can_step (lent c.args.me.0 c.args.self.now.work.now) c.requires

pub returns-clause-step : goal.returns-clause-step
returns-clause-step c = stepped_of _ (lent_size c.args.me.0) (lent c.args.me.0 c.args.self.now.work.now) c.requires c.step.ensures
