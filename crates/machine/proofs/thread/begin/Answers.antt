use Rattle.machine.proofs.Begin.{begun}
use Rattle.machine.proofs.thread.begin.Goals as goal

pub returns : goal.returns
returns c = begun c.push.ensures
