use Rattle.machine.proofs.Moved.{status_is_of}
use Rattle.machine.proofs.engine.status_of.Goals as goal

pub returns : goal.returns
returns c = status_is_of c.status_named.ensures
