use Rattle.model.proofs.Promised.{parts}
use Rattle.model.proofs.parts_stand.Goals as goal

pub returns : goal.returns
returns c = parts
