-- The cases, as proofs/Cases.antt computes them.
use Rattle.model.proofs.Cases.{cases}
use Rattle.model.proofs.cases_stand.Goals as goal

pub returns : goal.returns
returns c = cases
