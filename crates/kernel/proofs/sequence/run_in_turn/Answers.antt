use Rattle.kernel.proofs.OneOrder.{some_begins, whole}
use Rattle.kernel.proofs.sequence.run_in_turn.Goals as goal

pub run_stretches-requires : goal.run_stretches-requires
run_stretches-requires c = some_begins c.begin.ensures.begun c.begin.ensures.memory c.begin.ensures.stays c.open.ensures.opened c.requires.text c.requires.room c.open.ensures.as_many

pub returns-clause-runs : goal.returns-clause-runs
returns-clause-runs c = whole c.begin.ensures.begun c.begin.ensures.memory c.begin.ensures.stays c.open.ensures.opened c.requires.text _ c.run_stretches.result c.run_stretches.ensures.came
