use Rattle.std.proofs.Common.{refl}
use Rattle.machine.proofs.Running.{running_begun, stays_running}
use Rattle.machine.proofs.tests.start.Goals as goal

pub go_both-requires-clause-runs : goal.go_both-requires-clause-runs
go_both-requires-clause-runs c = stays_running c.begin.ensures.stays refl (running_begun _ c.requires.text.1 c.begin.ensures.begun)
