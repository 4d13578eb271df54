use Rattle.std.proofs.Common.{refl}
use Rattle.machine.proofs.Running.{running_released, stays_running}
use Rattle.machine.proofs.tests.go_twice.Goals as goal

pub start-requires-clause-text : goal.start-requires-clause-text
start-requires-clause-text c = (_, c.new-script.ensures.each _ _ _ c.requires.decoded c.requires.counts)

pub go_both-requires-clause-runs : goal.go_both-requires-clause-runs
go_both-requires-clause-runs c = stays_running c.release-released.ensures.stays c.release-released.ensures.memory (running_released c.release-released.ensures.release (stays_running c.start.ensures.stays refl c.start.ensures.runs))
