use Rattle.std.proofs.Common.{refl}
use Rattle.machine.proofs.Running.{running_resumed, stays_running}
use Rattle.machine.proofs.tests.resume_twice.Goals as goal

pub start-requires-clause-text : goal.start-requires-clause-text
start-requires-clause-text c = (_, c.new-script.ensures.each _ _ _ c.requires.decoded c.requires.counts)

pub go_both-requires-clause-runs : goal.go_both-requires-clause-runs
go_both-requires-clause-runs c = stays_running c.resume-first.ensures.stays c.resume-first.ensures.memory (running_resumed c.resume-first.ensures.resumed (stays_running c.start.ensures.stays refl c.start.ensures.runs))
