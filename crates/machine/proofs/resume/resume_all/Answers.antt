use Rattle.std.proofs.Common.{arith, rules}
use Rattle.machine.proofs.OnePass.{one_resumed, one_stays, all_resumed}
use Rattle.machine.proofs.resume.resume_all.Goals as goal

pub returns-clause-resumed : goal.returns-clause-resumed
returns-clause-resumed c = all_resumed (omega arith) (omega arith) c.threads.invariant

pub threads-preserved : goal.threads-preserved
threads-preserved c = one_resumed c.threads.invariant (search rules)

pub threads-preserved-then-not-waits : goal.threads-preserved-then-not-waits
threads-preserved-then-not-waits c = one_stays c.threads.invariant (search rules)
