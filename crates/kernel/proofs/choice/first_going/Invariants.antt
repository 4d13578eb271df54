-- no thread so far is going
use Rattle.kernel.specs.Choice.{Idle}
use Rattle.kernel.proofs.choice.first_going.Given as goal

abbrev pub invariant-threads : goal.invariant-threads
invariant-threads l = Idle l.work l.from l.j
