-- the threads so far have their numbers
use Rattle.kernel.proofs.Codes.{Coded}
use Rattle.kernel.proofs.states.write_states.Given as goal

abbrev pub invariant-loop-j : goal.invariant-loop-j
invariant-loop-j l = Coded l.engine.work.now l.j l.state-items
