-- the threads below j have had their turn
use Rattle.kernel.proofs.Progress.{SoFar}
use Rattle.kernel.proofs.sequence.run_stretch.Given as goal

abbrev pub invariant-threads : goal.invariant-threads
invariant-threads l = SoFar l.initial.engine l.initial.ledger 0 l.engine l.ledger l.j
