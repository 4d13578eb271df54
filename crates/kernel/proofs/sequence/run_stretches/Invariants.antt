-- the order has come to the begin of a stretch, and each stretch that is followed by another leaves less to do
use Rattle.kernel.specs.Held.{left}
use Rattle.kernel.proofs.Progress.{SoFar}
use Rattle.kernel.proofs.sequence.run_stretches.Given as goal

abbrev pub invariant-stretches : goal.invariant-stretches
invariant-stretches l = SoFar l.initial.engine l.initial.ledger 0 l.engine l.ledger 0

abbrev pub decreases-stretches : goal.decreases-stretches
decreases-stretches l = left l.engine
