-- the thread has come so far, and each step leaves less to do
use Rattle.kernel.specs.Held.{left}
use Rattle.kernel.proofs.Progress.{SoFar}
use Rattle.kernel.proofs.sequence.run_thread.Given as goal

abbrev pub invariant-steps : goal.invariant-steps
invariant-steps l = SoFar l.initial.engine l.initial.ledger l.thread.0 l.engine l.ledger l.thread.0

abbrev pub decreases-steps : goal.decreases-steps
decreases-steps l = left l.engine
