-- the threads so far have gone on, if they waited
use Rattle.machine.proofs.OnePass.{Resuming}
use Rattle.machine.proofs.resume.resume_all.Given as goal

abbrev pub invariant-threads : goal.invariant-threads
invariant-threads l = Resuming l.initial.work l.work l.j l.some
