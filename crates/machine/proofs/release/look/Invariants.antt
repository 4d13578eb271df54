-- no thread so far is going
use Rattle.machine.proofs.Together.{Looking}
use Rattle.machine.proofs.release.look.Given as goal

abbrev pub invariant-threads : goal.invariant-threads
invariant-threads l = Looking l.work l.words-index l.found
