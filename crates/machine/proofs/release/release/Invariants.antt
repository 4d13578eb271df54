-- the threads so far have gone on
use Rattle.std.proofs.Common.{◌≡◌}
use Rattle.machine.specs.Together.{released_words}
use Rattle.machine.proofs.release.release.Given as goal

abbrev pub invariant-loop-j : goal.invariant-loop-j
invariant-loop-j l = l.work ≡ released_words l.j l.initial.work
