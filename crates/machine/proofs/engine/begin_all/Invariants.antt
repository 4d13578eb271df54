-- the threads so far begin
use Rattle.std.proofs.Common.{ℕ, ◌<◌}
use Rattle.machine.specs.Words.{part}
use Rattle.machine.specs.Begins.{Begun}
use Rattle.machine.proofs.engine.begin_all.Given as goal

abbrev pub invariant-loop-j : goal.invariant-loop-j
invariant-loop-j l = (k : ℕ) → k < l.j → Begun (part k l.work) l.turns
