-- each order has been carried on so far, and each turn leaves less to do
use Rattle.machine.specs.Engines.{Stays}
use Rattle.kernel.specs.Held.{left}
use Rattle.kernel.specs.Watching.{told_in}
use Rattle.kernel.proofs.Plays.{Playing}
use Rattle.kernel.proofs.order.play.Given as goal

abbrev pub invariant-order : goal.invariant-order
invariant-order l = Playing l.initial.engine (told_in l.initial.watch l.initial.marks) l.engine (told_in l.watch l.marks) × Stays l.initial.engine l.engine

abbrev pub decreases-order : goal.decreases-order
decreases-order l = left l.engine
