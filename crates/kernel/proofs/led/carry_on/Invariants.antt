-- each order has been carried on so far, and each turn leaves less to do
use Rattle.std.proofs.Common.{Some}
use Rattle.ledger.specs.Lent.{notes_in}
use Rattle.kernel.specs.Held.{left}
use Rattle.kernel.proofs.Plays.{Playing}
use Rattle.kernel.proofs.led.carry_on.Given as goal

abbrev pub invariant-order : goal.invariant-order
invariant-order l = Playing l.initial.engine (Some (notes_in l.initial.ledger)) l.engine (Some (notes_in l.ledger))

abbrev pub decreases-order : goal.decreases-order
decreases-order l = left l.engine
