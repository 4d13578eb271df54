-- The two words of a mark. Without this the check finds the proof just within its limits, and not within half of them.
use Rattle.std.proofs.Common.{arith}
use Rattle.ledger.proofs.mark.Tuple2U32U32FromMark.from.Goals as goal

pub returns : goal.returns
returns c = record { words = grind arith; back = grind arith }
