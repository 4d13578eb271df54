-- An operand lies one deeper than its operation; a value is found by its operation at most.
use Rattle.std.proofs.Common.{◌+◌, ◌*◌}
use Rattle.machine.proofs.expression.+value.Given as goal

abbrev pub decreases-operation_at : goal.decreases-operation_at
decreases-operation_at l = 2 * l.depth

abbrev pub decreases-value_at : goal.decreases-value_at
decreases-value_at l = 2 * l.depth + 1
