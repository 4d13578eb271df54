use Rattle.std.proofs.Common.{ap, ◌∙◌, arith}
use Rattle.model.specs.Kernel.{operate}
use Rattle.machine.proofs.Values.{some_operation, number_of, operation_valued}
use Rattle.machine.proofs.expression.+value.Goals as goal

pub value_at-operation_at-requires : goal.value_at-operation_at-requires
value_at-operation_at-requires t c = (omega arith, some_operation c.in-None.ensures c.requires)

pub operation_at-returns : goal.operation_at-returns
operation_at-returns t c =
    operation_valued c.requires.at c.value_at-x.ensures c.value_at-y.ensures
    (c.apply.ensures ∙ ap (λ o. operate o c.value_at-x.result c.value_at-y.result) (number_of c.requires.at c.operation_of.ensures))
