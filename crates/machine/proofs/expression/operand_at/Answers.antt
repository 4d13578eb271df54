use Rattle.std.proofs.Common.{refl}
use Rattle.rows.specs.declared.head.Expression.TheVariants.{Number, Variable, Me, All}
use Rattle.machine.proofs.Values.{whole_head, known, leaf_valued}
use Rattle.machine.proofs.expression.operand_at.Goals as goal

pub expression_head-requires : goal.expression_head-requires
expression_head-requires c = whole_head c.requires

pub bounds-seen-x : goal.bounds-seen-x
bounds-seen-x c = known (Variable _) c.in-Variable.ensures c.requires

pub returns-in-Number : goal.returns-in-Number
returns-in-Number c = leaf_valued (Number _) c.in-Number.ensures (λ y. refl)

pub returns-in-Variable : goal.returns-in-Variable
returns-in-Variable c = leaf_valued (Variable _) c.in-Variable.ensures (λ y. refl)

pub returns-in-Me : goal.returns-in-Me
returns-in-Me c = leaf_valued Me c.in-Me.ensures (λ y. refl)

pub returns-in-All : goal.returns-in-All
returns-in-All c = leaf_valued All c.in-All.ensures (λ y. refl)
