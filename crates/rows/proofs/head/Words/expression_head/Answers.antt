use Rattle.std.proofs.Common.{sym, ap}
use Rattle.rows.specs.Heads.{answer, expression_of}
use Rattle.rows.proofs.Answered.{at_front}
use Rattle.rows.proofs.head.Words.expression_head.Goals as goal

pub returns-in-2 : goal.returns-in-2
returns-in-2 c = sym (ap (answer (λ x. x)) (at_front (expression_of _ _) _ c.in_ok-word.ensures.front c.in-2.is))
