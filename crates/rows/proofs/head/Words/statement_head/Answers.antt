use Rattle.std.proofs.Common.{sym, ap, ◌∙◌}
use Rattle.std.proofs.lemmas.Result.{err_from_is_err_and}
use Rattle.rows.specs.Heads.{answer, statement_of}
use Rattle.rows.specs.declared.head.Statement.TheVariants.{Assign}
use Rattle.rows.proofs.Answered.{at_front, answer_then, told_err, told_ok}
use Rattle.rows.proofs.head.Words.statement_head.Goals as goal

pub returns-in_err-variable-in-2 : goal.returns-in_err-variable-in-2
returns-in_err-variable-in-2 c =
    let p = err_from_is_err_and c.from_residual-in_err-variable-in-2.result c.from_residual-in_err-variable-in-2.ensures.1 in
    rw (p.1, p.2) (told_err Assign _ _ c.in_err-variable-in-2.ensures ∙ sym (ap (answer (λ x. x)) (at_front (statement_of _ _) _ c.in_ok-word.ensures.front c.in-2.is) ∙ answer_then Assign _))

pub returns-in_ok-variable-in-2 : goal.returns-in_ok-variable-in-2
returns-in_ok-variable-in-2 c =
    told_ok Assign _ _ c.in_ok-variable-in-2.ensures ∙ sym (ap (answer (λ x. x)) (at_front (statement_of _ _) _ c.in_ok-word.ensures.front c.in-2.is) ∙ answer_then Assign _)
