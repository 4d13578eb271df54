use Rattle.std.proofs.lemmas.Result.{err_from_is_err_and}
use Rattle.rows.specs.Parts.{head_of}
use Rattle.rows.specs.declared.head.Kind.TheVariants.{Expression as AnExpression, Statement as AStatement}
use Rattle.rows.proofs.Answered.{told_err, told_ok}
use Rattle.rows.proofs.head.Words.head.Goals as goal

pub returns-in_err-expression_head-in-Expression : goal.returns-in_err-expression_head-in-Expression
returns-in_err-expression_head-in-Expression c =
    let p = err_from_is_err_and c.from_residual.result c.from_residual.ensures.1 in
    rw (p.1, p.2, c.in-Expression.is) (told_err (head_of AnExpression) _ _ c.in_err-expression_head-in-Expression.ensures)

pub returns-in_err-statement_head-in-Statement : goal.returns-in_err-statement_head-in-Statement
returns-in_err-statement_head-in-Statement c =
    let p = err_from_is_err_and c.from_residual-in_err-statement_head-in-Statement.result c.from_residual-in_err-statement_head-in-Statement.ensures.1 in
    rw (p.1, p.2, c.in-Statement.is) (told_err (head_of AStatement) _ _ c.in_err-statement_head-in-Statement.ensures)

pub returns-in_ok-expression_head-in-Expression : goal.returns-in_ok-expression_head-in-Expression
returns-in_ok-expression_head-in-Expression c = rw (c.in-Expression.is, c.from.ensures) (told_ok (head_of AnExpression) _ _ c.in_ok-expression_head-in-Expression.ensures)

pub returns-in_ok-statement_head-in-Statement : goal.returns-in_ok-statement_head-in-Statement
returns-in_ok-statement_head-in-Statement c = rw (c.in-Statement.is, c.from-in-Statement.ensures) (told_ok (head_of AStatement) _ _ c.in_ok-statement_head-in-Statement.ensures)
