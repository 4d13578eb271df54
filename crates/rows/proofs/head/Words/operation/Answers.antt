use Rattle.std.proofs.Common.{refl, ap, ◌∙◌, sym}
use Rattle.rows.specs.Heads.{answer, operation_of}
use Rattle.rows.proofs.Answered.{at_front}
use Rattle.rows.proofs.HeadsExact.{operation_named}
use Rattle.rows.proofs.head.Words.operation.Goals as goal

pub returns : goal.returns
returns c =
    c.or.ensures ∙ operation_named _ _ _ _ _ c.try_from.ensures c.at.ensures
    ∙ sym (ap (answer (λ x. x)) (at_front (operation_of _) _ c.in_ok-word.ensures.front refl))
