use Rattle.std.proofs.Common.{rules, length, subst}
use Rattle.kernel.specs.Jobs.{Refuses}
use Rattle.kernel.proofs.Outcomes.{refused, ended, ended_whole}
use Rattle.kernel.proofs.drawn.draw_order.Goals as goal

pub returns-in_err-text-clause-post : goal.returns-in_err-text-clause-post
returns-in_err-text-clause-post c = refused c.in_err-text.field-0.0 c.from_residual.result c.from_residual.ensures.1 (subst (λ l. Refuses c.args.job.rows.now (length c.args.memory.now) c.args.job.threads l c.in_err-text.field-0.0) c.sizes-sizes.ensures c.in_err-text.ensures)

pub returns-clause-post : goal.returns-clause-post
returns-clause-post c = ended c.in_ok-text.ensures.text (search rules) c.run_order.ensures.order

pub returns-clause-whole : goal.returns-clause-whole
returns-clause-whole c = ended_whole c.in_ok-text.ensures.text (search rules) c.run_order.ensures.order
