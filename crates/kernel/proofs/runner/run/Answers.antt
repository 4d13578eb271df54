use Rattle.std.proofs.Common.{sym}
use Rattle.kernel.proofs.Verdicts.{ran, too_few}
use Rattle.kernel.proofs.runner.run.Goals as goal

pub returns-then-too_little : goal.returns-then-too_little
returns-then-too_little c = too_few _ _ _ _ _ _ (sym c.if-too_little.ensures)

pub returns : goal.returns
returns c = ran _ _ _ _ _ _ _ _ _ (sym c.if-too_little.ensures) c.run_in_parts.ensures
