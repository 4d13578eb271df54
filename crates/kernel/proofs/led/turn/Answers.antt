use Rattle.std.proofs.Common.{refl, arith}
use Rattle.kernel.proofs.Leads.{passed_on, at_end}
use Rattle.kernel.proofs.Moves.{chosen}
use Rattle.kernel.proofs.Turns.{resumes, ends}
use Rattle.kernel.proofs.Watches.{resumed_watched}
use Rattle.kernel.proofs.led.turn.Goals as goal

pub step_on-requires-clause-within : goal.step_on-requires-clause-within
step_on-requires-clause-within c = (chosen (omega arith) c.in-Some.ensures).0

pub step_on-requires-clause-goes : goal.step_on-requires-clause-goes
step_on-requires-clause-goes c = (chosen (omega arith) c.in-Some.ensures).1

pub returns-in_err-step_on-clause-on : goal.returns-in_err-step_on-clause-on
returns-in_err-step_on-clause-on c = passed_on _ _ c.from_residual.result _ c.from_residual.ensures.1 c.in_err-step_on.ensures.on.0

pub returns-then-not-resume-clause-on : goal.returns-then-not-resume-clause-on
returns-then-not-resume-clause-on c = at_end (ends c.resume.ensures.stays c.resume.ensures.memory c.in_default.ensures c.if-not-resume.ensures.resumed)

pub returns-clause-on : goal.returns-clause-on
returns-clause-on c = resumes c.resume.ensures.stays c.resume.ensures.memory c.in_default.ensures c.if-not-resume.ensures.resumed (resumed_watched refl c.next_stretch.ensures.next c.next_stretch.ensures.same_marks.1)
