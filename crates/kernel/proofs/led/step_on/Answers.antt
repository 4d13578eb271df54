use Rattle.std.proofs.Common.{sym, refl, subst}
use Rattle.kernel.specs.Watching.{Places}
use Rattle.kernel.proofs.Leads.{step_untouched, step_fine, step_clashes}
use Rattle.kernel.proofs.Moves.{can_step, touched_within}
use Rattle.kernel.proofs.led.step_on.Goals as goal

pub step-requires : goal.step-requires
step-requires c = can_step c.requires.some.run.held c.requires.within c.requires.goes

pub note_touch-requires : goal.note_touch-requires
note_touch-requires c = record {
  within = subst (Places _) c.in-Some.is (touched_within _ (can_step c.requires.some.run.held c.requires.within c.requires.goes) c.step.ensures.step _ c.requires.some.room);
}

pub returns-in_default-clause-on : goal.returns-in_default-clause-on
returns-in_default-clause-on c = step_untouched c.step.ensures.stays c.requires.within c.requires.goes c.step.ensures.step c.in_default.is

pub returns-then-is_err-clause-on : goal.returns-then-is_err-clause-on
returns-then-is_err-clause-on c = (step_clashes c.step.ensures.stays c.requires.within c.requires.goes c.step.ensures.step _ c.in-Some.is c.note_touch.result (sym c.if-is_err.ensures.value) c.note_touch.ensures.noted, refl)

pub returns-clause-on : goal.returns-clause-on
returns-clause-on c = step_fine c.step.ensures.stays c.requires.within c.requires.goes c.step.ensures.step _ c.in-Some.is c.note_touch.result (sym c.if-is_err.ensures.value) c.note_touch.ensures.noted c.note_touch.ensures.same_marks.1
