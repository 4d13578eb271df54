use Rattle.std.proofs.Common.{subst}
use Rattle.kernel.specs.Watching.{Places}
use Rattle.kernel.proofs.Moves.{touched_within}
use Rattle.kernel.proofs.noted.step_noted.Goals as goal

pub note_touch-requires : goal.note_touch-requires
note_touch-requires c = record { within = subst (Places _) c.in-Some.is (touched_within _ c.requires.can c.step.ensures.step _ c.requires.room) }
