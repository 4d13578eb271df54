use Rattle.kernel.proofs.Turns.{waiting_resumed, resumes, released_ends}
use Rattle.kernel.proofs.order.turn.Goals as goal

pub returns-in-Waiting-clause-turned : goal.returns-in-Waiting-clause-turned
returns-in-Waiting-clause-turned c = resumes c.release.ensures.stays c.release.ensures.memory c.in_default.ensures (waiting_resumed c.in-Waiting.ensures.release) c.resumed.ensures

pub returns-in-Nobody-clause-turned : goal.returns-in-Nobody-clause-turned
returns-in-Nobody-clause-turned c = released_ends c.release.ensures.stays c.release.ensures.memory c.in_default.ensures _ c.in-Nobody.is c.release.ensures.release
