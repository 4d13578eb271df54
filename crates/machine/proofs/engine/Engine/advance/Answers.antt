use Rattle.std.proofs.Common.{refl}
use Rattle.machine.proofs.Running.{is_going, not_going, can_step_of, running_on}
use Rattle.machine.proofs.engine.Engine.advance.Goals as goal

pub step-requires : goal.step-requires
step-requires c = can_step_of c.status_of.ensures c.in-Going.is c.requires.runs c.requires.known

pub returns-in-Going-clause-step : goal.returns-in-Going-clause-step
returns-in-Going-clause-step c = (c.step.ensures.step, is_going c.status_of.ensures c.in-Going.is)

pub returns-in-Going-clause-runs : goal.returns-in-Going-clause-runs
returns-in-Going-clause-runs c = running_on c.status_of.ensures c.in-Going.is c.requires.runs c.requires.known c.step.ensures.step

pub returns-in_default-clause-step : goal.returns-in_default-clause-step
returns-in_default-clause-step c = (refl, refl, not_going c.status_of.ensures c.in_default.not-Going)
