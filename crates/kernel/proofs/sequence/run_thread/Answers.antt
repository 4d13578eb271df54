use Rattle.std.proofs.Common.{◌≡◌, ◌<◌, rules, arith}
use Rattle.machine.specs.Together.{status_at}
use Rattle.kernel.proofs.InTurn.{step_on, step_lighter, rests}
use Rattle.kernel.proofs.Moves.{can_step}
use Rattle.kernel.proofs.Progress.{broke, came_on, goes_on, meets}
use Rattle.kernel.proofs.sequence.run_thread.Goals as goal

pub step_noted-requires-clause-can : goal.step_noted-requires-clause-can
step_noted-requires-clause-can c = can_step c.steps.invariant.some.run.held (omega (arith, c.requires.within, c.steps.invariant.stays.threads)) (search rules)

pub steps-preserved : goal.steps-preserved
steps-preserved c =
    let within : c.args.thread.0 < c.steps.engine.threads = omega (arith, c.requires.within, c.steps.invariant.stays.threads) in
    let goes : status_at c.steps.engine.work.now c.args.thread.0 ≡ 0 = search rules in
    goes_on c.steps.invariant c.step_noted.ensures.stays c.step_noted.ensures.same_marks
    (omega (arith, step_lighter c.step_noted.ensures.stays within goes c.step_noted.ensures.step))
    (step_on c.step_noted.ensures.stays within goes c.in_ok-step_noted.ensures.step)

pub returns-in_err-step_noted-clause-on : goal.returns-in_err-step_noted-clause-on
returns-in_err-step_noted-clause-on c =
    let within : c.args.thread.0 < c.steps.engine.threads = omega (arith, c.requires.within, c.steps.invariant.stays.threads) in
    broke _ _ c.from_residual.result _ c.from_residual.ensures.1 (meets c.steps.invariant (step_on c.step_noted.ensures.stays within (search rules) c.in_err-step_noted.ensures.step))

pub returns-clause-on : goal.returns-clause-on
returns-clause-on c = came_on c.steps.invariant (rests (search rules))
