use Rattle.std.proofs.Common.{arith}
use Rattle.kernel.proofs.InTurn.{resumes, ends}
use Rattle.kernel.proofs.Progress.{SoFar, broke, came_on, goes_on, meets}
use Rattle.kernel.proofs.Turns.{resumed_lighter}
use Rattle.kernel.proofs.sequence.run_stretches.Goals as goal

pub returns-in_err-run_stretch-clause-came : goal.returns-in_err-run_stretch-clause-came
returns-in_err-run_stretch-clause-came c = broke _ _ c.from_residual.result _ c.from_residual.ensures.1 (meets c.stretches.invariant c.in_err-run_stretch.ensures.on)

pub stretches-preserved : goal.stretches-preserved
stretches-preserved c =
    let waited : SoFar c.args.engine.now c.args.ledger.now 0 c.run_stretch.new.engine c.run_stretch.new.ledger c.run_stretch.new.engine.threads = goes_on c.stretches.invariant c.run_stretch.ensures.stays c.run_stretch.ensures.same_marks c.run_stretch.ensures.lighter c.in_ok-run_stretch.ensures.on in
    goes_on waited c.resume.ensures.stays c.next_stretch.ensures.same_marks
    (omega (arith, resumed_lighter c.resume.ensures.stays c.resume.ensures.memory c.if-not-resume.ensures.resumed))
    (resumes c.resume.ensures.stays c.resume.ensures.memory c.if-not-resume.ensures.resumed c.next_stretch.ensures.next)

pub returns-then-not-resume-clause-came : goal.returns-then-not-resume-clause-came
returns-then-not-resume-clause-came c = record {
  each = λ b count run.
      let last = (came_on c.stretches.invariant c.in_ok-run_stretch.ensures.on).each b count run in
      (last.0, ends c.resume.ensures.stays c.resume.ensures.memory c.if-not-resume.ensures.resumed b last.0 last.1);
}
