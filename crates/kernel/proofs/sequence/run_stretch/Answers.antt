use Rattle.std.proofs.Common.{subst, arith}
use Rattle.kernel.specs.Sequence.{CameOn}
use Rattle.kernel.proofs.Progress.{broke, goes_on, meets}
use Rattle.kernel.proofs.sequence.run_stretch.Goals as goal

pub threads-preserved : goal.threads-preserved
threads-preserved c = goes_on c.threads.invariant c.run_thread.ensures.stays c.run_thread.ensures.same_marks c.run_thread.ensures.lighter c.in_ok-run_thread.ensures.on

pub returns-in_err-run_thread-clause-on : goal.returns-in_err-run_thread-clause-on
returns-in_err-run_thread-clause-on c = broke _ _ c.from_residual.result _ c.from_residual.ensures.1 (meets c.threads.invariant c.in_err-run_thread.ensures.on)

pub returns-clause-on : goal.returns-clause-on
returns-clause-on c = subst (CameOn _ _ _ _ _) (omega (arith, c.threads.invariant.stays.threads)) c.threads.invariant.came
