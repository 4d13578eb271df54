use Rattle.std.proofs.Common.{refl}
use Rattle.kernel.proofs.Decoded.{some_decoded}
use Rattle.kernel.proofs.job.Job.text.Goals as goal

pub returns : goal.returns
returns c = record { enough = c.if-not-suffice.ensures.enough refl; text = some_decoded c.in_ok-decode.ensures }
