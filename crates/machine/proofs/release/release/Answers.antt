use Rattle.std.proofs.Common.{◌∙◌}
use Rattle.machine.proofs.Together.{released_waits, released_stays}
use Rattle.machine.proofs.release.release.Goals as goal
use Rattle.machine.proofs.release.release.Goals.{then-work-j, else-work-j}

pub loop-j-preserved : goal.loop-j-preserved
loop-j-preserved c =
    elim c.if-work-j.branch [
      | then-work-j w ↦ w.work-is ∙ released_waits c.loop-j.j _ _ c.loop-j.invariant w.if-work-j.true
      | else-work-j w ↦ w.work-is ∙ released_stays c.loop-j.j _ _ c.loop-j.invariant w.if-work-j.false
    ]
