use Rattle.std.proofs.Common.{arith}
use Rattle.machine.proofs.Parts.{lent_size}
use Rattle.machine.proofs.Begin.{begun_more, all_begun}
use Rattle.machine.proofs.engine.begin_all.Goals as goal

pub loop-j-preserved : goal.loop-j-preserved
loop-j-preserved c = begun_more c.loop-j.work c.begin.new.words c.loop-j.j _ _ (lent_size c.loop-j.j) (omega arith) c.loop-j.invariant c.begin.ensures

pub returns : goal.returns
returns c = all_begun c.loop-j.work c.loop-j.j _ _ c.loop-j-test.false (omega arith) c.loop-j.invariant
