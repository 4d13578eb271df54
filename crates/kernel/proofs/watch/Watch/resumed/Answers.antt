use Rattle.std.proofs.Common.{ap, rules}
use Rattle.kernel.specs.Watching.{noted_in}
use Rattle.kernel.proofs.Watches.{resumed_watched, watched_over}
use Rattle.kernel.proofs.watch.Watch.resumed.Goals as goal

pub returns : goal.returns
returns c =
    watched_over c.over.ensures (search rules)
    (resumed_watched (ap (λ s. noted_in s c.args.marks.now) c.in-Some.is) c.next_stretch.ensures.next c.next_stretch.ensures.same_marks.1)
