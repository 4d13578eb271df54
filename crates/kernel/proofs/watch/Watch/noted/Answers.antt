use Rattle.std.proofs.Common.{sym, ap, rules}
use Rattle.kernel.specs.Watching.{noted_in}
use Rattle.kernel.proofs.Watches.{untouched_watched, fine_watched, clash_watched, watched_over}
use Rattle.kernel.proofs.watch.Watch.noted.Goals as goal

pub returns-in_default : goal.returns-in_default
returns-in_default c = untouched_watched _ _ _ c.in_default.is

pub returns-then-is_err : goal.returns-then-is_err
returns-then-is_err c = clash_watched _ (ap (λ s. noted_in s c.args.marks.now) c.in-Some-0₀.is) _ _ c.in-Some.is c.note_drawn.result (sym c.if-is_err.ensures.value) c.note_drawn.ensures.noted

pub returns : goal.returns
returns c =
    watched_over c.over.ensures (search rules)
    (fine_watched _ (ap (λ s. noted_in s c.args.marks.now) c.in-Some-0₀.is) _ _ c.in-Some.is c.note_drawn.result (sym c.if-is_err.ensures.value) c.note_drawn.ensures.noted c.note_drawn.ensures.same_marks.1)
