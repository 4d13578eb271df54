-- The next stamp, or all begins again.
use Rattle.std.proofs.Common.{ap, ◌∙◌}
use Rattle.ledger.specs.Lent.{notes_in}
use Rattle.ledger.specs.Places.{with_stamp}
use Rattle.ledger.proofs.Posts.{next_post}
use Rattle.ledger.proofs.places.Ledger.next_stretch.Goals as goal

pub returns-in-Some-clause-next : goal.returns-in-Some-clause-next
returns-in-Some-clause-next c = next_post _ _ (ap (with_stamp (notes_in c.args.self.now)) c.in-Some.ensures)

pub returns-in-None-clause-next : goal.returns-in-None-clause-next
returns-in-None-clause-next c = next_post _ _ (c.clear.ensures.cleared ∙ ap (with_stamp (notes_in c.args.self.now)) c.in-None.ensures)
