-- Nothing is noted yet.
use Rattle.ledger.proofs.Posts.{open_post}
use Rattle.ledger.proofs.places.Ledger.open.Goals as goal

pub returns-clause-opened : goal.returns-clause-opened
returns-clause-opened c = open_post _ _ c.clear.ensures.cleared
