use Rattle.kernel.proofs.Moves.{can_step, within_of}
use Rattle.kernel.proofs.Advances.{advances}
use Rattle.kernel.proofs.order.advance.Goals as goal

pub step-touch-requires : goal.step-touch-requires
step-touch-requires c = can_step c.requires.some.run.held c.requires.within c.requires.goes

pub noted-requires : goal.noted-requires
noted-requires c = within_of _ _ (can_step c.requires.some.run.held c.requires.within c.requires.goes) c.step-touch.ensures.step c.requires.some.room

pub returns-clause-on : goal.returns-clause-on
returns-clause-on c = advances _ c.step-touch.ensures.stays c.requires.within c.requires.goes c.step-touch.ensures.step c.noted.ensures
