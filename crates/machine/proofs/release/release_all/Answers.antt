use Rattle.std.proofs.Common.{refl}
use Rattle.machine.proofs.Together.{waiting_released, none_released}
use Rattle.machine.proofs.release.release_all.Goals as goal

pub returns-in-Waiting : goal.returns-in-Waiting
returns-in-Waiting c = waiting_released c.look-found.ensures c.requires c.in-Waiting.is c.release.ensures

pub returns-in_default : goal.returns-in_default
returns-in_default c = none_released c.look-found.ensures c.in_default.not-Waiting refl
