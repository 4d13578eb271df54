use Rattle.std.proofs.Common.{refl}
use Rattle.machine.proofs.Begin.{decoded_text}
use Rattle.machine.proofs.script.Script.new.Goals as goal

pub returns : goal.returns
returns c = record { each = λ t x k d same. decoded_text _ d same; is = refl }
