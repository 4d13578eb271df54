-- What `decode` found is a text for an order.
use Rattle.std.proofs.Common.{ℕ, List, Ok, refl}
use Rattle.model.specs.Kernel.{Kernel}
use Rattle.rows.specs.declared.decoder.Text.{Text}
use Rattle.rows.specs.Decoded.{Decoded, DecodePost}
use Rattle.machine.proofs.Begin.{decoded_text}
use Rattle.kernel.specs.Ran.{TextIn, SomeText}

pub decoded_in : {w t t' : List ℕ} {x : Text} {k : Kernel} → Decoded w t t' x k → TextIn (record { rows = w; ends = t'; variables = x.variables }) k
decoded_in d = record { says = d.says; variables = d.variables; stands = decoded_text _ d refl }

pub some_decoded : {w t t' : List ℕ} {x : Text} → DecodePost w t t' (Ok x) → SomeText (record { rows = w; ends = t'; variables = x.variables })
some_decoded post = record { kernel = post.says.0; text = decoded_in post.says.1 }
