-- What each exit of `draw_order` owes.
use Rattle.std.proofs.Common.{ℕ, ◌≡◌, ◌≤◌, Bool, List, length, Ok, Err, Result, IsErrAnd, sym, refl, subst, arith}
use Rattle.model.proofs.Promised as model
use Rattle.model.specs.Kernel.{Kernel}
use Rattle.model.specs.Rows.{Rows}
use Rattle.rows.specs.declared.refusals.Refusal.{Refusal}
use Rattle.rows.specs.Decoded.{Reason, DecodePost}
use Rattle.rows.proofs.Texts.{one_kernel}
use Rattle.ledger.proofs.Posts.{laws}
use Rattle.machine.specs.Stands.{Source}
use Rattle.kernel.specs.declared.job.Refused.{Refused}
use Rattle.kernel.specs.declared.job.Sizes.{Sizes}
use Rattle.kernel.specs.Drawn.{Parts, DrawnPost}
use Rattle.kernel.specs.Jobs.{Refuses}
use Rattle.kernel.specs.Outcome.{IsWhole}
use Rattle.kernel.specs.Ran.{SomeText, Ran, OrderPost}
use Rattle.kernel.proofs.Whole.{whole}

pub parts : Parts
parts = record { one_kernel = one_kernel; orders = model.parts; ledger_tells = laws.ledger_tells }

-- with a table that is long enough, `decode` refuses only what is no text
pub no_text : {w t t' : List ℕ} {x : Refusal} → length w ≤ length t → DecodePost w t t' (Err x) → (k : Kernel) → Rows w k → ⊥
no_text {w} {t} {x = x} room post =
    let refused = post.says in
    refused.no_text (λ e. let h = subst (Reason w (length t) x.at) e refused.reason in omega arith)

-- what is owed where a job is refused
pub refused : {w : List ℕ} {n turns : ℕ} {l : Sizes} {m o : List ℕ} (x : Refused) (r : Result Bool Refused) → IsErrAnd r (λ y. y ≡ x) → Refuses w (length m) n l x → DrawnPost w n turns l m m o o r
refused x (Ok clashed) is refuses = absurd is
refused {w} {n} {l = l} {m} x (Err y) is refuses = record { says = (subst (Refuses w (length m) n l) (sym is) refuses, refl, refl); parts = parts }

-- .. and where an order has run
module _ {s : Source} {n turns : ℕ} {m m' last o o' : List ℕ} {r : Bool} (text : SomeText s) (same : last ≡ m') (order : OrderPost s.rows n turns m m' o o' r) where
  run : Ran text.kernel n turns m last o o' r
  run = subst (λ last. Ran text.kernel n turns m last o o' r) (sym same) (order.each text.kernel text.text.says)

  pub ended : {l : Sizes} → DrawnPost s.rows n turns l m last o o' (Ok r)
  ended = record { says = (text.kernel, text.text.says, run); parts = parts }

  pub ended_whole : IsWhole s.rows n turns m last o o' (Ok r)
  ended_whole = (text.kernel, text.text.says, whole run)
