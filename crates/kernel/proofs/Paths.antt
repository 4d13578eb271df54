-- One step more at the end of an order, and whether there is a clash on the way then.
use Rattle.std.proofs.Common.{ℕ, zero, suc, ◌⊎◌, Some, None, Option, sym, refl, subst, inl, inr}
use Rattle.model.specs.Steps.{State, Step, Steps}
use Rattle.model.specs.Orders.{Clash, Calm}
use Rattle.ledger.specs.Places.{Notes}
use Rattle.ledger.specs.Runs.{ClashOn}
use Rattle.ledger.proofs.Tells.{race_free}
use Rattle.kernel.specs.Watching.{Said, Follows, Watched}

abbrev pub then : (c : ℕ) (b s u : State) → Steps c b s → Step s u → Steps (suc c) b u
then zero b s u p step = (u, subst (λ x. Step x u) (sym p) step, refl)
then (suc c) b s u p step = (p.0, p.1, then c p.0 s u p.2 step)

clash_then : (c : ℕ) (b s u : State) (p : Steps c b s) (step : Step s u) → ClashOn c b s p ⊎ Clash u → ClashOn (suc c) b u (then c b s u p step)
clash_then zero b s u p step k = k
clash_then (suc c) b s u p step (inl (inl k)) = inl k
clash_then (suc c) b s u p step (inl (inr k)) = inr (clash_then c p.0 s u p.2 step (inl k))
clash_then (suc c) b s u p step (inr k) = inr (clash_then c p.0 s u p.2 step (inr k))

then_clash : (c : ℕ) (b s u : State) (p : Steps c b s) (step : Step s u) → ClashOn (suc c) b u (then c b s u p step) → ClashOn c b s p ⊎ Clash u
then_clash zero b s u p step k = k
then_clash (suc c) b s u p step (inl k) = inl (inl k)
then_clash (suc c) b s u p step (inr k) = elim (then_clash c p.0 s u p.2 step k) [ inl old ↦ inl (inr old) | inr new ↦ inr new ]

pub calm : (c : ℕ) (b s : State) (p : Steps c b s) → (ClashOn c b s p → ⊥) → Calm c b s
calm zero b s p none = (none, p)
calm (suc c) b s p none = ((λ k. none (inl k)), (p.0, p.1, calm c p.0 s p.2 (λ k. none (inr k))))

-- what is told stays right with a step that it was told of
module _ (R : State → State → Type 0) (c : ℕ) (b s u : State) (p : Steps c b s) (step : Step s u) where
  follows_said : (w' : Option Notes) → (ClashOn c b s p → ⊥) → Follows w' u → Said w' u (ClashOn (suc c) b u (then c b s u p step))
  follows_said (Some l) none tells = (tells, λ k. elim (then_clash c b s u p step k) [ inl old ↦ none old | inr new ↦ race_free l u tells new ])
  follows_said None none k = clash_then c b s u p step (inr k)

  pub said_on : (w w' : Option Notes) → Watched R w w' → R s u → Said w s (ClashOn c b s p) → Said w' u (ClashOn (suc c) b u (then c b s u p step))
  said_on (Some l) w' watched r said = follows_said w' said.1 (watched.quiet l refl s u r said.0)
  said_on None w' watched r said = subst (λ w. Said w u (ClashOn (suc c) b u (then c b s u p step))) (sym (watched.clashed refl)) (clash_then c b s u p step (inl said))
