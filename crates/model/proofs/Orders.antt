-- The theorems about orders, from the diamond, the cost and the one order.
use Rattle.std.proofs.Common.{◌≡◌, ℕ, zero, suc, sym, ◌∙◌, inl, inr, true≢false, le_refl}
use Rattle.model.specs.Steps.{State, Step, one, together, Steps, Reaches, Ended, begin}
use Rattle.model.specs.Orders.{Clash, RaceFree, Calm, after, Meets, FirstOrderTells, GoesOn, AnyOrder, OneOrderTells}
use Rattle.model.proofs.Chains.{forget, along, linked}
use Rattle.model.proofs.Confluence.{Stuck, drags, tells}
use Rattle.model.proofs.Diamond.{none_goes, diamond}
use Rattle.model.proofs.Cost.{state_cost}
use Rattle.model.proofs.InOrder.{in_order}

no_step : {e u : State} → Step e u → Ended e → ⊥
no_step {e} (one i t is g) end = none_goes e.threads i t end.0 is g
no_step (together none some) end = true≢false (sym some ∙ end.1)

stuck : (e : State) → Ended e → Stuck Step e
stuck e end u r = no_step r end

at_end : (d : ℕ) (e u : State) → Ended e → Calm d e u → e ≡ u
at_end zero e u end p = p.1
at_end (suc d) e u end p = absurd (stuck e end p.1.0 p.1.1)

pub goes_on : GoesOn
goes_on s =
    let r = in_order (λ _. Unit {0}) (state_cost s) s (le_refl _) (λ _ _. tt) in
    (after r.0 s, (r.0, forget (λ _. Unit {0}) Step r.0 s (after r.0 s) r.1), r.2)

-- from any state b: a calm order to an end stays ahead, whatever steps are taken
pub calm_drags : (b s e : State) (c : ℕ) → Calm c b e → Ended e → Reaches b s → (d : ℕ) × Calm d s e
calm_drags b s e c calm end r = elim (drags Step Clash diamond ⊥ e (stuck e end) r.0 c b s calm r.1) [ inl f ↦ absurd f | inr d ↦ d ]

pub meets : Meets
meets b s t c calm free r =
    let end = goes_on s in
    let on = along RaceFree Step end.1.0 s end.0 (λ n u q. free u (n, q)) end.1.1 in
    let whole = linked RaceFree Step c end.1.0 b s end.0 calm on in
    let rest = calm_drags b t end.0 whole.0 whole.1 end.2 r in
    (end.0, end.1, (rest.0, forget RaceFree Step rest.0 t end.0 rest.1))

-- from any state b: all orders end alike
pub one_end : (b s t : State) → ((u : State) → Reaches b u → RaceFree u) → Reaches b s → Reaches b t → Ended s → Ended t → s ≡ t
one_end b s t free p q end_s end_t =
    let calm = along RaceFree Step p.0 b s (λ n u r. free u (n, r)) p.1 in
    let rest = calm_drags b t s p.0 calm end_s q in
    sym (at_end rest.0 t s end_t rest.1)

pub any_order : AnyOrder
any_order k n turns m free s t = one_end (begin k n turns m) s t (λ u r (i, j, a, race). free (u, i, j, a, r, race))

-- from any state b: one calm order to an end shows that there is no clash
pub calm_tells : (b s e : State) (c : ℕ) → Calm c b e → Ended e → Reaches b s → RaceFree s
calm_tells b s e c calm end r = tells Step Clash diamond ⊥ e (stuck e end) r.0 c b s calm r.1

pub one_order_tells : OneOrderTells
one_order_tells k n turns m c e calm end (s, i, j, a, r, race) = calm_tells (begin k n turns m) s e c calm end r (i, j, a, race)

-- from any state b: what the one order meets
pub first_order_finds : (b s : State) → Reaches b s → Clash s → (c : ℕ) × Steps c b (after c b) × Clash (after c b)
first_order_finds b s r race =
    let Found : Type 0 = (c : ℕ) × Steps c b (after c b) × Clash (after c b) in
    let way = in_order (λ u. Clash u → Found) (state_cost b) b (le_refl _) (λ c p k. (c, p, k)) in
    tells Step Clash diamond Found (after way.0 b) (stuck (after way.0 b) way.2) r.0 way.0 b s way.1 r.1 race

pub first_order_tells : FirstOrderTells
first_order_tells k n turns m (s, i, j, a, r, race) = first_order_finds (begin k n turns m) s r (i, j, a, race)
