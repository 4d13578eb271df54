-- The first steps of the order in which threads go one after the other, one more at a time.
use Rattle.std.proofs.Common.{ℕ, zero, suc, ◌<◌, sym, refl, subst, ⊎_elim, arith}
use Rattle.std.proofs.lemmas.Bool.{cases_eq}
use Rattle.model.specs.Steps.{State, Step}
use Rattle.model.specs.Orders.{RaceFree, Calm, next_state, after}
use Rattle.kernel.specs.Says.{CalmWay}

pub no_way : (b : State) → CalmWay b 0
no_way b = record { steps = λ d l. absurd (omega arith); calm = λ d l. absurd (omega arith) }

last_too : (P : ℕ → Type 0) (c : ℕ) → ((d : ℕ) → d < c → P d) → P c → (d : ℕ) → d < suc c → P d
last_too P c each last d l = ⊎_elim (λ e. subst P (sym e) last) (λ other. each d (omega arith)) (cases_eq d c)

pub further : {b : State} {c : ℕ} → CalmWay b c → RaceFree (after c b) → Step (after c b) (after (suc c) b) → CalmWay b (suc c)
further {b} {c} way free step = record {
  steps = last_too (λ d. Step (after d b) (after (suc d) b)) c way.steps step;
  calm = last_too (λ d. RaceFree (after d b)) c way.calm free;
}

-- with no clash in the last state, they are a calm chain
pub calm_chain : (c : ℕ) (b : State) → CalmWay b c → RaceFree (after c b) → Calm c b (after c b)
calm_chain zero b way free = (free, refl)
calm_chain (suc c) b way free =
    (way.calm 0 (omega arith), (next_state b, way.steps 0 (omega arith), calm_chain c (next_state b) (record { steps = λ d l. way.steps (suc d) (omega arith); calm = λ d l. way.calm (suc d) (omega arith) }) free))
