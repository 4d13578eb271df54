-- Steps of two threads clash, or can be taken in either order: the table's part carried over to states.
use Rattle.std.proofs.Common.{◌≡◌, ℕ, length, set, sym, ap, ◌∙◌, subst, inl, inr, length-set}
use lib.Seq.{set_comm}
use Rattle.model.specs.Steps.{Thread, State, Effect, next_effect, thread_after, memory_after, stepped}
use Rattle.model.specs.Races.{In, Race}
use Rattle.model.specs.Orders.{Going, Commutes}
use Rattle.model.proofs.Effects.{touches, Clashing, Independent, clash_or_independent, memory_keeps_length}
use Rattle.model.proofs.Threads.{nth_set_same, nth_set_other, makes_touch}

-- the effect of thread i's next step in s
abbrev pub effect_in : State → ℕ → Thread → Effect
effect_in s i t = next_effect i (length s.threads) (length s.memory) t t.todo

abbrev did : Effect → State → ℕ → State
did e s i = record { memory = memory_after e s.memory; threads = set s.threads i (thread_after e s.memory) }

-- a step of thread i leaves thread j's next step as it was
effect_stays : (s : State) (i j : ℕ) (t u : Thread) → effect_in (stepped s i t) j u ≡ effect_in s j u
effect_stays s i j t u =
    cc (length-set s.threads i (thread_after (effect_in s i t) s.memory), memory_keeps_length (effect_in s i t) s.memory)

-- the state after steps of i and j, by the effects that these had at first
both_did : (s : State) (i j : ℕ) (t u : Thread) → stepped (stepped s i t) j u ≡ did (effect_in s j u) (did (effect_in s i t) s i) j
both_did s i j t u = ap (λ e. did e (stepped s i t) j) (effect_stays s i j t u)

did_swap : (p q : Effect) (s : State) (i j : ℕ) → (i ≡ j → ⊥) → Independent p q s.memory → did q (did p s i) j ≡ did p (did q s j) i
did_swap p q s i j apart h = cc (set_comm s.threads i j (thread_after p s.memory) (thread_after q s.memory) apart)

going_stays : (s : State) (i j : ℕ) (t u : Thread) → (i ≡ j → ⊥) → Going s j u → Going (stepped s i t) j u
going_stays s i j t u apart g = record { is = nth_set_other s.threads i j _ apart ∙ g.is; goes = g.goes }

-- both touches are kept in mind after both steps, so that a clash of the effects is one of the threads
race_after : (s : State) (i j : ℕ) (t u : Thread) → (i ≡ j → ⊥) → Going s i t → Going s j u → (c : Clashing (touches (effect_in s i t)) (touches (effect_in s j u))) → Race (stepped (stepped s i t) j u) i j c.at
race_after s i j t u apart g h c =
    let m = (stepped s i t).memory in
    let t1 = thread_after (effect_in s i t) s.memory in
    let u1 = thread_after (effect_in (stepped s i t) j u) m in
    record {
      differ = apart;
      t = t1;
      u = u1;
      is_t = nth_set_other (set s.threads i t1) j i u1 (λ e. apart (sym e)) ∙ nth_set_same s.threads i t t1 g.is;
      is_u = nth_set_same (set s.threads i t1) j u u1 (going_stays s i j t u apart h).is;
      how_t = c.how_x;
      how_u = c.how_y;
      by_t = makes_touch i _ _ t t.todo s.memory c.by_x;
      by_u = makes_touch j _ _ u u.todo m (subst (λ e. In (record { at = c.at; how = c.how_y }) (touches e)) (sym (effect_stays s i j t u)) c.by_y);
      apart = c.apart;
    }

pub commutes : Commutes
commutes s i j t u apart g h = record {
  first_stays = going_stays s j i u t (λ e. apart (sym e)) g;
  second_stays = going_stays s i j t u apart h;
  alike = elim (clash_or_independent (effect_in s i t) (effect_in s j u) s.memory) [
    | inl c ↦ inl (c.at, race_after s i j t u apart g h c)
    | inr k ↦ inr (both_did s i j t u ∙ did_swap (effect_in s i t) (effect_in s j u) s i j apart k ∙ sym (both_did s j i u t))
  ];
}
