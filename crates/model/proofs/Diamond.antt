-- The diamond of steps: two steps from one state are one, clash, or can be taken in either order.
use Rattle.std.proofs.Common.{◌≡◌, ℕ, zero, suc, true, not, List, [], ◌∷◌, Some, sym, refl, ap, ◌∙◌, subst, inl, inr, arith}
use native.Mathlib.Decide.{ℕ_discrete}
use Rattle.std.proofs.lemmas.Bool.{and_parts}
use Rattle.std.specs.List.{slice_get}
use Rattle.model.specs.declared.Status.TheVariants.{Going as going}
use Rattle.model.specs.Steps.{Touch, Thread, State, is_going, thread_after, stepped, none_going, Step, one, together}
use Rattle.model.specs.Races.{In}
use Rattle.model.specs.Orders.{Clash, Swap}
use Rattle.model.proofs.Confluence.{Joined, same, clash, swap, Diamond}
use Rattle.model.proofs.Commutes.{effect_in, commutes}
use Rattle.model.proofs.Threads.{nth_set_same, nth_set_other, keeps_touch}

-- a thread's step takes no touch away from any thread
touches_stay : (s : State) (i : ℕ) (t : Thread) → slice_get s.threads i ≡ Some t → (k : ℕ) (v : Thread) → slice_get s.threads k ≡ Some v → (w : Thread) × (slice_get (stepped s i t).threads k ≡ Some w) × ((τ : Touch) → In τ v.touched → In τ w.touched)
touches_stay s i t is k v ks = elim (ℕ_discrete i k) [
  | yes e ↦ (
    thread_after (effect_in s i t) s.memory,
    subst (λ n. slice_get (stepped s i t).threads n ≡ Some (thread_after (effect_in s i t) s.memory)) e (nth_set_same s.threads i t _ is),
    λ τ h. keeps_touch i _ _ t t.todo s.memory (subst (λ x. In τ x.touched) (same_thread e) h),
  )
  | no apart ↦ (v, nth_set_other s.threads i k _ apart ∙ ks, λ τ h. h)
]
  where
    same_thread : i ≡ k → v ≡ t
    same_thread e = cc

-- .. so a race stays one
race_stays : (s : State) (i : ℕ) (t : Thread) → slice_get s.threads i ≡ Some t → Clash s → Clash (stepped s i t)
race_stays s i t is (k, l, a, r) =
    let x = touches_stay s i t is k r.t r.is_t in
    let y = touches_stay s i t is l r.u r.is_u in (
      k,
      l,
      a,
      record {
        differ = r.differ;
        t = x.0;
        u = y.0;
        is_t = x.1;
        is_u = y.1;
        how_t = r.how_t;
        how_u = r.how_u;
        by_t = x.2 _ r.by_t;
        by_u = y.2 _ r.by_u;
        apart = r.apart;
      },
    )

pub none_goes : (ts : List Thread) (i : ℕ) (t : Thread) → none_going ts ≡ true → slice_get ts i ≡ Some t → t.status ≡ going → ⊥
none_goes [] i t none is g = let z : ◌≡◌ {A = ℕ} 0 1 = cc in omega arith
none_goes (u ∷ ts) zero t none is g =
    let rests = (and_parts (not (is_going u.status)) (none_going ts) none).0 in
    let z : ◌≡◌ {A = ℕ} 0 1 = cc in omega arith
none_goes (u ∷ ts) (suc i) t none is g = none_goes ts i t (and_parts (not (is_going u.status)) (none_going ts) none).1 is g

joined : {x y z : State} → Step x y → Step x z → Joined Step Clash x y z
joined {x} (one i t is g) (one j u js h) = elim (ℕ_discrete i j) [
  | yes e ↦ same (ap (λ k. stepped x k t) e ∙ ap (λ v. stepped x j v) (same_thread e))
  | no apart ↦ swapped apart (commutes x i j t u apart (record { is = is; goes = g }) (record { is = js; goes = h }))
]
  where
    same_thread : i ≡ j → t ≡ u
    same_thread e = cc

    swapped : (i ≡ j → ⊥) → Swap x i j t u → Joined Step Clash x (stepped x i t) (stepped x j u)
    swapped apart k =
        let next : Step (stepped x i t) (stepped (stepped x i t) j u) = one j u k.second_stays.is h in
        elim k.alike [
          | inl r ↦ clash _ next (i, j, r.0, r.1)
          | inr e ↦ swap _ next (subst (λ w. Step (stepped x j u) w) (sym e) (one i t k.first_stays.is g))
              (λ c. subst Clash (sym e) (race_stays (stepped x j u) i t k.first_stays.is c))
        ]
joined {x} (one i t is g) (together none some) = absurd (none_goes x.threads i t none is g)
joined {x} (together none some) (one i t is g) = absurd (none_goes x.threads i t none is g)
joined (together none some) (together none' some') = same refl

pub diamond : Diamond Step Clash
diamond x y z r s = joined r s
