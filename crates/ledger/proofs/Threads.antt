-- The touches of all threads: what a step adds to them, and what is left when all go on.
use Rattle.std.proofs.Common.{◌≡◌, ℕ, zero, suc, false, ◌⊎◌, List, [], ◌∷◌, ◌++◌, length, set, replicate, Some, sym, refl, ap, ◌∙◌, subst, inl, inr, arith}
use native.Mathlib.Decide.{ℕ_discrete}
use lib.ListN.{length-replicate}
use Rattle.std.proofs.lemmas.List.{get_or-replicate}
use Rattle.std.proofs.lemmas.Option.{slice_get_within, get_or_from_slice_get}
use Rattle.std.specs.List.{slice_get}
use Rattle.model.specs.declared.Access.{Access}
use Rattle.model.specs.Kernel.{Kernel}
use Rattle.model.specs.Steps.{Touch, Thread, State, Effect, next_effect, thread_after, stepped, all_released, resumed, begin}
use Rattle.model.specs.Races.{together, In, here, there, Race}
use Rattle.model.proofs.Effects.{touches}
use Rattle.model.proofs.Threads.{nth_set_same, nth_set_other, in_front, in_back, touched_after}
use Rattle.ledger.specs.Tells.{Touched, Grows}
use Rattle.ledger.specs.Runs.{touched_by}

pub race : {s : State} {a i j : ℕ} {h k : Access} → Touched s a i h → Touched s a j k → (i ≡ j → ⊥) → together h k ≡ false → Race s i j a
race {h = h} {k = k} x y differ apart = record { differ = differ; t = x.t; u = y.t; is_t = x.is; is_u = y.is; how_t = h; how_u = k; by_t = x.by; by_u = y.by; apart = apart }

module _ {s : State} {i j a : ℕ} (r : Race s i j a) where
  pub by_t : Touched s a i r.how_t
  by_t = record { t = r.t; is = r.is_t; by = r.by_t }

  pub by_u : Touched s a j r.how_u
  by_u = record { t = r.u; is = r.is_u; by = r.by_u }

pub in_none : {τ : Touch} → In τ [] → ⊥
in_none x = elim x [ ]

pub in_one : {τ σ : Touch} → In τ (σ ∷ []) → τ ≡ σ
in_one here = refl
in_one (there x) = absurd (in_none x)

in_parts : {τ : Touch} (xs : List Touch) {ys : List Touch} → In τ (xs ++ ys) → In τ xs ⊎ In τ ys
in_parts [] x = inr x
in_parts (σ ∷ xs) here = inl here
in_parts (σ ∷ xs) (there x) = elim (in_parts xs x) [ inl y ↦ inl (there y) | inr y ↦ inr y ]

pub touched_by_touches : (e : Effect) → touches e ≡ touched_by e
touched_by_touches e = grind arith

-- a thread put in place of another, which has touched these places more
put_grows : (s s' : State) (i : ℕ) (t t' : Thread) (τs : List Touch) → slice_get s.threads i ≡ Some t → s'.threads ≡ set s.threads i t' → t'.touched ≡ t.touched ++ τs → Grows s s' i τs
put_grows s s' i t t' τs is put more = record { keeps = keeps; adds = adds; only = only }
  where
    now : slice_get s'.threads i ≡ Some t'
    now = ap (λ ts. slice_get ts i) put ∙ nth_set_same s.threads i t t' is

    stays : (j : ℕ) → (i ≡ j → ⊥) → slice_get s'.threads j ≡ slice_get s.threads j
    stays j n = ap (λ ts. slice_get ts j) put ∙ nth_set_other s.threads i j t' n

    after : {τ : Touch} → In τ (t.touched ++ τs) → In τ t'.touched
    after {τ} x = subst (λ ts. In τ ts) (sym more) x

    keeps : (a j : ℕ) (h : Access) → Touched s a j h → Touched s' a j h
    keeps a j h x = elim (ℕ_discrete i j) [
      | yes e ↦
          let same : x.t.touched ≡ t.touched = cc in
          record { t = t'; is = ap (λ j. slice_get s'.threads j) (sym e) ∙ now; by = after (in_front τs (subst (λ ts. In (record { at = a; how = h }) ts) same x.by)) }
      | no n ↦ record { t = x.t; is = stays j n ∙ x.is; by = x.by }
    ]

    adds : (τ : Touch) → In τ τs → Touched s' τ.at i τ.how
    adds τ x = record { t = t'; is = now; by = after (in_back t.touched x) }

    only : (a j : ℕ) (h : Access) → Touched s' a j h → Touched s a j h ⊎ ((j ≡ i) × In (record { at = a; how = h }) τs)
    only a j h x = elim (ℕ_discrete i j) [
      | yes e ↦
          let same : x.t.touched ≡ t.touched ++ τs = cc now in
          elim (in_parts t.touched (subst (λ ts. In (record { at = a; how = h }) ts) same x.by)) [
            | inl y ↦ inl (record { t = t; is = ap (λ j. slice_get s.threads j) (sym e) ∙ is; by = y })
            | inr y ↦ inr (sym e, y)
          ]
      | no n ↦ inl (record { t = x.t; is = sym (stays j n) ∙ x.is; by = x.by })
    ]

pub stepped_grows : (s : State) (i : ℕ) (t : Thread) → slice_get s.threads i ≡ Some t → Grows s (stepped s i t) i (touched_by (next_effect i (length s.threads) (length s.memory) t t.todo))
stepped_grows s i t is =
    let e = next_effect i (length s.threads) (length s.memory) t t.todo in
    put_grows s (stepped s i t) i t (thread_after e s.memory) (touched_by e) is refl (touched_after i _ _ t t.todo s.memory ∙ ap (λ τs. t.touched ++ τs) (touched_by_touches e))

-- nobody has touched anything
abbrev pub Untouched : State → Type 0
Untouched s = (a i : ℕ) (h : Access) → Touched s a i h → ⊥

untouched_from : (s : State) → ((i : ℕ) (t : Thread) → slice_get s.threads i ≡ Some t → t.touched ≡ []) → Untouched s
untouched_from s none a i h x = in_none (subst (λ ts. In (record { at = a; how = h }) ts) (none i x.t x.is) x.by)

released_none : (ts : List Thread) (i : ℕ) (t : Thread) → slice_get (all_released ts) i ≡ Some t → t.touched ≡ []
released_none [] i t e = absurd (omega (arith, slice_get_within [] i t e))
released_none (u ∷ ts) zero t e = cc
released_none (u ∷ ts) (suc i) t e = released_none ts i t e

pub resumed_untouched : (s : State) → Untouched (resumed s)
resumed_untouched s = untouched_from (resumed s) (released_none s.threads)

replicate_all : {A : Type 0} (n : ℕ) (x : A) (i : ℕ) (y : A) → slice_get (replicate n x) i ≡ Some y → y ≡ x
replicate_all n x i y e = sym (get_or_from_slice_get (replicate n x) i y x e) ∙ get_or-replicate n i x x (omega (arith, slice_get_within (replicate n x) i y e, length-replicate n x))

pub begin_untouched : (k : Kernel) (n turns : ℕ) (m : List ℕ) → Untouched (begin k n turns m)
begin_untouched k n turns m = untouched_from (begin k n turns m) (λ i t e. ap (λ t. t.touched) (replicate_all n _ i t e))
