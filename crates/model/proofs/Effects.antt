-- Two effects clash, or can be had in either order: the table's part of the diamond.
use Rattle.std.proofs.Common.{◌≡◌, ℕ, Bool, true, false, ◌⊎◌, List, [], ◌∷◌, length, sym, refl, ap, subst, inl, inr, length-set, get_or-set_other}
use native.Mathlib.Decide.{ℕ_discrete}
use Rattle.model.specs.declared.Access.{Access}
use Rattle.model.specs.declared.Access.TheVariants.{Reading as reading, Changing as changing}
use Rattle.model.specs.Kernel.{changed}
use Rattle.model.specs.Steps.{Touch, Effect, own, reads, changes, touching, thread_after, memory_after}
use Rattle.model.specs.Races.{In, here, together}
use Rattle.model.proofs.Changes.{either_order, updates_swap}

-- what an effect adds to what the thread has touched
abbrev pub touches : Effect → List Touch
touches (own t) = []
touches (reads a t) = record { at = a; how = reading } ∷ []
touches (changes c a v t) = record { at = a; how = changing c } ∷ []

-- two threads that touched these places clash
pub record Clashing (xs ys : List Touch) : Type 0 where
  pub at : ℕ
  pub how_x : Access
  pub how_y : Access
  pub by_x : In (record { at = at; how = how_x }) xs
  pub by_y : In (record { at = at; how = how_y }) ys
  pub apart : together how_x how_y ≡ false

pub record Independent (p q : Effect) (m : List ℕ) : Type 0 where
  pub memory_same : memory_after q (memory_after p m) ≡ memory_after p (memory_after q m)
  pub first_same : thread_after p (memory_after q m) ≡ thread_after p m
  pub second_same : thread_after q (memory_after p m) ≡ thread_after q m

clash_at : (a b : ℕ) (h k : Access) → a ≡ b → together h k ≡ false → Clashing (record { at = a; how = h } ∷ []) (record { at = b; how = k } ∷ [])
clash_at a b h k e apart = record {
  at = b;
  how_x = h;
  how_y = k;
  by_x = subst (λ v. In (record { at = b; how = h }) (record { at = v; how = h } ∷ [])) (sym e) here;
  by_y = here;
  apart = apart;
}

pub clash_or_independent : (p q : Effect) (m : List ℕ) → Clashing (touches p) (touches q) ⊎ Independent p q m
clash_or_independent (own t) q m = inr (record { memory_same = refl; first_same = refl; second_same = refl })
clash_or_independent (reads a t) (own u) m = inr (record { memory_same = refl; first_same = refl; second_same = refl })
clash_or_independent (reads a t) (reads b u) m = inr (record { memory_same = refl; first_same = refl; second_same = refl })
clash_or_independent (reads a t) (changes d b w u) m = elim (ℕ_discrete a b) [
  | yes e ↦ inl (clash_at a b reading (changing d) e refl)
  | no apart ↦ inr (record { memory_same = refl; first_same = ap (λ x. touching (t x) a reading) (get_or-set_other m b a _ 0 apart); second_same = refl })
]
clash_or_independent (changes c a v t) (own u) m = inr (record { memory_same = refl; first_same = refl; second_same = refl })
clash_or_independent (changes c a v t) (reads b u) m = elim (ℕ_discrete a b) [
  | yes e ↦ inl (clash_at a b (changing c) reading e refl)
  | no apart ↦ inr (record { memory_same = refl; first_same = refl; second_same = ap (λ x. touching (u x) b reading) (get_or-set_other m a b _ 0 (λ e. apart (sym e))) })
]
clash_or_independent (changes c a v t) (changes d b w u) m = elim (ℕ_discrete a b) [
  | yes e ↦ go (together (changing c) (changing d)) refl e
  | no apart ↦ inr (swapped (λ e. absurd (apart e)))
]
  where
    swapped : (a ≡ b → (x : ℕ) → changed d (changed c x v) w ≡ changed c (changed d x w) v) → Independent (changes c a v t) (changes d b w u) m
    swapped h = record { memory_same = updates_swap m a b (λ x. changed c x v) (λ x. changed d x w) h; first_same = refl; second_same = refl }

    go : (x : Bool) → together (changing c) (changing d) ≡ x → a ≡ b → Clashing (touches (changes c a v t)) (touches (changes d b w u)) ⊎ Independent (changes c a v t) (changes d b w u) m
    go true h e = inr (swapped (λ _ x. either_order c d h x v w))
    go false h e = inl (clash_at a b (changing c) (changing d) e h)

pub memory_keeps_length : (p : Effect) (m : List ℕ) → length (memory_after p m) ≡ length m
memory_keeps_length (own t) m = refl
memory_keeps_length (reads a t) m = refl
memory_keeps_length (changes c a v t) m = length-set m a _
