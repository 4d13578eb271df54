-- One order that ends, and has no race on the way, drags every other order along to the same end.
-- Nothing here knows of kernels: states, steps and races are any that have the diamond.
use Rattle.std.proofs.Common.{◌≡◌, ℕ, zero, suc, ◌⊎◌, subst, inl, inr}
use Rattle.model.specs.Chains.{Chain, ChainThrough}

-- a normal form: no step is left
abbrev pub Stuck : {A : Type 0} → (A → A → Type 0) → A → Type 0
Stuck {A} R x = (y : A) → R x y → ⊥

-- How two steps, from x to y and from x to z, come together again: x has a race already; the steps are one;
-- the second step after the first one makes a race; or either step can be taken after the other.
pub data Joined {A : Type 0} (Step : A → A → Type 0) (Race : A → Type 0) (x y z : A) : Type 0 where
  already : Race x → Joined Step Race x y z
  same : y ≡ z → Joined Step Race x y z
  clash : (w : A) → Step y w → Race w → Joined Step Race x y z
  swap : (w : A) → Step y w → Step z w → (Race z → Race w) → Joined Step Race x y z

abbrev pub Diamond : {A : Type 0} → (A → A → Type 0) → (A → Type 0) → Type 0
Diamond {A} Step Race = (x y z : A) → Step x y → Step x z → Joined Step Race x y z

-- An order to the end e. `Found` is what a race on the way would show: with `Found` empty, there is none.
module _ {A : Type 0} (Step : A → A → Type 0) (Race : A → Type 0) (diamond : Diamond Step Race) (Found : Type 0) (e : A) (stuck : Stuck Step e) where
  abbrev pub Ahead : ℕ → A → Type 0
  Ahead c x = ChainThrough (λ y. Race y → Found) Step c x e

  here_found : (c : ℕ) (x : A) → Ahead c x → Race x → Found
  here_found zero x p = p.0
  here_found (suc c) x p = p.0

  step_drags : (c : ℕ) (x y : A) → Ahead c x → Step x y → Found ⊎ ((d : ℕ) × Ahead d y)
  step_drags zero x y p r = absurd (stuck y (subst (λ v. Step v y) p.1 r))
  step_drags (suc c) x y p r = elim (diamond x p.1.0 y p.1.1 r) [
    | already k ↦ inl (p.0 k)
    | same q ↦ inr (c, subst (λ v. Ahead c v) q p.1.2)
    | clash w s k ↦ elim (step_drags c p.1.0 w p.1.2 s) [ inl f ↦ inl f | inr d ↦ inl (here_found d.0 w d.1 k) ]
    | swap w s t grows ↦ elim (step_drags c p.1.0 w p.1.2 s) [
      | inl f ↦ inl f
      | inr d ↦ inr (suc d.0, (λ k. here_found d.0 w d.1 (grows k), (w, t, d.1)))
    ]
  ]

  -- whatever steps are taken, the end stays ahead
  pub drags : (n c : ℕ) (x y : A) → Ahead c x → Chain Step n x y → Found ⊎ ((d : ℕ) × Ahead d y)
  drags zero c x y p s = inr (c, subst (λ v. Ahead c v) s p)
  drags (suc n) c x y p s = elim (step_drags c x s.0 p s.1) [ inl f ↦ inl f | inr d ↦ drags n d.0 s.0 y d.1 s.2 ]

  -- so a race anywhere shows what one on the way would
  pub tells : (n c : ℕ) (x y : A) → Ahead c x → Chain Step n x y → Race y → Found
  tells n c x y p s k = elim (drags n c x y p s) [ inl f ↦ f | inr d ↦ here_found d.0 y d.1 k ]
