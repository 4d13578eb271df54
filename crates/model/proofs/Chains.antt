-- What chains of steps give one another: what holds on the way is forgotten, put in, or carried on.
use Rattle.std.proofs.Common.{ℕ, zero, suc, sym, refl, subst}
use Rattle.model.specs.Chains.{Chain, ChainThrough}

pub forget : {A : Type 0} (P : A → Type 0) (R : A → A → Type 0) (c : ℕ) (x y : A) → ChainThrough P R c x y → Chain R c x y
forget P R zero x y p = p.1
forget P R (suc c) x y p = (p.1.0, p.1.1, forget P R c p.1.0 y p.1.2)

-- what holds wherever the order may come holds on the way
pub along : {A : Type 0} (P : A → Type 0) (R : A → A → Type 0) (c : ℕ) (x y : A) → ((n : ℕ) (z : A) → Chain R n x z → P z) → Chain R c x y → ChainThrough P R c x y
along P R zero x y h p = (h 0 x refl, p)
along P R (suc c) x y h p = (h 0 x refl, (p.0, p.1, along P R c p.0 y (λ n z q. h (suc n) z (p.0, p.1, q)) p.2))

pub linked : {A : Type 0} (P : A → Type 0) (R : A → A → Type 0) (c d : ℕ) (x y z : A) → ChainThrough P R c x y → ChainThrough P R d y z → (n : ℕ) × ChainThrough P R n x z
linked P R zero d x y z p q = (d, subst (λ v. ChainThrough P R d v z) (sym p.1) q)
linked P R (suc c) d x y z p q = let r = linked P R c d p.1.0 y z p.1.2 q in (suc r.0, (p.0, (p.1.0, p.1.1, r.1)))
