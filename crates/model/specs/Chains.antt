-- Any relation, taken so many times in a row.
use Rattle.std.specs.Prelude.{◌≡◌, ℕ, zero, suc}

-- from x to y by so many steps of R
abbrev pub Chain : {A : Type 0} → (A → A → Type 0) → ℕ → A → A → Type 0
Chain R zero x y = x ≡ y
Chain {A} R (suc c) x y = (z : A) × R x z × Chain R c z y

-- .. and P holds on the way, at both ends too
abbrev pub ChainThrough : {A : Type 0} → (A → Type 0) → (A → A → Type 0) → ℕ → A → A → Type 0
ChainThrough P R zero x y = P x × (x ≡ y)
ChainThrough {A} P R (suc c) x y = P x × ((z : A) × R x z × ChainThrough P R c z y)
