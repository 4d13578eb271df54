-- The law of each kind of change, and from it that two changes of a memory can be made in either order.
use Rattle.std.proofs.Common.{◌≡◌, ℕ, zero, suc, true, List, [], ◌∷◌, get_or, set, refl, ap, subst, arith}
use mathlib.Core.Bool.{false≢true}
use Rattle.std.proofs.lemmas.Bool.{and_parts}
use Rattle.model.specs.declared.Change.{Change}
use Rattle.model.specs.declared.Change.TheVariants.{Write as write, Add as add}
use Rattle.model.specs.declared.Access.TheVariants.{Changing as changing}
use Rattle.model.specs.Kernel.{changed, commutes}
use Rattle.model.specs.Races.{same_change, together}
use Rattle.model.specs.Orders.{Lawful}

pub lawful : Lawful
lawful write h w a b = absurd (false≢true h)
lawful add h w a b = omega arith

same_kind : (c d : Change) → same_change c d ≡ true → c ≡ d
same_kind write write h = refl
same_kind write add h = absurd (false≢true h)
same_kind add write h = absurd (false≢true h)
same_kind add add h = refl

-- changes that go together give one word in either order
pub either_order : (c d : Change) → together (changing c) (changing d) ≡ true → (w a b : ℕ) → changed d (changed c w a) b ≡ changed c (changed d w b) a
either_order c d h w a b =
    let both = and_parts (same_change c d) (commutes c) h in
    subst (λ k. changed k (changed c w a) b ≡ changed c (changed k w b) a) (same_kind c d both.0) (lawful c both.1 w a b)

abbrev pub updated : List ℕ → ℕ → (ℕ → ℕ) → List ℕ
updated m a f = set m a (f (get_or m a 0))

-- .. and so do changes of two places, or of one by functions that commute
pub updates_swap : (m : List ℕ) (a b : ℕ) (f g : ℕ → ℕ) → (a ≡ b → (w : ℕ) → g (f w) ≡ f (g w)) → updated (updated m a f) b g ≡ updated (updated m b g) a f
updates_swap [] a b f g h = refl
updates_swap (x ∷ m) zero zero f g h = ap (λ y. y ∷ m) (h refl x)
updates_swap (x ∷ m) zero (suc b) f g h = refl
updates_swap (x ∷ m) (suc a) zero f g h = refl
updates_swap (x ∷ m) (suc a) (suc b) f g h = ap (λ ys. x ∷ ys) (updates_swap m a b f g (λ e. h (ap suc e)))
