-- What one thread's step leaves: the other threads as they were, and every touch that there was.
use Rattle.std.proofs.Common.{◌≡◌, ℕ, zero, suc, Bool, true, false, cond, eqb, List, [], ◌∷◌, ◌++◌, set, Some, sym, refl, ap, ◌∙◌, subst, append-nil}
use Rattle.std.specs.List.{slice_get}
use Rattle.model.specs.Kernel.{Expr, Stmt, skip, seq, assign, read, update, if, while, wait, value}
use Rattle.model.specs.Steps.{Touch, Thread, goes, turn, next_effect, thread_after}
use Rattle.model.specs.Races.{In, here, there}
use Rattle.model.proofs.Effects.{touches}

pub nth_set_same : {A : Type 0} (xs : List A) (i : ℕ) (x y : A) → slice_get xs i ≡ Some x → slice_get (set xs i y) i ≡ Some y
nth_set_same [] i x y h = cc
nth_set_same (z ∷ xs) zero x y h = refl
nth_set_same (z ∷ xs) (suc i) x y h = nth_set_same xs i x y h

pub nth_set_other : {A : Type 0} (xs : List A) (i j : ℕ) (y : A) → (i ≡ j → ⊥) → slice_get (set xs i y) j ≡ slice_get xs j
nth_set_other [] i j y h = refl
nth_set_other (x ∷ xs) zero zero y h = absurd (h refl)
nth_set_other (x ∷ xs) zero (suc j) y h = refl
nth_set_other (x ∷ xs) (suc i) zero y h = refl
nth_set_other (x ∷ xs) (suc i) (suc j) y h = nth_set_other xs i j y (λ e. h (ap suc e))

pub in_front : {τ : Touch} {xs : List Touch} (ys : List Touch) → In τ xs → In τ (xs ++ ys)
in_front ys here = here
in_front ys (there h) = there (in_front ys h)

pub in_back : {τ : Touch} (xs : List Touch) {ys : List Touch} → In τ ys → In τ (xs ++ ys)
in_back [] h = h
in_back (x ∷ xs) h = there (in_back xs h)

turn_touches_nothing : (t : Thread) (e : Expr) (p : Stmt) (ss : List Stmt) (left : ℕ) → (turn t e p ss left).touched ≡ t.touched
turn_touches_nothing t e p ss zero = refl
turn_touches_nothing t e p ss (suc left) = refl

loop_touches_nothing : (b : Bool) (t : Thread) (e : Expr) (p : Stmt) (ss : List Stmt) → (cond b (goes t ss t.vars t.left) (turn t e p ss t.left)).touched ≡ t.touched
loop_touches_nothing true t e p ss = refl
loop_touches_nothing false t e p ss = turn_touches_nothing t e p ss t.left

pub touched_after : (i n words : ℕ) (t : Thread) (ss : List Stmt) (m : List ℕ) → (thread_after (next_effect i n words t ss) m).touched ≡ t.touched ++ touches (next_effect i n words t ss)
touched_after i n words t [] m = sym (append-nil t.touched)
touched_after i n words t (skip ∷ ss) m = sym (append-nil t.touched)
touched_after i n words t (seq p q ∷ ss) m = sym (append-nil t.touched)
touched_after i n words t (assign x e ∷ ss) m = sym (append-nil t.touched)
touched_after i n words t (read x e ∷ ss) m = refl
touched_after i n words t (update c e f ∷ ss) m = refl
touched_after i n words t (if e p q ∷ ss) m = sym (append-nil t.touched)
touched_after i n words t (while e p ∷ ss) m = loop_touches_nothing (eqb (value i n t.vars e) 0) t e p ss ∙ sym (append-nil t.touched)
touched_after i n words t (wait ∷ ss) m = sym (append-nil t.touched)

module _ (i n words : ℕ) (t : Thread) (ss : List Stmt) (m : List ℕ) {τ : Touch} where
  pub keeps_touch : In τ t.touched → In τ (thread_after (next_effect i n words t ss) m).touched
  keeps_touch h = subst (λ ts. In τ ts) (sym (touched_after i n words t ss m)) (in_front (touches (next_effect i n words t ss)) h)

  pub makes_touch : In τ (touches (next_effect i n words t ss)) → In τ (thread_after (next_effect i n words t ss) m).touched
  makes_touch h = subst (λ ts. In τ ts) (sym (touched_after i n words t ss m)) (in_back t.touched h)
