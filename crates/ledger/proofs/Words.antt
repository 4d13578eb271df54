-- The words of all places: one mark is written, and the others stay.
use Rattle.std.proofs.Common.{◌≡◌, ℕ, zero, suc, ◌+◌, ◌*◌, ◌<◌, ◌≢◌, List, length, get_or, set, replicate, sym, refl, ◌∙◌, subst, ap₂, arith, length-set, get_or-set_other, get_or-set_same}
use native.Mathlib.Decide.{ℕ_discrete}
use Rattle.ledger.specs.declared.mark.Mark.{Mark}
use Rattle.ledger.specs.Marks.{tag, untag}
use Rattle.ledger.specs.Places.{mark_in, marked_at}
use Rattle.ledger.proofs.Flags.{untag_tag}

module _ (w : List ℕ) (a : ℕ) (m : Mark) where
  mark_put : 2 * a + 1 < length w → mark_in (marked_at w a m) a ≡ m
  mark_put within =
      ap₂ untag
      (get_or-set_other _ (2 * a + 1) (2 * a) _ 0 (omega arith) ∙ get_or-set_same w (2 * a) _ 0 (omega arith))
      (get_or-set_same (set w (2 * a) m.first.0) (2 * a + 1) (tag m) 0 (omega (arith, length-set w (2 * a) m.first.0)))
      ∙ untag_tag m

  word_stays : (p : ℕ) → p ≢ 2 * a → p ≢ 2 * a + 1 → get_or (marked_at w a m) p 0 ≡ get_or w p 0
  word_stays p e f = get_or-set_other _ (2 * a + 1) p _ 0 f ∙ get_or-set_other w (2 * a) p _ 0 e

  mark_stays : (b : ℕ) → b ≢ a → mark_in (marked_at w a m) b ≡ mark_in w b
  mark_stays b e = ap₂ untag (word_stays (2 * b) (omega arith) (omega arith)) (word_stays (2 * b + 1) (omega arith) (omega arith))

  -- what holds of the new mark at its place, and of the marks elsewhere, holds of all
  pub at_each : (P : Mark → ℕ → Type 0) → 2 * a + 1 < length w → P m a → ((b : ℕ) → b ≢ a → P (mark_in w b) b) → (b : ℕ) → P (mark_in (marked_at w a m) b) b
  at_each P within here others b = elim (ℕ_discrete b a) [
    | yes e ↦ subst (λ b. P (mark_in (marked_at w a m) b) b) (sym e) (subst (λ m. P m a) (sym (mark_put within)) here)
    | no n ↦ subst (λ m. P m b) (sym (mark_stays b n)) (others b n)
  ]

word_clear : (n p : ℕ) → ◌≡◌ {A = ℕ} (get_or (replicate n 0) p 0) 0
word_clear zero p = refl
word_clear (suc n) zero = refl
word_clear (suc n) (suc p) = word_clear n p

pub mark_clear : (n a : ℕ) → mark_in (replicate n 0) a ≡ untag 0 0
mark_clear n a = ap₂ untag (word_clear n (2 * a)) (word_clear n (2 * a + 1))
