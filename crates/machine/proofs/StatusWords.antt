-- What a thread is at, and its status word.
use Rattle.std.proofs.Common.{◌≡◌, ℕ, zero, suc, ◌<◌, sym, refl, ap, ◌∙◌, arith}
use Rattle.model.specs.declared.Status.{Status}
use Rattle.model.specs.declared.Status.TheVariants.{Going as going, Waiting as waiting, Ended as ended, OutOfTurns as out_of_turns}
use Rattle.machine.specs.Words.{status_code, status_of}

pub named_is : (st : Status) → st ≡ status_of (status_code st)
named_is going = refl
named_is waiting = refl
named_is ended = refl
named_is out_of_turns = refl

-- the word of a thread that is said to be going, to wait, or to do neither
module _ {x : ℕ} {st : Status} (is : st ≡ status_of x) where
  pub word_goes : st ≡ going → x ≡ 0
  word_goes goes = go x (ap status_code (sym is ∙ goes))
    where
      go : (x : ℕ) → status_code (status_of x) ≡ 0 → x ≡ 0
      go zero e = refl
      go (suc zero) e = absurd (omega arith)
      go (suc (suc zero)) e = absurd (omega arith)
      go (suc (suc (suc x))) e = absurd (omega arith)

  pub word_waits : st ≡ waiting → x ≡ 1
  word_waits waits = go x (ap status_code (sym is ∙ waits))
    where
      go : (x : ℕ) → status_code (status_of x) ≡ 1 → x ≡ 1
      go zero e = absurd (omega arith)
      go (suc zero) e = refl
      go (suc (suc zero)) e = absurd (omega arith)
      go (suc (suc (suc x))) e = absurd (omega arith)

  pub word_differs : (st ≡ waiting → ⊥) → x ≡ 1 → ⊥
  word_differs other one = other (is ∙ ap status_of one)

  pub word_stops : (st ≡ going → ⊥) → (st ≡ waiting → ⊥) → 1 < x
  word_stops stops other = go x (λ e. stops (is ∙ ap status_of e)) (word_differs other)
    where
      go : (x : ℕ) → (x ≡ 0 → ⊥) → (x ≡ 1 → ⊥) → 1 < x
      go zero h k = absurd (h refl)
      go (suc zero) h k = absurd (k refl)
      go (suc (suc x)) h k = omega arith
