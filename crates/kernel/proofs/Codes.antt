-- The numbers of the threads, one place after the other.
use Rattle.std.proofs.Common.{◌≡◌, ℕ, suc, ◌+◌, ◌<◌, List, [], ◌∷◌, ◌++◌, length, get_or, take, drop, set, Some, sym, refl, ap, ◌∙◌, subst, ap₂, le_refl, arith, below_more}
use Rattle.std.specs.List.{slice_get}
use Rattle.std.proofs.Math.Seq.{take-append_seam}
use Rattle.std.proofs.lemmas.List.{get_or-set_same, get_or-set_other}
use Rattle.std.proofs.lemmas.Slice.{drop-append-drop}
use Rattle.model.specs.Steps.{Thread}
use Rattle.model.specs.declared.Status.{Status}
use Rattle.machine.specs.Stands.{Source}
use Rattle.machine.specs.Words.{status_code}
use Rattle.machine.specs.All.{AllHeld, StatusOf}
use Rattle.std.proofs.lemmas.Option.{slice_get_within}
use Rattle.kernel.specs.Ran.{codes, Written}

-- v is the number of thread j, whatever threads the words hold
pub record CodeOf (work : List ℕ) (j v : ℕ) : Type 0 where
  pub is : (s : Source) (ts : List Thread) (t : Thread) → AllHeld s work ts → slice_get ts j ≡ Some t → v ≡ status_code t.status

-- the threads below j have their numbers
abbrev pub Coded : List ℕ → ℕ → List ℕ → Type 0
Coded work j states = (k : ℕ) → k < j → CodeOf work k (get_or states k 0)

code_of : {work : List ℕ} {j : ℕ} (r : Status) → StatusOf work j r → CodeOf work j (status_code r)
code_of r status = record { is = λ s ts t held found. ap status_code (sym (status.is s ts t held found)) }

pub one_more : {work : List ℕ} {j v : ℕ} (states : List ℕ) (r : Status) → j < length states → Coded work j states → StatusOf work j r → v ≡ status_code r → Coded work (j + 1) (set states j v)
one_more {work} {j} {v} states r within so_far status is =
    below_more (λ k. CodeOf work k (get_or (set states j v) k 0)) j
    (λ k l. subst (CodeOf work k) (sym (get_or-set_other states j k v 0 (λ e. omega arith))) (so_far k l))
    (subst (CodeOf work j) (sym (get_or-set_same states j v 0 within ∙ is)) (code_of r status))

coded : (ts : List Thread) (xs : List ℕ) → length xs ≡ length ts → ((k : ℕ) (t : Thread) → slice_get ts k ≡ Some t → get_or xs k 0 ≡ status_code t.status) → xs ≡ codes ts
coded [] [] l each = refl
coded [] (x ∷ xs) l each = absurd (omega arith)
coded (t ∷ ts) [] l each = absurd (omega arith)
coded (t ∷ ts) (x ∷ xs) l each = ap₂ (λ x xs. x ∷ xs) (each 0 t refl) (coded ts xs (omega arith) (λ k. each (suc k)))

pub written : {work before : List ℕ} (states : List ℕ) {n : ℕ} → length states ≡ n → Coded work n states → Written work n before (states ++ drop n before)
written {work} {before} states {n} all so_far = record {
  codes_are = λ s ts same held.
      subst (λ n. take n (states ++ drop n before) ≡ codes ts) all
      (take-append_seam states _ ∙ coded ts states (omega (arith, same, all)) (λ k t found. (so_far k (omega (arith, slice_get_within ts k t found))).is s ts t held found));
  others_stay = drop-append-drop n before states n (le_refl n) all;
}
