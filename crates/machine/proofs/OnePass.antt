-- All that wait go on in one pass: from the status words to the threads.
use Rattle.std.proofs.Common.{◌≡◌, ℕ, zero, suc, ◌+◌, ◌*◌, ◌<◌, ◌≤◌, Bool, true, false, List, length, set, sym, refl, ap, ◌∙◌, subst, add-one, arith, below_more}
use Rattle.model.specs.Steps.{Thread, all_released}
use Rattle.std.proofs.lemmas.Option.{slice_get_within}
use Rattle.machine.specs.Stands.{Source}
use Rattle.machine.specs.Loads.{loads}
use Rattle.machine.specs.All.{AllHeld}
use Rattle.machine.specs.Together.{status_at, released_words, ResumedAs, Resumed}
use Rattle.machine.proofs.Parts.{nth_some}
use Rattle.machine.proofs.Together.{released_waits, released_stays, status_other, released_lighter, code_waiting, code_not_waiting, some_waits, none_waits, code_at, all_go_on}

-- the words of threads of which none waits
unreleased : (n : ℕ) (work : List ℕ) → ((j : ℕ) → j < n → status_at work j ≡ 1 → ⊥) → work ≡ released_words n work
unreleased zero work none = refl
unreleased (suc n) work none = released_stays n work work (unreleased n work (λ j l. none j (omega arith))) (none n (omega arith)) ∙ ap (λ m. released_words m work) (add-one n)

-- whether one of the first n threads waits
abbrev Waited : List ℕ → ℕ → Bool → Type 0
Waited work n true = (j : ℕ) × (j < n) × (status_at work j ≡ 1)
Waited work n false = (j : ℕ) → j < n → status_at work j ≡ 1 → ⊥

-- the first n threads have gone on, if they waited, and whether one did
pub record Resuming (work now : List ℕ) (n : ℕ) (r : Bool) : Type 0 where
  pub words : now ≡ released_words n work
  pub waited : Waited work n r

pub none_resumed : (work : List ℕ) → Resuming work work 0 false
none_resumed work = record { words = refl; waited = λ j l. absurd (omega arith) }

-- .. and one thread more
module _ {work now : List ℕ} {n : ℕ} {r : Bool} (so_far : Resuming work now n r) where
  status_was : status_at now n ≡ status_at work n
  status_was = ap (λ l. status_at l n) so_far.words ∙ status_other n work

  pub one_resumed : status_at now n ≡ 1 → Resuming work (set now (1024 * n + 257) 0) (n + 1) true
  one_resumed one = record { words = released_waits n work now so_far.words one; waited = (n, omega arith, sym status_was ∙ one) }

  pub one_stays : (status_at now n ≡ 1 → ⊥) → Resuming work now (n + 1) r
  one_stays other = record { words = released_stays n work now so_far.words other; waited = go r so_far.waited }
    where
      go : (r : Bool) → Waited work n r → Waited work (n + 1) r
      go true one = (one.0, omega (arith, one.1), one.2)
      go false none = below_more (λ j. status_at work j ≡ 1 → ⊥) n none (λ one. other (status_was ∙ one))

-- of the threads that the words hold
module _ {s : Source} {work : List ℕ} {ts : List Thread} (h : AllHeld s work ts) where
  resumed_as : {work' : List ℕ} (r : Bool) → Waited work (length ts) r → work' ≡ released_words (length ts) work → ResumedAs s work work' ts r
  resumed_as true (j, l, one) is =
      let t = nth_some ts j l in
      (some_waits ts j t.0 t.1 (code_waiting t.0.status (code_at h j t.0 t.1 ∙ one)), subst (λ w. AllHeld s w (all_released ts)) (sym is) (all_go_on h))
  resumed_as false none is =
      (none_waits ts (λ j t at. code_not_waiting t.status (λ one. none j (slice_get_within ts j t at) (sym (code_at h j t at) ∙ one))), is ∙ sym (unreleased (length ts) work none))

pub all_resumed : {work work' : List ℕ} {j n : ℕ} {r : Bool} → j ≡ n → 1024 * n ≤ length work → Resuming work work' j r → Resumed work work' n r
all_resumed {work} {work'} {j} {n} {r} all room done = record {
  each = λ s ts same h. resumed_as h r (subst (λ n. Waited work n r) (all ∙ sym same) done.waited) (done.words ∙ ap (λ n. released_words n work) (all ∙ sym same));
  lighter = λ some s.
      let one = subst (Waited work j) some done.waited in
      subst (λ w. loads s w n < loads s work n) (sym (done.words ∙ ap (λ n. released_words n work) all)) (released_lighter s work n room one.0 n one.2 (omega (arith, one.1)) (omega arith));
}
