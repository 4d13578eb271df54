-- Whole runs: beside any steps, the ledger tells a clash exactly if there is one on the way.
use Rattle.std.proofs.Common.{◌≡◌, ℕ, zero, suc, ◌+◌, ◌*◌, ◌<◌, ◌≤◌, Bool, ◌⊎◌, List, [], ◌∷◌, length, set, Some, None, Option, sym, refl, ap, subst, inl, inr, arith, length-set}
use mathlib.Core.Bool.{false≢true}
use lib.ListN.{length-replicate}
use Rattle.std.proofs.lemmas.Nat.{mod_below}
use Rattle.model.specs.declared.Access.{Access}
use Rattle.model.specs.declared.Access.TheVariants.{Reading as reading, Changing as changing}
use Rattle.model.specs.Kernel.{skip, seq, assign, read, update, if, while, wait, Stmt, place}
use Rattle.model.specs.Steps.{Touch, Thread, State, Effect, own, reads, changes, next_effect, stepped, Step, one, together, Steps, begin}
use Rattle.model.specs.Races.{In, here}
use Rattle.model.specs.Orders.{Clash}
use Rattle.model.proofs.Effects.{memory_keeps_length}
use Rattle.ledger.specs.declared.mark.Mark.{Mark}
use Rattle.ledger.specs.Marks.{tag, noted}
use Rattle.ledger.specs.Stamps.{after_stamp}
use Rattle.ledger.specs.Places.{Notes, mark_in, opened, with_mark, noting, with_stamp}
use Rattle.ledger.specs.Tells.{Tells, Grows}
use Rattle.ledger.specs.Runs.{touched_by, noting_effect, beside, clash_or, tells_clash, ClashOn, ledger_words, Exactly, LedgerTells}
use Rattle.ledger.specs.Promises.{one_touch}
use Rattle.ledger.proofs.OneMark.{Taken, taken}
use Rattle.ledger.proofs.Threads.{in_none, in_one, stepped_grows, begin_untouched}
use Rattle.ledger.proofs.Tells.{race_free, opened_tells, next_tells, kept_tells, touched_tells, clash_race}

pub place_within : (v words n : ℕ) → ledger_words words ≤ n → 2 * place v words + 1 < n
place_within v zero n h = omega arith
place_within v (suc words) n h = omega (arith, mod_below v (suc words) (omega arith))

-- an effect touches places of the memory only
pub touches_places : (i n words : ℕ) (t : Thread) (ss : List Stmt) (τ : Touch) → In τ (touched_by (next_effect i n words t ss)) → (v : ℕ) × (τ.at ≡ place v words)
touches_places i n words t [] τ x = absurd (in_none x)
touches_places i n words t (skip ∷ ss) τ x = absurd (in_none x)
touches_places i n words t (seq p q ∷ ss) τ x = absurd (in_none x)
touches_places i n words t (assign v e ∷ ss) τ x = absurd (in_none x)
touches_places i n words t (read v e ∷ ss) τ x = (_, ap (λ τ. τ.at) (in_one x))
touches_places i n words t (update c e f ∷ ss) τ x = (_, ap (λ τ. τ.at) (in_one x))
touches_places i n words t (if e p q ∷ ss) τ x = absurd (in_none x)
touches_places i n words t (while e p ∷ ss) τ x = absurd (in_none x)
touches_places i n words t (wait ∷ ss) τ x = absurd (in_none x)

-- what the ledger comes to beside a step to u: it tells what was touched, in at least n words, or u has a clash
abbrev Follows : ℕ → State → Option Notes → Type 0
Follows n u (Some l) = Tells l u × (n ≤ length l.words)
Follows n u None = Clash u

touch_follows : (n : ℕ) (l : Notes) (s u : State) (i a : ℕ) (h : Access) → n ≤ length l.words → Tells l s → Grows s u i (one_touch a h) → 2 * a + 1 < length l.words → Follows n u (noting l i a h)
touch_follows n l s u i a h enough tells g within = go (noted (mark_in l.words a) l.stamp i h) (taken (mark_in l.words a) l.stamp i h)
  where
    go : (o : Option Mark) → Taken (mark_in l.words a) l.stamp i h o → Follows n u (with_mark l a o)
    go (Some m) t = (touched_tells l s u i a h tells g m within t, omega (arith, length-set (set l.words (2 * a) m.first.0) (2 * a + 1) (tag m), length-set l.words (2 * a) m.first.0))
    go None t = let r = clash_race l s u i a h tells g t in (r.0, i, a, r.1)

effect_follows : (n : ℕ) (l : Notes) (s u : State) (i : ℕ) (e : Effect) → n ≤ length l.words → Tells l s → Grows s u i (touched_by e) → ((τ : Touch) → In τ (touched_by e) → 2 * τ.at + 1 < length l.words) → Follows n u (noting_effect l i e)
effect_follows n l s u i (own t) enough tells g within = (kept_tells l s u i tells g, enough)
effect_follows n l s u i (reads a t) enough tells g within = touch_follows n l s u i a reading enough tells g (within _ here)
effect_follows n l s u i (changes c a v t) enough tells g within = touch_follows n l s u i a (changing c) enough tells g (within _ here)

stamp_length : (l : Notes) (o : Option ℕ) → length (with_stamp l o).words ≡ length l.words
stamp_length l (Some stamp) = refl
stamp_length l None = length-replicate (length l.words) 0

step_follows : {s u : State} (step : Step s u) (l : Notes) → Tells l s → ledger_words (length s.memory) ≤ length l.words → Follows (ledger_words (length u.memory)) u (beside step l)
step_follows {s} (one i t is goes) l tells enough =
    let e = next_effect i (length s.threads) (length s.memory) t t.todo in
    effect_follows (ledger_words (length (stepped s i t).memory)) l s (stepped s i t) i e
    (subst (λ n. ledger_words n ≤ length l.words) (sym (memory_keeps_length e s.memory)) enough)
    tells (stepped_grows s i t is)
    (λ τ x. let p = touches_places i _ _ t t.todo τ x in subst (λ a. 2 * a + 1 < length l.words) (sym p.1) (place_within p.0 (length s.memory) _ enough))
step_follows {s} (together none some) l tells enough = (next_tells l s tells s, omega (arith, stamp_length l (after_stamp l.stamp)))

clash_first : (c : ℕ) (s u : State) (p : Steps c s u) → Clash s → ClashOn c s u p
clash_first zero s u p clash = clash
clash_first (suc c) s u p clash = inl clash

next_exact : (s z : State) (n : ℕ) (later : Type 0) (tells : Notes → Bool) → (Clash s → ⊥) → (Clash z → later) → ((l : Notes) → Tells l z → n ≤ length l.words → Exactly (tells l) later) → (o : Option Notes) → Follows n z o → Exactly (clash_or o tells) (Clash s ⊎ later)
next_exact s z n later tells free from_z rest (Some l) (told, enough) =
    let r = rest l told enough in
    ((λ b. inr (r.0 b)), λ b clash. elim clash [ inl now ↦ free now | inr after ↦ r.1 b after ])
next_exact s z n later tells free from_z rest None clash = ((λ _. inr (from_z clash)), λ b. absurd (false≢true (sym b)))

exact : (c : ℕ) (s u : State) (p : Steps c s u) (l : Notes) → Tells l s → ledger_words (length s.memory) ≤ length l.words → Exactly (tells_clash c s u p l) (ClashOn c s u p)
exact zero s u p l tells enough = ((λ told. absurd (false≢true told)), λ _ clash. race_free l s tells clash)
exact (suc c) s u p l tells enough =
    next_exact s p.0 _ _ (tells_clash c p.0 u p.2) (race_free l s tells) (clash_first c p.0 u p.2) (exact c p.0 u p.2) (beside p.1 l) (step_follows p.1 l tells enough)

pub ledger_tells : LedgerTells
ledger_tells k n turns m words enough c u p =
    let s = begin k n turns m in
    exact c s u p (opened words) (opened_tells words s (begin_untouched k n turns m)) (omega (arith, length-replicate {A = ℕ} words 0))
