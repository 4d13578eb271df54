-- The order in which threads go one after the other is one of the orders, and comes to an end.
use Rattle.std.proofs.Common.{◌≡◌, ℕ, zero, suc, ◌+◌, ◌<◌, ◌≤◌, Bool, true, false, cond, not, ◌&&◌, ◌⊎◌, List, [], ◌∷◌, drop, Some, sym, refl, ap, ◌∙◌, subst, ap₂, inl, inr, arith}
use mathlib.Core.Bool.{false≢true}
use Rattle.std.specs.List.{slice_get}
use Rattle.std.proofs.lemmas.Bool.{cond-true, cond-false}
use Rattle.model.specs.declared.Status.{Status}
use Rattle.model.specs.declared.Status.TheVariants.{Going as going, Waiting as waiting, Ended as ended, OutOfTurns as out_of_turns}
use Rattle.model.specs.Chains.{ChainThrough}
use Rattle.model.specs.Steps.{is_going, Thread, State, stepped, none_going, some_waiting, resumed, Step, one, together, Steps, Ended}
use Rattle.model.specs.Orders.{next_from, next_state, after, FirstOrderSteps}
use Rattle.model.proofs.Cost.{state_cost, cheaper}

drop_parts : {A : Type 0} (xs : List A) (i : ℕ) (x : A) (ys : List A) → drop i xs ≡ x ∷ ys → (slice_get xs i ≡ Some x) × (drop (suc i) xs ≡ ys)
drop_parts [] zero x ys h = (cc, cc)
drop_parts [] (suc i) x ys h = (cc, cc)
drop_parts (z ∷ xs) zero x ys h = (cc, cc)
drop_parts (z ∷ xs) (suc i) x ys h = drop_parts xs i x ys h

is_going_goes : (st : Status) → is_going st ≡ true → st ≡ going
is_going_goes going h = refl
is_going_goes waiting h = absurd (false≢true h)
is_going_goes ended h = absurd (false≢true h)
is_going_goes out_of_turns h = absurd (false≢true h)

-- `to` is the next state of s, or s is an end
abbrev Next : State → State → Type 0
Next s to = Step s to ⊎ (Ended s × (to ≡ s))

none_goes_next : (s : State) → none_going s.threads ≡ true → (b : Bool) → some_waiting s.threads ≡ b → Next s (cond b (resumed s) s)
none_goes_next s none true some = inl (together none some)
none_goes_next s none false some = inr ((none, some), refl)

first_next : (s : State) (i : ℕ) (t : Thread) (rest : State) → slice_get s.threads i ≡ Some t → (b : Bool) → is_going t.status ≡ b → (b ≡ false → Next s rest) → Next s (cond b (stepped s i t) rest)
first_next s i t rest is true g later = inl (one i t is (is_going_goes t.status g))
first_next s i t rest is false g later = later refl

next_from_next : (s : State) (i : ℕ) (ts : List Thread) → drop i s.threads ≡ ts → (none_going ts ≡ true → none_going s.threads ≡ true) → Next s (next_from s i ts)
next_from_next s i [] from none = none_goes_next s (none refl) (some_waiting s.threads) refl
next_from_next s i (t ∷ ts) from none =
    let at = drop_parts s.threads i t ts from in
    first_next s i t (next_from s (suc i) ts) at.0 (is_going t.status) refl
    (λ rests. next_from_next s (suc i) ts at.1 (λ h. none (subst (λ b. not b && none_going ts ≡ true) (sym rests) h)))

pub first_order_steps : FirstOrderSteps
first_order_steps s = next_from_next s 0 s.threads refl (λ h. h)

-- which state is the next: that of the first thread that is going, or that after all go on
pub first_goes : (s : State) (i j : ℕ) (ts : List Thread) (t : Thread) → slice_get ts j ≡ Some t → t.status ≡ going → ((k : ℕ) (u : Thread) → k < j → slice_get ts k ≡ Some u → is_going u.status ≡ false) → next_from s i ts ≡ stepped s (i + j) t
first_goes s i j [] t is goes rest = let z : ◌≡◌ {A = ℕ} 0 1 = cc in absurd (omega arith)
first_goes s i zero (u ∷ ts) t is goes rest =
    let same : u ≡ t = cc in
    cond-true (is_going u.status) (stepped s i u) _ (ap (λ u. is_going u.status) same ∙ ap is_going goes) ∙ ap₂ (stepped s) (omega arith) same
first_goes s i (suc j) (u ∷ ts) t is goes rest =
    cond-false (is_going u.status) _ (next_from s (suc i) ts) (rest 0 u (omega arith) refl)
    ∙ first_goes s (suc i) j ts t is goes (λ k u l. rest (suc k) u (omega arith))
    ∙ ap (λ k. stepped s k t) (omega arith)

pub none_goes_on : (s : State) (i : ℕ) (ts : List Thread) → none_going ts ≡ true → next_from s i ts ≡ cond (some_waiting s.threads) (resumed s) s
none_goes_on s i [] none = refl
none_goes_on s i (u ∷ ts) none = go (is_going u.status) refl none (none_goes_on s (suc i) ts)
  where
    go : (b : Bool) → is_going u.status ≡ b → not b && none_going ts ≡ true → (none_going ts ≡ true → next_from s (suc i) ts ≡ cond (some_waiting s.threads) (resumed s) s) → next_from s i (u ∷ ts) ≡ cond (some_waiting s.threads) (resumed s) s
    go true is h rest = absurd (false≢true h)
    go false is h rest = cond-false (is_going u.status) _ (next_from s (suc i) ts) is ∙ rest h

pub after_more : (c : ℕ) (s : State) → after (suc c) s ≡ next_state (after c s)
after_more zero s = refl
after_more (suc c) s = after_more c (next_state s)

-- so it ends, and holds on the way what holds of each of its states
pub in_order : (P : State → Type 0) (fuel : ℕ) (s : State) → state_cost s ≤ fuel → ((c : ℕ) → Steps c s (after c s) → P (after c s)) → (c : ℕ) × ChainThrough P Step c s (after c s) × Ended (after c s)
in_order P zero s h p = elim (first_order_steps s) [ inl step ↦ absurd (omega (arith, cheaper step)) | inr end ↦ (0, (p 0 refl, refl), end.0) ]
in_order P (suc fuel) s h p = elim (first_order_steps s) [
  | inl step ↦
      let r = in_order P fuel (next_state s) (omega (arith, cheaper step)) (λ c q. p (suc c) (next_state s, step, q)) in
      (suc r.0, (p 0 refl, (next_state s, step, r.1)), r.2)
  | inr end ↦ (0, (p 0 refl, refl), end.0)
]
