-- What an answer of the code says of what was read: the steps by which each exit meets its equation.
use Rattle.std.proofs.Common.{◌≡◌, ℕ, List, ◌∷◌, IsErrAnd, Ok, Err, Result, sym, refl, ap, ◌∙◌, subst, subst₂}
use Rattle.rows.specs.Heads.{Got, got, bad, then, answer, word_at}
use Rattle.rows.specs.declared.refusals.Refusal.{Refusal}

-- the word at the front is known
pub at_front : {A : Type 0} (f : ℕ → List ℕ → Got A) (at : ℕ) {x y : ℕ} {ws s : List ℕ} → ws ≡ x ∷ s → x ≡ y → then (word_at at ws) f ≡ f y s
at_front f at {s = s} front is = ap (λ l. then (word_at at l) f) front ∙ ap (λ v. f v s) is

-- a first reader that was answered Ok, or refused
pub record Found {A B : Type 0} (f : A → B) (g : Got A) (y : B) : Type 0 where
  pub value : A
  pub rest : List ℕ
  pub is : g ≡ got value rest
  pub told : y ≡ f value

pub found : {A B : Type 0} (f : A → B) (g : Got A) (y : B) → Ok y ≡ answer f g → Found f g y
found f (got a s) y e = record { value = a; rest = s; is = refl; told = cc }
found f (bad x) y e = absurd (cc)

-- a reading that came to something: what holds of it, from what holds of its last step
pub then_came : {A B : Type 0} (P : B → List ℕ → Type 0) (g : Got A) (f : A → List ℕ → Got B) → ((a : A) (l : List ℕ) → g ≡ got a l → (b : B) (s : List ℕ) → f a l ≡ got b s → P b s) → (b : B) (s : List ℕ) → then g f ≡ got b s → P b s
then_came P (got a l) f step b s e = step a l refl b s e
then_came P (bad x) f step b s e = absurd (cc)

pub got_came : {B : Type 0} (P : B → List ℕ → Type 0) (a : B) (l : List ℕ) → P a l → (b : B) (s : List ℕ) → got a l ≡ got b s → P b s
got_came P a l p b s e = subst₂ P (cc) (cc) p

pub then_read : {A B : Type 0} {g : Got A} {a : A} {l : List ℕ} (f : A → List ℕ → Got B) → g ≡ got a l → then g f ≡ f a l
then_read f e = ap (λ g. then g f) e

pub then_bad : {A B : Type 0} {g : Got A} {x : Refusal} (f : A → List ℕ → Got B) → g ≡ bad x → then g f ≡ bad x
then_bad f e = ap (λ g. then g f) e

-- what is owed at the exit of a `?` is owed at the refusal that it passes on
pub passed_on : {A : Type 0} (P : Result A Refusal → Type 0) (r : Result A Refusal) (x : Refusal) → IsErrAnd r (λ y. y ≡ x) → P (Err x) → P r
passed_on P (Ok v) x e h = absurd e
passed_on P (Err y) x e h = subst (λ z. P (Err z)) (sym e) h

-- the answer of a reading, and of one of which only part is told
pub answer_then : {A B : Type 0} (f : A → B) (g : Got A) → answer (λ x. x) (then g (λ x s. got (f x) s)) ≡ answer f g
answer_then f (got a s) = refl
answer_then f (bad x) = refl

pub told_err : {A B : Type 0} (f : A → B) (g : Got A) (x : Refusal) → Err x ≡ answer (λ x. x) g → Err x ≡ answer f g
told_err f (got a s) x e = absurd (cc)
told_err f (bad y) x e = ap Err (cc)

pub told_ok : {A B : Type 0} (f : A → B) (g : Got A) (y : A) → Ok y ≡ answer (λ x. x) g → Ok (f y) ≡ answer f g
told_ok f (got a s) y e = ap (λ x. Ok (f x)) (cc)
told_ok f (bad x) y e = absurd (cc)
