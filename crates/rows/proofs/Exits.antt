-- What the exits of a reading owe, from what its calls promised: of one part behind the other, and of so many.
use Rattle.std.proofs.Common.{◌≡◌, ℕ, zero, suc, ◌+◌, ◌-◌, ◌<◌, ◌≤◌, max, List, ◌++◌, length, drop, IsErrAnd, Ok, Err, Result, sym, refl, ap, ◌∙◌, subst, ap₂, subst₂, add-zero, add-one, arith, length-append}
use Rattle.std.proofs.lemmas.List.{drop_at, drop-drop}
use Rattle.rows.specs.declared.head.Kind.{Kind}
use Rattle.rows.specs.declared.head.Words.{Words}
use Rattle.rows.specs.declared.part.Part.{Part}
use Rattle.rows.specs.declared.refusals.Refusal.{Refusal}
use Rattle.rows.specs.Heads.{Got, got, bad, then}
use Rattle.rows.specs.Parts.{Sort, sort, many, both, part_of}
use Rattle.rows.specs.Reader.{Reader, pair, several, read_part, read_parts}
use Rattle.rows.specs.Table.{behind}
use Rattle.rows.specs.Told.{marked, Within, Told, ToldOf}
use Rattle.rows.proofs.Answered.{passed_on, then_read, then_bad}
use Rattle.rows.proofs.Exact.{Sound, several_sound, part_sound}
use Rattle.rows.proofs.Marks.{Beside, many_beside, part_beside, marked_append}

abbrev pub part : ℕ → ℕ → ℕ → Part
part end statements deep = record { end = end; statements = statements; deep = deep }

pub same_part : {a b c d e f : ℕ} → a ≡ b → c ≡ d → e ≡ f → part a c e ≡ part b d f
same_part p q r i = part (p i) (q i) (r i)

-- what was read where the answer is Ok
pub record Held {A : Type 0} (S : Sort A) (g : Got A) (at : ℕ) (t t' : List ℕ) (p : Part) : Type 0 where
  pub value : A
  pub rest : List ℕ
  pub is : g ≡ got value rest
  pub told : p ≡ part_of S at value
  pub marks : t' ≡ marked t at (S.ends at value)

module _ {A : Type 0} {S : Sort A} {n d at : ℕ} {t t' : List ℕ} where
  pub held : {p : Part} (g : Got A) → Told S g n d at t t' (Ok p) → Held S g at t t' p
  held (got a s) h = let e = h.value in record { value = a; rest = s; is = refl; told = cc; marks = h.table }
  held (bad x) h = let e = h.value in absurd (cc)

  pub missed : {x : Refusal} (g : Got A) → Told S g n d at t t' (Err x) → g ≡ bad x
  missed (got a s) h = let e = h.value in absurd (cc)
  missed (bad y) h = let e = h.value in cc

  pub refused : {g : Got A} {x : Refusal} → g ≡ bad x → Told S g n d at t t' (Err x)
  refused {x = x} e = subst (λ g. Told S g n d at t t' (Err x)) (sym e) (record { value = refl; table = tt; within = tt })

  pub accepted : {g : Got A} {p : Part} {a : A} {s : List ℕ} → g ≡ got a s → p ≡ part_of S at a → t' ≡ marked t at (S.ends at a) → Within n d at p → Told S g n d at t t' (Ok p)
  accepted {p = p} e told marks within = subst (λ g. Told S g n d at t t' (Ok p)) (sym e) (record { value = ap Ok told; table = marks; within = within })

  pub broke : {g : Got A} (r : Result Part Refusal) (x : Refusal) → IsErrAnd r (λ y. y ≡ x) → Told S g n d at t t' (Err x) → Told S g n d at t t' r
  broke {g} = passed_on (Told S g n d at t t')

  pub told_as : {g : Got A} {t'' : List ℕ} {p q : Part} → t'' ≡ t' → p ≡ q → Told S g n d at t t' (Ok q) → Told S g n d at t t'' (Ok p)
  told_as {g} e f h = subst₂ (λ x p. Told S g n d at t x (Ok p)) (sym e) (sym f) h

-- the words behind what stands at `at`
pub rest_at : (w row s : List ℕ) (at : ℕ) → drop at w ≡ row ++ s → s ≡ drop (behind at row) w
rest_at w row s at e = sym (drop_at row s (length row) refl) ∙ ap (drop (length row)) (sym e) ∙ drop-drop (length row) at w

-- One behind the other.
module _ {A B : Type 0} (S : Sort A) (T : Sort B) (d k : ℕ) (f : Reader A) (g : Reader B) (sound : Sound S d k f) (beside : Beside S) (w : List ℕ) (at : ℕ) (t t₁ : List ℕ) where
  pub pair_first : (x : Refusal) → Told S (f at (drop at w)) (length w) d at t t₁ (Err x) → Told (both S T) (pair S f g at (drop at w)) (length w) d at t t₁ (Err x)
  pair_first x h = refused (then_bad _ (missed (f at (drop at w)) h))

  module _ (p : Part) (first : Told S (f at (drop at w)) (length w) d at t t₁ (Ok p)) (t₂ : List ℕ) where
    one : Held S (f at (drop at w)) at t t₁ p
    one = held (f at (drop at w)) first

    next_is : p.end ≡ behind at (S.row one.value)
    next_is = ap (λ p. p.end) one.told

    -- the reading of both goes on with that of the second
    goes_on : pair S f g at (drop at w) ≡ then (g p.end (drop p.end w)) (λ b s. got (one.value, b) s)
    goes_on =
        let rest = rest_at w (S.row one.value) one.rest at (sound at (drop at w) one.value one.rest one.is).row ∙ ap (λ x. drop x w) (sym next_is) in
        then_read _ one.is ∙ ap₂ (λ x l. then (g x l) (λ b s. got (one.value, b) s)) (sym next_is) rest

    pub pair_rest : (x : Refusal) → Told T (g p.end (drop p.end w)) (length w) d p.end t₁ t₂ (Err x) → Told (both S T) (pair S f g at (drop at w)) (length w) d at t t₂ (Err x)
    pair_rest x h = refused (goes_on ∙ then_bad _ (missed (g p.end (drop p.end w)) h))

    pub pair_all : (q : Part) → Told T (g p.end (drop p.end w)) (length w) d p.end t₁ t₂ (Ok q) → Told (both S T) (pair S f g at (drop at w)) (length w) d at t t₂ (Ok (part q.end (p.statements + q.statements) (max p.deep q.deep)))
    pair_all q h =
        let two = held (g p.end (drop p.end w)) h in
        let a = one.value in
        let b = two.value in
        let place : p.end ≡ at + length (S.ends at a) = next_is ∙ ap (λ n. at + n) (sym (beside a at)) in
        accepted (goes_on ∙ then_read _ two.is)
        (same_part
        (omega (arith, ap (λ q. q.end) two.told, next_is, length-append (S.row a) (T.row b)))
        (omega (arith, ap (λ p. p.statements) one.told, ap (λ q. q.statements) two.told))
        (omega (arith, ap (λ p. p.deep) one.told, ap (λ q. q.deep) two.told)))
        (two.marks
        ∙ ap₂ (λ t x. marked t x (T.ends x b)) one.marks next_is
        ∙ ap (λ x. marked (marked t at (S.ends at a)) x (T.ends (behind at (S.row a)) b)) (sym next_is ∙ place)
        ∙ sym (marked_append (S.ends at a) (T.ends (behind at (S.row a)) b) t at))
        (record { begins = omega (arith, first.within, h.within); ends = h.within.ends; shallow = omega (arith, first.within, h.within) })

-- So many, one more each time; where one is refused, all are.
several_stops : {A : Type 0} (S : Sort A) (f : Reader A) (m n at : ℕ) (l : List ℕ) (x : Refusal) → several S f n at l ≡ bad x → several S f (m + n) at l ≡ bad x
several_stops S f zero n at l x e = let is : n ≡ 0 + n = omega arith in subst (λ n. several S f n at l ≡ bad x) is e
several_stops S f (suc m) n at l x e = let is : suc (m + n) ≡ suc m + n = omega arith in subst (λ n. several S f n at l ≡ bad x) is (then_bad _ (several_stops S f m n at l x e))

module _ (c : Kind) (d k : ℕ) (w : List ℕ) (at : ℕ) (t : List ℕ) where
  abbrev Several : ℕ → List ℕ → Result Part Refusal → Type 0
  Several n t' r = Told (many (sort c) n) (read_parts c n d k at (drop at w)) (length w) d at t t' r

  pub several_none : at ≤ length w → Several 0 t (Ok (part at 0 0))
  several_none within = accepted refl (same_part (sym (add-zero at)) refl refl) refl (record { begins = omega arith; ends = within; shallow = omega arith })

  module _ (n : ℕ) (t₁ : List ℕ) (p : Part) (first : Several n t₁ (Ok p)) (t₂ : List ℕ) where
    sound : Sound (many (sort c) n) d k (read_parts c n d k)
    sound = several_sound (sort c) d k (read_part c d k) (part_sound c d k) n

    beside : Beside (many (sort c) n)
    beside = many_beside (sort c) (part_beside c) n

    pub several_more : (q : Part) → Told (sort c) (read_part c d k p.end (drop p.end w)) (length w) d p.end t₁ t₂ (Ok q) → Several (n + 1) t₂ (Ok (part q.end (p.statements + q.statements) (max p.deep q.deep)))
    several_more q h = rw add-one (pair_all (many (sort c) n) (sort c) d k (read_parts c n d k) (read_part c d k) sound beside w at t t₁ p first t₂ q h)

    pub several_broken : (m : ℕ) → n < m → (x : Refusal) → Told (sort c) (read_part c d k p.end (drop p.end w)) (length w) d p.end t₁ t₂ (Err x) → Several m t₂ (Err x)
    several_broken m more x h =
        let stops = pair_rest (many (sort c) n) (sort c) d k (read_parts c n d k) (read_part c d k) sound beside w at t t₁ p first t₂ x h in
        let is : (m - suc n) + suc n ≡ m = omega arith in
        subst (λ m. Several m t₂ (Err x)) is (refused (several_stops (sort c) (read_part c d k) (m - suc n) (suc n) at (drop at w) x (missed _ stops)))

-- the same count and position under another name
pub recounted : {A : Type 0} (S : Sort A) (f : Reader A) (w : List ℕ) {d m n p q : ℕ} {t t' : List ℕ} (r : Result Part Refusal) → m ≡ n → p ≡ q → Told (many S m) (several S f m p (drop p w)) (length w) d p t t' r → Told (many S n) (several S f n q (drop q w)) (length w) d q t t' r
recounted S f w {d} {t = t} {t'} r = subst₂ (λ m p. Told (many S m) (several S f m p (drop p w)) (length w) d p t t' r)

-- the same words under another name
pub same_text : {A : Type 0} (S : Sort A) (f : ℕ → Reader A) {x y : Words} {d at : ℕ} {t t' : List ℕ} (r : Result Part Refusal) → x ≡ y → ToldOf S f x d at t t' r → ToldOf S f y d at t t' r
same_text S f {d = d} {at} {t} {t'} r = subst (λ text. ToldOf S f text d at t t' r)
