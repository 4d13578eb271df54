-- One mark: after a touch it tells what it told, with that touch, or the touch is a clash.
use Rattle.std.proofs.Common.{◌≡◌, ℕ, ◌<◌, ◌≤◌, Bool, true, false, cond, not, ◌&&◌, eqb, ◌⊎◌, Some, None, Option, sym, refl, ◌∙◌, subst, inl, inr, arith}
use mathlib.Core.Bool.{false≢true}
use native.Mathlib.Decide.{ℕ_discrete}
use Rattle.std.proofs.lemmas.Bool.{eqb-true, eqb-false, and_parts, and_cases, not-true, not-false}
use Rattle.model.specs.declared.Access.{Access}
use Rattle.model.specs.Races.{together}
use Rattle.ledger.specs.declared.mark.Mark.{Mark}
use Rattle.ledger.specs.Marks.{has, flagged, blank, fresh, shared_mark, admits, again, noted}
use Rattle.ledger.specs.Tells.{Marked, Told, FirstLeast}
use Rattle.ledger.proofs.Flags.{same_way, with_flag, shared_has, admitted, refused}

-- The ways in which a mark takes a touch by thread i.
pub data Taken (m : Mark) (now i : ℕ) (h : Access) : Option Mark → Type 0 where
  stale : (m.stamp ≡ now → ⊥) → Taken m now i h (Some (fresh now i h))
  mine : m.stamp ≡ now → m.shared ≡ false → m.first.0 ≡ i → Taken m now i h (Some (flagged m h))
  goes_with : m.stamp ≡ now → (m.shared ≡ true) ⊎ (m.first.0 ≡ i → ⊥) → admits m h ≡ true → Taken m now i h (Some (shared_mark m))
  clashes : m.stamp ≡ now → (m.shared ≡ true) ⊎ (m.first.0 ≡ i → ⊥) → admits m h ≡ false → Taken m now i h None

module _ (m : Mark) (now i : ℕ) (h : Access) where
  others : (not m.shared && eqb m.first.0 i) ≡ false → (m.shared ≡ true) ⊎ (m.first.0 ≡ i → ⊥)
  others e = elim (and_cases _ _ e) [ inl s ↦ inl (not-false _ s) | inr f ↦ inr (eqb-false _ _ f) ]

  taken_admits : m.stamp ≡ now → (m.shared ≡ true) ⊎ (m.first.0 ≡ i → ⊥) → (b : Bool) → admits m h ≡ b → Taken m now i h (cond b (Some (shared_mark m)) None)
  taken_admits e o true a = goes_with e o a
  taken_admits e o false a = clashes e o a

  taken_mine : m.stamp ≡ now → (b : Bool) → (not m.shared && eqb m.first.0 i) ≡ b → Taken m now i h (cond b (Some (flagged m h)) (cond (admits m h) (Some (shared_mark m)) None))
  taken_mine e true b = let both = and_parts _ _ b in mine e (not-true _ both.0) (eqb-true _ _ both.1)
  taken_mine e false b = taken_admits e (others b) (admits m h) refl

  taken_old : (b : Bool) → eqb m.stamp now ≡ b → Taken m now i h (cond b (again m i h) (Some (fresh now i h)))
  taken_old true e = taken_mine (eqb-true _ _ e) (not m.shared && eqb m.first.0 i) refl
  taken_old false e = stale (eqb-false _ _ e)

  pub taken : Taken m now i h (noted m now i h)
  taken = taken_old (eqb m.stamp now) refl

blank_tells_none : (now i : ℕ) (k : Access) → has (blank now i) k ≡ true → ⊥
blank_tells_none now i k e = grind arith

-- By' is By, with the touch of thread i in way h.
pub record OneMore (By By' : ℕ → Access → Type 0) (i : ℕ) (h : Access) : Type 0 where
  pub keeps : (j : ℕ) (k : Access) → By j k → By' j k
  pub adds : By' i h
  pub only : (j : ℕ) (k : Access) → By' j k → By j k ⊎ ((j ≡ i) × (k ≡ h))

never_both : {A : Type 0} {b : Bool} → b ≡ false → b ≡ true → A
never_both f t = absurd (false≢true (sym f ∙ t))

-- a mark tells of no clash
pub told_apart : {now : ℕ} {m : Mark} {By : ℕ → Access → Type 0} → Told now m By → (i j : ℕ) (h k : Access) → (i ≡ j → ⊥) → By i h → By j k → together h k ≡ false → ⊥
told_apart {now} {m} {By} told i j h k differ by_i by_j apart = elim (ℕ_discrete m.stamp now) [
  | no old ↦ told.old old i h by_i
  | yes e ↦ go (told.current e) m.shared refl
]
  where
    go : Marked m By → (b : Bool) → m.shared ≡ b → ⊥
    go marked false s = differ (marked.alone s i h by_i ∙ sym (marked.alone s j k by_j))
    go marked true s = never_both apart (marked.alike s h k (marked.told i h by_i) (marked.told j k by_j))

-- it says the same of the same touches
pub told_same : {now : ℕ} {m : Mark} {By By' : ℕ → Access → Type 0} → Told now m By → ((j : ℕ) (k : Access) → By j k → By' j k) → ((j : ℕ) (k : Access) → By' j k → By j k) → Told now m By'
told_same told keeps only = record {
  past = told.past;
  old = λ o j k by. told.old o j k (only j k by);
  current = λ e. let marked = told.current e in record {
    some = marked.some;
    told = λ j k by. marked.told j k (only j k by);
    by_first = λ k f. keeps _ k (marked.by_first k f);
    alone = λ s j k by. marked.alone s j k (only j k by);
    other = λ s. let o = marked.other s in (o.0, o.1, o.2, keeps _ _ o.3);
    alike = marked.alike;
  };
}

module _ {now : ℕ} {m : Mark} {By By' : ℕ → Access → Type 0} {i : ℕ} {h : Access} (told : Told now m By) (more : OneMore By By' i h) where
  current_told : (m' : Mark) → m'.stamp ≡ now → Marked m' By' → Told now m' By'
  current_told m' e marked = record { past = omega arith; old = λ o. absurd (o e); current = λ _. marked }

  by_i : (j : ℕ) (k : Access) → j ≡ i → k ≡ h → By' j k
  by_i j k e f = subst (λ k. By' j k) (sym f) (subst (λ j. By' j h) (sym e) more.adds)

  fresh_told : (m.stamp ≡ now → ⊥) → Told now (fresh now i h) By'
  fresh_told o =
      let w = with_flag (blank now i) h in
      current_told (fresh now i h) w.stamp (record {
        some = (h, w.adds);
        told = λ j k by. elim (more.only j k by) [ inl b ↦ absurd (told.old o j k b) | inr e ↦ subst (λ k. has (fresh now i h) k ≡ true) (sym e.1) w.adds ];
        by_first = λ k f. elim (w.only k f) [ inl b ↦ absurd (blank_tells_none now i k b) | inr e ↦ by_i _ k (cc) e ];
        alone = λ _ j k by. elim (more.only j k by) [ inl b ↦ absurd (told.old o j k b) | inr e ↦ cc ];
        other = λ s. never_both w.shared s;
        alike = λ s. never_both w.shared s;
      })

  mine_told : m.stamp ≡ now → m.shared ≡ false → m.first.0 ≡ i → Told now (flagged m h) By'
  mine_told e s f =
      let w = with_flag m h in
      let marked = told.current e in
      current_told (flagged m h) (w.stamp ∙ e) (record {
        some = (h, w.adds);
        told = λ j k by. elim (more.only j k by) [ inl b ↦ w.keeps k (marked.told j k b) | inr e ↦ subst (λ k. has (flagged m h) k ≡ true) (sym e.1) w.adds ];
        by_first = λ k g. elim (w.only k g) [ inl b ↦ subst (λ j. By' j k) (cc) (more.keeps _ k (marked.by_first k b)) | inr e ↦ by_i _ k (cc) e ];
        alone = λ _ j k by. elim (more.only j k by) [ inl b ↦ let z = marked.alone s j k b in cc | inr e ↦ cc ];
        other = λ t. never_both (w.shared ∙ s) t;
        alike = λ t. never_both (w.shared ∙ s) t;
      })

  shared_told : m.stamp ≡ now → (m.shared ≡ true) ⊎ (m.first.0 ≡ i → ⊥) → admits m h ≡ true → Told now (shared_mark m) By'
  shared_told e o a =
      let marked = told.current e in
      let goes : (k : Access) → has (shared_mark m) k ≡ true → together k h ≡ true = λ k f. admitted m h a k (sym (shared_has m k) ∙ f) in
      let has_h : has m h ≡ true = subst (λ k. has m k ≡ true) (same_way marked.some.0 h (admitted m h a marked.some.0 marked.some.1)) marked.some.1 in
      current_told (shared_mark m) e (record {
        some = (h, shared_has m h ∙ has_h);
        told = λ j k by. shared_has m k ∙ elim (more.only j k by) [ inl b ↦ marked.told j k b | inr e ↦ subst (λ k. has m k ≡ true) (sym e.1) has_h ];
        by_first = λ k f. more.keeps _ k (marked.by_first k (sym (shared_has m k) ∙ f));
        alone = λ s. never_both s refl;
        other = λ _. elim o [ inl s ↦ let p = marked.other s in (p.0, p.1, p.2, more.keeps _ _ p.3) | inr n ↦ (i, h, (λ e. n (sym e)), more.adds) ];
        alike = λ _ k l f g. subst (λ x. together k x ≡ true) (sym (same_way l h (goes l g))) (goes k f);
      })

  -- Without a clash, the mark tells the touch too.
  pub after_told : {m' : Mark} → Taken m now i h (Some m') → Told now m' By'
  after_told (stale o) = fresh_told o
  after_told (mine e s f) = mine_told e s f
  after_told (goes_with e o a) = shared_told e o a

  -- A clash is one with a touch by another thread.
  pub clash_told : Taken m now i h None → (j : ℕ) × (k : Access) × By j k × (j ≡ i → ⊥) × (together k h ≡ false)
  clash_told (clashes e o a) =
      let marked = told.current e in
      let r = refused m h a in
      elim (ℕ_discrete m.first.0 i) [
        | no n ↦ (m.first.0, r.0, marked.by_first r.0 r.1, n, r.2)
        | yes f ↦ elim o [
          | inr n ↦ absurd (n f)
          | inl s ↦
              let p = marked.other s in
              let same = same_way r.0 p.1 (marked.alike s r.0 p.1 r.1 (marked.told p.0 p.1 p.3)) in
              (p.0, p.1, p.3, (λ e. p.2 (e ∙ sym f)), subst (λ k. together k h ≡ false) same r.2)
        ]
      ]

  -- Where threads go one after the other: the first thread stays the smallest, and the clash is with it.
  module _ (least : FirstLeast now m By) (none_behind : (j : ℕ) (k : Access) → By j k → j ≤ i) where
    first_before : m.stamp ≡ now → m.first.0 ≤ i
    first_before e = let marked = told.current e in none_behind _ _ (marked.by_first marked.some.0 marked.some.1)

    pub after_least : {m' : Mark} → Taken m now i h (Some m') → FirstLeast now m' By'
    after_least (stale o) _ j k by = elim (more.only j k by) [ inl b ↦ absurd (told.old o j k b) | inr e ↦ omega (arith, (with_flag (blank now i) h).first) ]
    after_least (mine e s f) _ j k by = elim (more.only j k by) [ inl b ↦ omega (arith, least e j k b, (with_flag m h).first) | inr g ↦ omega (arith, (with_flag m h).first) ]
    after_least (goes_with e o a) _ j k by = elim (more.only j k by) [ inl b ↦ least e j k b | inr f ↦ omega (arith, first_before e) ]

    pub clash_least : Taken m now i h None → (k : Access) × By m.first.0 k × (m.first.0 < i) × (together k h ≡ false)
    clash_least (clashes e o a) =
        let marked = told.current e in
        let r = refused m h a in
        let differ : m.first.0 ≡ i → ⊥ = λ f. elim o [ inl s ↦ let p = marked.other s in omega (arith, p.2, least e p.0 p.1 p.3, none_behind p.0 p.1 p.3) | inr n ↦ n f ] in
        (r.0, marked.by_first r.0 r.1, omega (arith, first_before e), r.2)
