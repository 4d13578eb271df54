-- What the functions on lent words promise, from what they do.
use Rattle.std.proofs.Common.{◌≡◌, ℕ, ◌+◌, ◌*◌, ◌<◌, ◌≢◌, eqb, length, Some, None, Option, Ok, Err, sym, refl, ap, ◌∙◌, subst}
use Rattle.std.proofs.lemmas.Bool.{eq-eqb, ne_eqb, cond-true, cond-false}
use Rattle.model.specs.declared.Access.{Access}
use Rattle.model.specs.Steps.{resumed, begin}
use Rattle.ledger.specs.declared.mark.Mark.{Mark}
use Rattle.ledger.specs.Marks.{fresh, again, noted}
use Rattle.ledger.specs.Places.{Notes, notes, mark_in, marked_at, opened, with_mark, next}
use Rattle.ledger.specs.Tells.{Tells}
use Rattle.ledger.specs.Promises.{Answered, Laws, NotePost, NextPost, OpenPost}
use Rattle.ledger.proofs.OneMark.{Taken, taken}
use Rattle.ledger.proofs.Threads.{begin_untouched, resumed_untouched, stepped_grows}
use Rattle.ledger.proofs.Tells.{race_free, kept_tells, kept_in_order, untouched_in_order, opened_tells, next_tells, touched_tells, touched_in_order, clash_race, clash_only_here, clash_in_order}
use Rattle.ledger.proofs.Runs.{ledger_tells}

pub laws : Laws
laws = record { ledger_tells = ledger_tells; race_free = race_free; steps_grow = stepped_grows; no_touch = kept_tells; no_touch_in_order = kept_in_order }

pub open_post : (n : ℕ) (l : Notes) → l ≡ opened n → OpenPost n l
open_post n l e = record {
  value = e;
  tells = λ k threads turns m. subst (λ l. Tells l (begin k threads turns m)) (sym e) (opened_tells n (begin k threads turns m) (begin_untouched k threads turns m));
  in_order = λ k threads turns m i. untouched_in_order l (begin k threads turns m) i (begin_untouched k threads turns m);
}

pub next_post : (l l' : Notes) → l' ≡ next l → NextPost l l'
next_post l l' e = record {
  value = e;
  tells = λ s tells u. subst (λ l. Tells l (resumed u)) (sym e) (next_tells l s tells u);
  in_order = λ u i. untouched_in_order l' (resumed u) i (resumed_untouched u);
}

module _ (l : Notes) (i a : ℕ) (h : Access) (m : Mark) (is : m ≡ mark_in l.words a) where
  taken_as : (o : Option Mark) → o ≡ noted m l.stamp i h → (noted (mark_in l.words a) l.stamp i h ≡ o) × Taken (mark_in l.words a) l.stamp i h o
  taken_as o e =
      let same : noted (mark_in l.words a) l.stamp i h ≡ o = sym (e ∙ ap (λ m. noted m l.stamp i h) is) in
      (same, subst (λ o. Taken (mark_in l.words a) l.stamp i h o) same (taken (mark_in l.words a) l.stamp i h))

  fine_post : (after : Mark) → Some after ≡ noted m l.stamp i h → 2 * a + 1 < length l.words → (l' : Notes) → l' ≡ notes (marked_at l.words a after) l.stamp → NotePost l l' i a h (Ok tt)
  fine_post after e within l' put =
      let t = taken_as (Some after) e in
      let marked = notes (marked_at l.words a after) l.stamp in
      subst (λ l'. NotePost l l' i a h (Ok tt)) (sym put) (record {
        value = subst (λ o. Answered l marked a (Ok tt) (with_mark l a o)) (sym t.0) (refl, refl);
        means = record {
          tells = λ s s' tells g. touched_tells l s s' i a h tells g after within t.1;
          in_order = λ s s' tells o g. touched_in_order l s s' i a h tells g after within t.1 o;
        };
        laws = laws;
      })

  clash_post : None ≡ noted m l.stamp i h → NotePost l l i a h (Err (record { 0 = m.first }))
  clash_post e =
      let t = taken_as None e in
      subst (λ m. NotePost l l i a h (Err (record { 0 = m.first }))) (sym is) (record {
        value = subst (λ o. Answered l l a (Err (record { 0 = (mark_in l.words a).first })) (with_mark l a o)) (sym t.0) (refl, refl);
        means = record {
          race = λ s s' tells g. clash_race l s s' i a h tells g t.1;
          only_here = λ s s' tells g. clash_only_here l s s' i a h tells g t.1;
          in_order = λ s s' tells o g. clash_in_order l s s' i a h tells g t.1 o;
        };
        laws = laws;
      })

  -- a mark of another stretch is made anew
  pub fresh_post : m.stamp ≢ l.stamp → (after : Mark) → after ≡ fresh l.stamp i h → 2 * a + 1 < length l.words → (l' : Notes) → l' ≡ notes (marked_at l.words a after) l.stamp → NotePost l l' i a h (Ok tt)
  fresh_post old after e = fine_post after (ap Some e ∙ sym (cond-false (eqb m.stamp l.stamp) _ _ (ne_eqb m.stamp l.stamp old)))

  -- .. one of this stretch takes the touch, or doesn't
  module _ (same : m.stamp ≡ l.stamp) where
    noted_again : again m i h ≡ noted m l.stamp i h
    noted_again = sym (cond-true (eqb m.stamp l.stamp) _ _ (eq-eqb m.stamp l.stamp same))

    pub again_post : (after : Mark) → Some after ≡ again m i h → 2 * a + 1 < length l.words → (l' : Notes) → l' ≡ notes (marked_at l.words a after) l.stamp → NotePost l l' i a h (Ok tt)
    again_post after e = fine_post after (e ∙ noted_again)

    pub refused_post : None ≡ again m i h → NotePost l l i a h (Err (record { 0 = m.first }))
    refused_post e = clash_post (e ∙ noted_again)
