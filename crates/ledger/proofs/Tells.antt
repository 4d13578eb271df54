-- All places: the ledger goes on telling what was touched, or a touch is a clash.
use Rattle.std.proofs.Common.{◌≡◌, ℕ, ◌+◌, ◌*◌, ◌<◌, Bool, true, false, cond, ltb, [], length, Some, None, sym, ap, subst, inl, inr, arith}
use native.Mathlib.Decide.{ℕ_discrete}
use Rattle.model.specs.declared.Access.{Access}
use Rattle.model.specs.Steps.{State, resumed}
use Rattle.model.specs.Races.{here, Race}
use Rattle.model.specs.Orders.{RaceFree}
use Rattle.ledger.specs.declared.mark.Mark.{Mark}
use Rattle.ledger.specs.Marks.{untag}
use Rattle.ledger.specs.Stamps.{last_stamp}
use Rattle.ledger.specs.Places.{Notes, notes, mark_in, marked_at, opened, with_stamp, next}
use Rattle.ledger.specs.Tells.{Told, Touched, Tells, Grows, FirstLeast, InOrder}
use Rattle.ledger.specs.Promises.{one_touch}
use Rattle.ledger.proofs.OneMark.{Taken, OneMore, told_apart, told_same, after_told, clash_told, after_least, clash_least}
use Rattle.ledger.proofs.Words.{at_each, mark_clear}
use Rattle.ledger.proofs.Threads.{race, by_t, by_u, in_none, in_one, Untouched, resumed_untouched}

-- a ledger tells of no clash
pub race_free : (l : Notes) (s : State) → Tells l s → RaceFree s
race_free l s tells (i, j, a, r) = told_apart (tells a) i j r.how_t r.how_u r.differ (by_t r) (by_u r) r.apart

nobody_told : (now : ℕ) (m : Mark) (By : ℕ → Access → Type 0) → m.stamp < now → ((i : ℕ) (h : Access) → By i h → ⊥) → Told now m By
nobody_told now m By past none = record { past = omega arith; old = λ _. none; current = λ e. absurd (omega arith) }

pub opened_tells : (n : ℕ) (s : State) → Untouched s → Tells (opened n) s
opened_tells n s none a = subst (λ m. Told 1 m (Touched s a)) (sym (mark_clear n a)) (nobody_told 1 (untag 0 0) (Touched s a) (omega arith) (none a))

pub next_tells : (l : Notes) (s : State) → Tells l s → (u : State) → Tells (next l) (resumed u)
next_tells l s tells u = go (ltb l.stamp last_stamp)
  where
    go : (b : Bool) → Tells (with_stamp l (cond b (Some (l.stamp + 1)) None)) (resumed u)
    go true = λ a. nobody_told (l.stamp + 1) (mark_in l.words a) (Touched (resumed u) a) (omega (arith, (tells a).past)) (resumed_untouched u a)
    go false = opened_tells (length l.words) (resumed u) (resumed_untouched u)

pub untouched_in_order : (l : Notes) (s : State) (i : ℕ) → Untouched s → InOrder l s i
untouched_in_order l s i none = record { first_least = λ a _ j h x. absurd (none a j h x); none_behind = λ a j h x. absurd (none a j h x) }

no_more : (s s' : State) (i : ℕ) → Grows s s' i [] → (a j : ℕ) (h : Access) → Touched s' a j h → Touched s a j h
no_more s s' i g a j h x = elim (g.only a j h x) [ inl b ↦ b | inr p ↦ absurd (in_none p.1) ]

-- a step that touches nothing
pub kept_tells : (l : Notes) (s s' : State) (i : ℕ) → Tells l s → Grows s s' i [] → Tells l s'
kept_tells l s s' i tells g a = told_same (tells a) (g.keeps a) (no_more s s' i g a)

pub kept_in_order : (l : Notes) (s s' : State) (i : ℕ) → InOrder l s i → Grows s s' i [] → InOrder l s' i
kept_in_order l s s' i o g = record { first_least = λ a e j h x. o.first_least a e j h (no_more s s' i g a j h x); none_behind = λ a j h x. o.none_behind a j h (no_more s s' i g a j h x) }

module _ (l : Notes) (s s' : State) (i a : ℕ) (h : Access) (tells : Tells l s) (g : Grows s s' i (one_touch a h)) where
  more : OneMore (Touched s a) (Touched s' a) i h
  more = record {
    keeps = g.keeps a;
    adds = g.adds _ here;
    only = λ j k x. elim (g.only a j k x) [ inl b ↦ inl b | inr p ↦ inr (p.0, ap (λ τ. τ.how) (in_one p.1)) ];
  }

  elsewhere : (b : ℕ) → (b ≡ a → ⊥) → (j : ℕ) (k : Access) → Touched s' b j k → Touched s b j k
  elsewhere b n j k x = elim (g.only b j k x) [ inl y ↦ y | inr p ↦ absurd (n (ap (λ τ. τ.at) (in_one p.1))) ]

  module _ (m : Mark) (within : 2 * a + 1 < length l.words) (t : Taken (mark_in l.words a) l.stamp i h (Some m)) where
    pub touched_tells : Tells (notes (marked_at l.words a m) l.stamp) s'
    touched_tells = at_each l.words a m (λ m b. Told l.stamp m (Touched s' b)) within (after_told (tells a) more t) (λ b n. told_same (tells b) (g.keeps b) (elsewhere b n))

    pub touched_in_order : InOrder l s i → InOrder (notes (marked_at l.words a m) l.stamp) s' i
    touched_in_order o = record {
      first_least = at_each l.words a m (λ m b. FirstLeast l.stamp m (Touched s' b)) within (after_least (tells a) more (o.first_least a) (o.none_behind a) t) (λ b n e j k x. o.first_least b e j k (elsewhere b n j k x));
      none_behind = λ b j k x. elim (g.only b j k x) [ inl y ↦ o.none_behind b j k y | inr p ↦ omega arith ];
    }

  module _ (t : Taken (mark_in l.words a) l.stamp i h None) where
    pub clash_race : (j : ℕ) × Race s' j i a
    clash_race = let c = clash_told (tells a) more t in (c.0, race (g.keeps a _ _ c.2) more.adds c.3 c.4)

    pub clash_only_here : (j k b : ℕ) → Race s' j k b → b ≡ a
    clash_only_here j k b r = elim (ℕ_discrete b a) [
      | yes e ↦ e
      | no n ↦ absurd (told_apart (tells b) j k r.how_t r.how_u r.differ (elsewhere b n j r.how_t (by_t r)) (elsewhere b n k r.how_u (by_u r)) r.apart)
    ]

    pub clash_in_order : InOrder l s i → Race s' (mark_in l.words a).first.0 i a × ((mark_in l.words a).first.0 < i)
    clash_in_order o =
        let c = clash_least (tells a) more (o.first_least a) (o.none_behind a) t in
        (race (g.keeps a _ _ c.1) more.adds (λ e. omega (arith, c.2)) c.3, c.2)
