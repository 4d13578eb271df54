-- Threads go one after the other: what a step of the next thread, its rest, and the step of all that wait give.
use Rattle.std.proofs.Common.{◌≡◌, ℕ, suc, ◌+◌, ◌<◌, true, false, Some, None, Option, Ok, Err, Result, sym, ap, ◌∙◌, subst, subst₂, ⊎_elim, arith}
use Rattle.std.specs.List.{slice_get}
use Rattle.std.proofs.lemmas.Bool.{cond-true, cases_eq}
use Rattle.model.specs.declared.Clash.{Clash}
use Rattle.model.specs.declared.Place.{Place}
use Rattle.model.specs.declared.ThreadId.{ThreadId}
use Rattle.model.specs.Races.{Race}
use Rattle.model.specs.Steps.{Thread, State, is_going, stepped, none_going, some_waiting, resumed, Step, one, together}
use Rattle.model.specs.Orders.{after}
use Rattle.model.proofs.Threads.{nth_set_other}
use Rattle.model.proofs.InOrder.{first_goes, none_goes_on, after_more}
use Rattle.machine.specs.declared.engine.Engine.{Engine}
use Rattle.machine.specs.declared.touched.Touch.{Touch}
use Rattle.machine.specs.Engines.{Stays}
use Rattle.machine.specs.Rules.{touches}
use Rattle.machine.specs.Together.{status_at, Resumed}
use Rattle.machine.proofs.Parts.{nth_some}
use Rattle.machine.proofs.Together.{code_at, code_not_going, none_are_going}
use Rattle.ledger.specs.Places.{Notes}
use Rattle.ledger.specs.Tells.{Tells, Grows, InOrder}
use Rattle.ledger.specs.Promises.{NextPost}
use Rattle.ledger.proofs.Tells.{race_free, kept_tells, kept_in_order}
use Rattle.kernel.specs.Choice.{Idle}
use Rattle.kernel.specs.Held.{HeldIn, left}
use Rattle.kernel.specs.Noting.{Noted, StepNoted}
use Rattle.kernel.specs.Says.{CalmWay}
use Rattle.kernel.specs.Sequence.{InTurn, CameOn, GoesOn, CalmEnd}
use Rattle.kernel.proofs.Engines.{held_on, left_on}
use Rattle.kernel.proofs.Moves.{goer, touch_grows}
use Rattle.kernel.proofs.Turns.{held_still, held_resumed}
use Rattle.kernel.proofs.Ways.{further}

-- threads below i that the engine holds are not going
not_going : (e : Engine) {i : ℕ} {st : State} → HeldIn e st → Idle e.work.now 0 i → (j : ℕ) (u : Thread) → j < i → slice_get st.threads j ≡ Some u → is_going u.status ≡ false
not_going e held rested j u l is = code_not_going u.status (omega (arith, code_at held.all j u is, rested.each j (omega arith) l))

-- .. and a step of thread i leaves them so
still_rested : (e e' : Engine) {i : ℕ} (st : State) (t : Thread) → i < e.threads → HeldIn e st → HeldIn e' (stepped st i t) → Idle e.work.now 0 i → Idle e'.work.now 0 i
still_rested e e' {i} st t within held held' rested = record {
  each = λ j _ l.
      let u = nth_some st.threads j (omega (arith, held.count)) in
      let is' : slice_get (stepped st i t).threads j ≡ Some u.0 = nth_set_other st.threads i j _ (λ e. omega arith) ∙ u.1 in
      omega (arith, code_at held'.all j u.0 is', code_at held.all j u.0 u.1, rested.each j (omega arith) l);
}

-- what thread i's step comes to, before what it touched is noted
record SteppedOn (e' : Engine) (i : ℕ) (τ : Option Touch) (b : State) (c : ℕ) : Type 0 where
  way : CalmWay b (suc c)
  held : HeldIn e' (after (suc c) b)
  grows : Grows (after c b) (after (suc c) b) i (touches τ)
  rested : Idle e'.work.now 0 i

module _ {e e' : Engine} {l l' : Notes} {i : ThreadId} {r : Result (Unit {0}) Clash} (stays : Stays e e') (within : i.0 < e.threads) (goes : status_at e.work.now i.0 ≡ 0) (step : StepNoted e e' l l' i r) where
  stepped_on : (b : State) (c : ℕ) → InTurn e l i.0 b c → SteppedOn e' i.0 step.touch b c
  stepped_on b c run =
      let st = after c b in
      let g = goer st run.held within goes in
      let t = g.thread in
      let moved = step.step.each st t run.held g.is g.goes in
      let held = held_on stays moved.held in
      let next = sym (after_more c b ∙ first_goes st 0 i.0 st.threads t g.is g.goes (not_going e run.held run.rested) ∙ ap (λ j. stepped st j t) (omega arith)) in
      record {
        way = further run.way (race_free _ st run.tells) (subst (Step st) next (one i.0 t g.is g.goes));
        held = subst (HeldIn e') next held;
        grows = subst (λ u. Grows st u i.0 (touches step.touch)) next (touch_grows st t step.touch moved g.is);
        rested = still_rested e e' st t within run.held held run.rested;
      }

  -- it has come on where the touch is noted, and otherwise to the clash that is told
  noted_on : (τ : Option Touch) (r : Result (Unit {0}) Clash) → Noted l l' i τ r → ((b : State) (c : ℕ) → InTurn e l i.0 b c → SteppedOn e' i.0 τ b c) → GoesOn e l i.0 e' l' i.0 r
  noted_on None r (is, same) steps = subst (GoesOn e l i.0 e' l' i.0) (sym is) (record {
    each = λ b c run.
        let on = steps b c run in (
          suc c,
          record {
            way = on.way;
            held = on.held;
            tells = subst (λ l. Tells l (after (suc c) b)) (sym same) (kept_tells _ _ _ i.0 run.tells on.grows);
            in_order = subst (λ l. InOrder l (after (suc c) b) i.0) (sym same) (kept_in_order _ _ _ i.0 run.in_order on.grows);
            rested = on.rested;
          },
        );
  })
  noted_on (Some t) (Ok done) post steps = record {
    each = λ b c run.
        let on = steps b c run in (
          suc c,
          record { way = on.way; held = on.held; tells = post.means.tells _ _ run.tells on.grows; in_order = post.means.in_order _ _ run.tells run.in_order on.grows; rested = on.rested },
        );
  }
  noted_on (Some t) (Err k) (post, by, at) steps = record {
    each = λ b c run.
        let on = steps b c run in
        let race = post.means.in_order _ _ run.tells run.in_order on.grows in
        record {
          count = suc c;
          way = on.way;
          race = subst₂ (λ (j : ThreadId) (a : Place). Race (after (suc c) b) k.first.0 j.0 a.0) (sym by) (sym at) race.0;
          order = subst (λ (j : ThreadId). k.first.0 < j.0) (sym by) race.1;
        };
  }

  pub step_on : GoesOn e l i.0 e' l' i.0 r
  step_on = noted_on step.touch r step.noted stepped_on

  pub step_lighter : left e' < left e
  step_lighter = subst (λ k. k < left e) (sym (left_on stays)) step.step.lighter

-- a thread that waits or has stopped leaves its turn to the next
pub rests : {e : Engine} {l : Notes} {i : ℕ} → 0 < status_at e.work.now i → CameOn e l i e l (i + 1)
rests {e} {i = i} stopped = record {
  each = λ b c run. (
    c,
    record {
      way = run.way;
      held = run.held;
      tells = run.tells;
      in_order = record { first_least = run.in_order.first_least; none_behind = λ a j h by. omega (arith, run.in_order.none_behind a j h by) };
      rested = record { each = λ j _ l. ⊎_elim (λ same. subst (λ j. 0 < status_at e.work.now j) (sym same) stopped) (λ other. run.rested.each j (omega arith) (omega arith)) (cases_eq j i) };
    },
  );
}

module _ {e e' : Engine} {l : Notes} (stays : Stays e e') (memory : e'.memory.now ≡ e.memory.now) where
  -- nobody is going where each of the threads has had its turn
  none_left : {b : State} {c : ℕ} → InTurn e l e.threads b c → none_going (after c b).threads ≡ true
  none_left run = none_are_going run.held.all (λ j l. run.rested.each j (omega arith) (omega (arith, run.held.count)))

  -- all that wait go on, and the first thread is the next
  pub resumes : {l' : Notes} → Resumed e.work.now e'.work.now e.threads true → NextPost l l' → CameOn e l e.threads e' l' 0
  resumes {l'} resume post = record {
    each = λ b c run.
        let st = after c b in
        let none = none_left run in
        let some = (resume.each _ st.threads run.held.count run.held.all).0 in
        let next = sym (after_more c b ∙ none_goes_on st 0 st.threads none ∙ cond-true (some_waiting st.threads) (resumed st) st some) in (
          suc c,
          record {
            way = further run.way (race_free _ st run.tells) (subst (Step st) next (together none some));
            held = subst (HeldIn e') next (held_resumed stays memory st resume run.held);
            tells = subst (Tells l') next (post.tells st run.tells st);
            in_order = subst (λ u. InOrder l' u 0) next (post.in_order st 0);
            rested = record { each = λ j _ l. absurd (omega arith) };
          },
        );
  }

  -- nobody is going and nobody waits
  pub ends : Resumed e.work.now e'.work.now e.threads false → (b : State) (c : ℕ) → InTurn e l e.threads b c → CalmEnd e' b c
  ends resume b c run =
      let r = resume.each _ (after c b).threads run.held.count run.held.all in
      record { way = run.way; free = race_free _ (after c b) run.tells; held = held_still stays r.1 memory run.held; ended = (none_left run, r.0) }
