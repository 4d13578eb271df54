-- Where no thread is going: all that wait go on, or the order is at its end.
use Rattle.std.proofs.Common.{◌≡◌, ℕ, suc, ◌<◌, ◌⊎◌, inl, inr, true, false, List, Option, sym, refl, ◌∙◌, subst, true≢false, arith}
use mathlib.Core.Bool.{false≢true}
use Rattle.model.specs.Steps.{State, none_going, resumed, together}
use Rattle.machine.specs.declared.engine.Engine.{Engine}
use Rattle.machine.specs.Engines.{Stays}
use Rattle.machine.specs.Stands.{source}
use Rattle.machine.specs.All.{AllHeld}
use Rattle.machine.specs.declared.release.Released.{Released}
use Rattle.machine.specs.declared.release.Released.TheVariants.{Nobody, Waiting, End}
use Rattle.machine.specs.Together.{Release, Resumed}
use Rattle.machine.proofs.Together.{none_are_going, length_all_released}
use Rattle.ledger.specs.Places.{Notes}
use Rattle.kernel.specs.Choice.{Idle}
use Rattle.kernel.specs.Held.{HeldIn, left}
use Rattle.kernel.specs.Watching.{resuming, Watched}
use Rattle.kernel.specs.Order.{Run, WentOn, AtEnd}
use Rattle.kernel.proofs.Engines.{held_on, left_on}
use Rattle.kernel.proofs.Paths.{then, said_on}

-- where nothing was released, the engine holds what it held
pub held_still : {e e' : Engine} {st : State} → Stays e e' → e'.work.now ≡ e.work.now → e'.memory.now ≡ e.memory.now → HeldIn e st → HeldIn e' st
held_still {e} {st = st} stays work memory held =
    held_on stays (record { all = subst (λ w. AllHeld (source e.script.now) w st.threads) (sym work) held.all; memory_is = memory ∙ held.memory_is; count = held.count })

-- what `release` tells says what `resume` does
pub waiting_resumed : {work work' : List ℕ} {n : ℕ} → Release work work' n Waiting → Resumed work work' n true
waiting_resumed release = record {
  each = λ s ts count held. let r = release.each s ts count held in (r.1, r.2);
  lighter = λ _ s. release.lighter refl s;
}

pub end_resumed : {work work' : List ℕ} {n : ℕ} → Release work work' n End → Resumed work work' n false
end_resumed release = record {
  each = λ s ts count held. let r = release.each s ts count held in (r.1, r.2);
  lighter = λ e s. absurd (false≢true e);
}

module _ {e e' : Engine} (stays : Stays e e') (memory : e'.memory.now ≡ e.memory.now) where
  -- .. and where all that waited were, it holds the state with them
  pub held_resumed : (st : State) → Resumed e.work.now e'.work.now e.threads true → HeldIn e st → HeldIn e' (resumed st)
  held_resumed st resume held = held_on stays (record { all = (resume.each _ st.threads held.count held.all).1; memory_is = memory ∙ held.memory_is; count = length_all_released st.threads ∙ held.count })

  pub resumed_lighter : Resumed e.work.now e'.work.now e.threads true → left e' < left e
  resumed_lighter resume = subst (λ k. k < left e) (sym (left_on stays)) (resume.lighter refl (source e.script.now))

  module _ {w : Option Notes} (idle : Idle e.work.now 0 e.threads) where
    none_goes : {b st : State} → Run e w b st → none_going st.threads ≡ true
    none_goes run = none_are_going run.held.all (λ j l. idle.each j (omega arith) (omega (arith, run.held.count)))

    pub resumes : {w' : Option Notes} → Resumed e.work.now e'.work.now e.threads true → Watched resuming w w' → WentOn e w e' w'
    resumes {w'} resume watched = record {
      each = λ b st run.
          let next = together (none_goes run) (resume.each _ st.threads run.held.count run.held.all).0 in
          record {
            state = resumed st;
            step = next;
            run = record {
              count = suc run.count;
              path = then run.count b st (resumed st) run.path next;
              held = held_resumed st resume run.held;
              said = said_on resuming run.count b st (resumed st) run.path next w w' watched refl run.said;
            };
          };
      lighter = resumed_lighter resume;
      room = watched.room;
    }

    pub ends : Resumed e.work.now e'.work.now e.threads false → AtEnd e w e' w
    ends resume = record {
      same = λ b st run. record { count = run.count; path = run.path; held = held_still stays (resume.each _ st.threads run.held.count run.held.all).1 memory run.held; said = run.said };
      ended = λ b st run. (none_goes run, (resume.each _ st.threads run.held.count run.held.all).0);
    }

    nobody_goes : Release e.work.now e'.work.now e.threads Nobody → (b st : State) → Run e w b st → ⊥
    nobody_goes release b st run = true≢false (sym (none_goes run) ∙ (release.each _ st.threads run.held.count run.held.all).0)

    -- nobody is going, so that nothing released means an end
    pub released_ends : (r : Released) → (r ≡ Nobody) ⊎ (r ≡ End) → Release e.work.now e'.work.now e.threads r → AtEnd e w e' w
    released_ends r (inl is) release =
        let none = nobody_goes (subst (Release e.work.now e'.work.now e.threads) is release) in
        record { same = λ b st run. absurd (none b st run); ended = λ b st run. absurd (none b st run) }
    released_ends r (inr is) release = ends (end_resumed (subst (Release e.work.now e'.work.now e.threads) is release))
