-- A step of one thread of the words carries each order a step on.
use Rattle.std.proofs.Common.{◌≡◌, ℕ, suc, ◌<◌, Option, sym, subst}
use Rattle.model.specs.Steps.{stepped, one}
use Rattle.machine.specs.declared.engine.Engine.{Engine}
use Rattle.machine.specs.declared.touched.Touch.{Touch}
use Rattle.machine.specs.Engines.{Stays}
use Rattle.machine.specs.Stands.{source}
use Rattle.machine.specs.Rules.{touches}
use Rattle.machine.specs.Together.{status_at}
use Rattle.machine.specs.Stepped.{SteppedOf}
use Rattle.ledger.specs.Places.{Notes}
use Rattle.kernel.specs.Held.{left}
use Rattle.kernel.specs.Watching.{touching, Watched}
use Rattle.kernel.specs.Order.{WentOn}
use Rattle.kernel.proofs.Engines.{held_on, left_on}
use Rattle.kernel.proofs.Moves.{goer, touch_grows}
use Rattle.kernel.proofs.Paths.{then, said_on}

pub advances : {e e' : Engine} {i : ℕ} (r : Option Touch) → Stays e e' → i < e.threads → status_at e.work.now i ≡ 0 → SteppedOf (source e.script.now) i e.threads e.work.now e'.work.now e.memory.now e'.memory.now r → {w w' : Option Notes} → Watched (touching i (touches r)) w w' → WentOn e w e' w'
advances {e} {i = i} r stays within goes step {w} {w'} watched = record {
  each = λ b st run.
      let g = goer st run.held within goes in
      let t = g.thread in
      let moved = step.each st t run.held g.is g.goes in
      let next = one i t g.is g.goes in
      record {
        state = stepped st i t;
        step = next;
        run = record {
          count = suc run.count;
          path = then run.count b st (stepped st i t) run.path next;
          held = held_on stays moved.held;
          said = said_on (touching i (touches r)) run.count b st (stepped st i t) run.path next w w' watched (touch_grows st t r moved g.is) run.said;
        };
      };
  lighter = subst (λ k. k < left e) (sym (left_on stays)) step.lighter;
  room = watched.room;
}
