-- After a step, an engine holds and has to do what its words say of the text and the threads that it had.
use Rattle.std.proofs.Common.{◌≡◌, sym, ◌∙◌, subst₂, ap₂}
use Rattle.model.specs.Steps.{State}
use Rattle.machine.specs.declared.engine.Engine.{Engine}
use Rattle.machine.specs.Engines.{Stays}
use Rattle.machine.specs.Loads.{loads}
use Rattle.machine.specs.Stands.{source}
use Rattle.machine.specs.Stepped.{StateHeld}
use Rattle.kernel.specs.Held.{HeldIn, left}

pub held_on : {e e' : Engine} {st : State} → Stays e e' → StateHeld (source e.script.now) e'.work.now e'.memory.now e.threads st → HeldIn e' st
held_on {e' = e'} {st} stays held = subst₂ (λ script n. StateHeld (source script.now) e'.work.now e'.memory.now n st) (sym stays.script) (sym stays.threads) held

pub left_on : {e e' : Engine} → Stays e e' → left e' ≡ loads (source e.script.now) e'.work.now e.threads
left_on {e' = e'} stays = ap₂ (λ script n. loads (source script.now) e'.work.now n) stays.script stays.threads

pub then_stays : {e e' e'' : Engine} → Stays e e' → Stays e' e'' → Stays e e''
then_stays first second = record {
  script = second.script ∙ first.script;
  threads = second.threads ∙ first.threads;
  same_work = second.same_work ∙ first.same_work;
  same_memory = second.same_memory ∙ first.same_memory;
  words_as_long = second.words_as_long ∙ first.words_as_long;
  as_long = second.as_long ∙ first.as_long;
}
