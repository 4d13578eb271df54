-- What a step of the engine leaves as it is.
use Rattle.std.specs.Prelude.{◌≡◌, length}
use Rattle.machine.specs.declared.engine.Engine.{Engine}

-- the same text and threads, in the same words and on the same memory, which are as long, whatever stands there
pub record Stays (e e' : Engine) : Type 0 where
  pub script : e'.script ≡ e.script
  pub threads : e'.threads ≡ e.threads
  pub same_work : e'.work.ghost_name ≡ e.work.ghost_name
  pub same_memory : e'.memory.ghost_name ≡ e.memory.ghost_name
  pub words_as_long : length e'.work.now ≡ length e.work.now
  pub as_long : length e'.memory.now ≡ length e.memory.now
