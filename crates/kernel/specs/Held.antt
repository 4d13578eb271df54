-- What the words of an engine hold, and how much its threads still have to do.
use Rattle.std.specs.Prelude.{ℕ}
use Rattle.model.specs.Steps.{State}
use Rattle.machine.specs.declared.engine.Engine.{Engine}
use Rattle.machine.specs.Loads.{loads}
use Rattle.machine.specs.Stands.{source}
use Rattle.machine.specs.Stepped.{StateHeld}

abbrev pub HeldIn : Engine → State → Type 0
HeldIn e st = StateHeld (source e.script.now) e.work.now e.memory.now e.threads st

abbrev pub left : Engine → ℕ
left e = loads (source e.script.now) e.work.now e.threads
