-- What it means that a thread takes a step, and what it touched is noted.
use Rattle.std.specs.Prelude.{◌≡◌, Some, None, Option, Ok, Err, Result}
use Rattle.model.specs.declared.Clash.{Clash}
use Rattle.model.specs.declared.ThreadId.{ThreadId}
use Rattle.machine.specs.declared.engine.Engine.{Engine}
use Rattle.machine.specs.declared.touched.Touch.{Touch}
use Rattle.machine.specs.Stands.{source}
use Rattle.machine.specs.Stepped.{SteppedOf}
use Rattle.ledger.specs.Places.{Notes}
use Rattle.ledger.specs.Promises.{NotePost}

-- What is told of a touch by thread i, once it is noted: nothing, or a clash of the thread that touched the place first
-- with this one.
abbrev pub Noted : Notes → Notes → ThreadId → Option Touch → Result (Unit {0}) Clash → Type 0
Noted l l' i None r = (r ≡ Ok tt) × (l' ≡ l)
Noted l l' i (Some t) (Ok done) = NotePost l l' i.0 t.place.0 t.access (Ok tt)
Noted l l' i (Some t) (Err k) = NotePost l l' i.0 t.place.0 t.access (Err (record { 0 = k.first })) × (k.second ≡ i) × (k.place ≡ t.place)

-- thread i took a step, and whatever it touched is noted
pub record StepNoted (e e' : Engine) (l l' : Notes) (i : ThreadId) (r : Result (Unit {0}) Clash) : Type 0 where
  pub touch : Option Touch
  pub step : SteppedOf (source e.script.now) i.0 e.threads e.work.now e'.work.now e.memory.now e'.memory.now touch
  pub noted : Noted l l' i touch r
