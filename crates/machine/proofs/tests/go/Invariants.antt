-- each step leaves less to do
use Rattle.machine.specs.Stands.{source}
use Rattle.machine.specs.Stepped.{Running}
use Rattle.machine.specs.Loads.{loads}
use Rattle.machine.specs.Engines.{Stays}
use Rattle.machine.proofs.tests.go.Given as goal

abbrev pub invariant-steps : goal.invariant-steps
invariant-steps l = Running (source l.engine.script.now) l.engine.work.now l.engine.memory.now l.engine.threads × Stays l.initial.engine l.engine

abbrev pub decreases-steps : goal.decreases-steps
decreases-steps l = loads (source l.engine.script.now) l.engine.work.now l.engine.threads
