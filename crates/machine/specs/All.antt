-- All threads, one behind the other in the work words.
use Rattle.std.specs.Prelude.{◌≡◌, ℕ, ◌*◌, ◌≤◌, List, length, Some}
use Rattle.std.specs.List.{slice_get}
use Rattle.model.specs.declared.Status.{Status}
use Rattle.model.specs.Steps.{Thread}
use Rattle.machine.specs.Stands.{Source}
use Rattle.machine.specs.Words.{Holds, part}

-- the words of each thread hold it
pub record AllHeld (s : Source) (work : List ℕ) (ts : List Thread) : Type 0 where
  pub room : 1024 * length ts ≤ length work
  pub each : (j : ℕ) (t : Thread) → slice_get ts j ≡ Some t → Holds s (part j work) t

-- the status of thread j, whatever threads the words hold
pub record StatusOf (work : List ℕ) (j : ℕ) (r : Status) : Type 0 where
  pub is : (s : Source) (ts : List Thread) (t : Thread) → AllHeld s work ts → slice_get ts j ≡ Some t → t.status ≡ r
