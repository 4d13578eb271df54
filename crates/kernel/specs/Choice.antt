-- Which thread is the next one.
use Rattle.std.specs.Prelude.{◌≡◌, ℕ, ◌<◌, ◌≤◌, ◌⊎◌, List, Some, None, Option}
use Rattle.model.specs.declared.ThreadId.{ThreadId}
use Rattle.machine.specs.Together.{status_at}

-- none of the threads from `from` on and below `to` is going
pub record Idle (work : List ℕ) (from to : ℕ) : Type 0 where
  pub each : (j : ℕ) → from ≤ j → j < to → 0 < status_at work j

-- thread i is the first of them that is going
pub record Found (work : List ℕ) (from to i : ℕ) : Type 0 where
  pub after : from ≤ i
  pub within : i < to
  pub goes : status_at work i ≡ 0
  pub first : Idle work from i

abbrev pub First : List ℕ → ℕ → ℕ → Option ThreadId → Type 0
First work from to None = Idle work from to
First work from to (Some i) = Found work from to i.0

-- .. where the first of n threads follows the last one
abbrev pub Next : List ℕ → ℕ → ℕ → Option ThreadId → Type 0
Next work from n None = Idle work 0 n
Next work from n (Some i) = Found work from n i.0 ⊎ (Idle work from n × Found work 0 from i.0)
