-- How far the order has come in which threads go one after the other.
use Rattle.std.specs.Prelude.{ℕ, ◌≤◌, length, Result, MatchResult}
use Rattle.model.specs.declared.Clash.{Clash}
use Rattle.model.specs.Kernel.{Kernel}
use Rattle.model.specs.Rows.{Rows}
use Rattle.model.specs.Steps.{State, Ended, begin}
use Rattle.model.specs.Orders.{RaceFree, after}
use Rattle.machine.specs.declared.engine.Engine.{Engine}
use Rattle.machine.specs.Stands.{source}
use Rattle.ledger.specs.Places.{Notes}
use Rattle.ledger.specs.Tells.{Tells, InOrder}
use Rattle.ledger.specs.Runs.{ledger_words}
use Rattle.kernel.specs.Choice.{Idle}
use Rattle.kernel.specs.Held.{HeldIn}
use Rattle.kernel.specs.Says.{CalmWay, Met}

-- The order has come from b by c steps to a state that the engine holds, without a clash. Thread i is the next
-- one: those before it wait or have stopped, and those behind it have touched nothing.
pub record InTurn (e : Engine) (l : Notes) (i : ℕ) (b : State) (c : ℕ) : Type 0 where
  pub way : CalmWay b c
  pub held : HeldIn e (after c b)
  pub tells : Tells l (after c b)
  pub in_order : InOrder l (after c b) i
  pub rested : Idle e.work.now 0 i

-- some order has come so far, and each place has its two words
pub record SomeInTurn (e : Engine) (l : Notes) (i : ℕ) : Type 0 where
  pub from : State
  pub count : ℕ
  pub run : InTurn e l i from count
  pub room : ledger_words (length e.memory.now) ≤ length l.words

-- wherever it had come from, it has come on from thread i to thread i'
pub record CameOn (e : Engine) (l : Notes) (i : ℕ) (e' : Engine) (l' : Notes) (i' : ℕ) : Type 0 where
  pub each : (b : State) (c : ℕ) → InTurn e l i b c → (c' : ℕ) × InTurn e' l' i' b c'

-- .. to a clash
pub record CameToClash (e : Engine) (l : Notes) (i : ℕ) (k : Clash) : Type 0 where
  pub each : (b : State) (c : ℕ) → InTurn e l i b c → Met b k

-- what is promised of a part of the order: it has come on, or to a clash
abbrev pub GoesOn : {A : Type 0} → Engine → Notes → ℕ → Engine → Notes → ℕ → Result A Clash → Type 0
GoesOn e l i e' l' i' r = MatchResult r (λ _. CameOn e l i e' l' i') (CameToClash e l i)

-- after c steps without a clash, the order is at an end, and the engine holds what is left
pub record CalmEnd (e : Engine) (b : State) (c : ℕ) : Type 0 where
  pub way : CalmWay b c
  pub free : RaceFree (after c b)
  pub held : HeldIn e (after c b)
  pub ended : Ended (after c b)

-- .. which it has come to from the first thread
pub record CameToEnd (e : Engine) (l : Notes) (e' : Engine) : Type 0 where
  pub each : (b : State) (c : ℕ) → InTurn e l 0 b c → (c' : ℕ) × CalmEnd e' b c'

-- the whole order, of whatever kernel the rows say: to an end
pub record RunsToEnd (e : Engine) (turns : ℕ) (e' : Engine) : Type 0 where
  pub each : (k : Kernel) → Rows (source e.script.now).rows k → (c : ℕ) × CalmEnd e' (begin k e.threads turns e.memory.now) c

-- .. or to a clash
pub record RunsToClash (e : Engine) (turns : ℕ) (x : Clash) : Type 0 where
  pub each : (k : Kernel) → Rows (source e.script.now).rows k → Met (begin k e.threads turns e.memory.now) x
