-- What inner functions promise of the order that `run` goes through.
use Rattle.std.specs.Prelude.{◌≡◌, ℕ, List, Ok, Err, Result}
use Rattle.model.specs.declared.Clash.{Clash}
use Rattle.machine.specs.declared.engine.Engine.{Engine}
use Rattle.kernel.specs.declared.outcome.Ran.{Ran}
use Rattle.kernel.specs.declared.outcome.Ran.TheVariants.{Even, Uneven, NoKernel, Few}
use Rattle.kernel.specs.Ran.{Written}
use Rattle.kernel.specs.Says.{RanSays}

-- the answer that an order has come to, in which threads go one after the other
abbrev pub ran_in_words : {A : Type 0} → Result A Clash → Ran
ran_in_words (Ok v) = Even
ran_in_words (Err x) = Uneven x

-- of an even run, the engine's memory and the states of its threads are handed out
abbrev pub HandsOut : Ran → Engine → List ℕ → List ℕ → List ℕ → List ℕ → Type 0
HandsOut Even e m m' o o' = (m' ≡ e.memory.now) × Written e.work.now e.threads o o'
HandsOut (Uneven x) e m m' o o' = (m' ≡ m) × (o' ≡ o)
HandsOut NoKernel e m m' o o' = (m' ≡ m) × (o' ≡ o)
HandsOut Few e m m' o o' = (m' ≡ m) × (o' ≡ o)

-- with enough lent, a run is never refused for want of it
pub record HasRun (r : List ℕ) (n turns : ℕ) (m m' o o' : List ℕ) (x : Ran) : Type 0 where
  pub says : RanSays r n turns m m' o o' x
  pub enough : x ≡ Few → ⊥
