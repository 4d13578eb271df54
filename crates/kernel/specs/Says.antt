-- What `run` promises.
use Rattle.std.specs.Prelude.{◌≡◌, ℕ, suc, ◌+◌, ◌*◌, ◌<◌, ◌⊎◌, ◌↔◌, List, length}
pub use Rattle.model.specs.declared.Clash.{Clash}
use Rattle.model.specs.Kernel.{Kernel}
use Rattle.model.specs.Rows.{Rows}
use Rattle.model.specs.Steps.{State, Step, Ended, begin}
use Rattle.model.specs.Races.{Race}
use Rattle.model.specs.Orders.{RaceFree, after}
use Rattle.kernel.specs.declared.outcome.Ran.{Ran}
use Rattle.kernel.specs.declared.outcome.Ran.TheVariants.{Even, Uneven, NoKernel, Few}
use Rattle.kernel.specs.Drawn.{Parts}
use Rattle.kernel.specs.Outcome.{HandedOut, Decided}

-- Threads go one after the other from b, each until it waits or stops: the first c steps of that order are
-- steps, and no state before the last of them has a clash.
pub record CalmWay (b : State) (c : ℕ) : Type 0 where
  pub steps : (d : ℕ) → d < c → Step (after d b) (after (suc d) b)
  pub calm : (d : ℕ) → d < c → RaceFree (after d b)

-- That order comes to an end; what it leaves there is handed out, and decides how all orders end.
pub record IsEven (k : Kernel) (n turns : ℕ) (m m' o o' : List ℕ) : Type 0 where
  pub count : ℕ
  pub way : CalmWay (begin k n turns m) count
  pub ended : Ended (after count (begin k n turns m))
  pub left : HandedOut n (after count (begin k n turns m)) m' o o'
  pub decided : Decided k n turns m (after count (begin k n turns m))

-- That order comes to a clash, the first on its way, of the two threads at the place that are told.
pub record Met (b : State) (x : Clash) : Type 0 where
  pub count : ℕ
  pub way : CalmWay b count
  pub race : Race (after count b) x.first.0 x.second.0 x.place.0
  pub order : x.first.0 < x.second.0

-- Rows r, n threads with so many turns each, the memory m before and m' after, the state bytes o before and
-- o' after. Whatever is not even leaves both as they were.
abbrev pub RanSays : List ℕ → ℕ → ℕ → List ℕ → List ℕ → List ℕ → List ℕ → Ran → Type 0
RanSays r n turns m m' o o' Even = (k : Kernel) × Rows r k × IsEven k n turns m m' o o'
RanSays r n turns m m' o o' (Uneven x) = (k : Kernel) × Rows r k × Met (begin k n turns m) x × (m' ≡ m) × (o' ≡ o)
RanSays r n turns m m' o o' NoKernel = ((k : Kernel) → Rows r k → ⊥) × (m' ≡ m) × (o' ≡ o)
RanSays r n turns m m' o o' Few = (m' ≡ m) × (o' ≡ o)

-- how many work words a call asks for, with so many words of rows and of memory, and n threads
abbrev pub floor : ℕ → ℕ → ℕ → ℕ
floor rows memory n = 4096 + 8 * rows + 4 * memory + 1024 * n

-- w is how many work words are lent
pub record RanPost (r : List ℕ) (n turns : ℕ) (m m' o o' : List ℕ) (w : ℕ) (x : Ran) : Type 0 where
  pub says : RanSays r n turns m m' o o' x
  pub few : ((length o < n) ⊎ (w < floor (length r) (length m) n)) ↔ (x ≡ Few)
  pub parts : Parts
