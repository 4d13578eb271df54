-- The step of all that wait, on the words of all.
use Rattle.std.specs.Prelude.{◌≡◌, ℕ, zero, suc, ◌+◌, ◌*◌, ◌<◌, Bool, true, false, cond, List, length, ◌==◌, slice_index, slice_set}
use Rattle.model.specs.Steps.{Thread, none_going, some_waiting, all_released}
use Rattle.machine.specs.declared.release.Released.{Released}
use Rattle.machine.specs.declared.release.Released.TheVariants.{Nobody, Waiting, End}
use Rattle.machine.specs.Stands.{Source}
use Rattle.machine.specs.Loads.{loads}
use Rattle.machine.specs.All.{AllHeld}

-- the status word of thread j
abbrev pub status_at : List ℕ → ℕ → ℕ
status_at work j = slice_index work (1024 * j + 257)

-- what the first n status words say: some thread is going; none is, and one waits; or neither
abbrev pub Looked : List ℕ → ℕ → Released → Type 0
Looked work n Nobody = (j : ℕ) × (j < n) × (status_at work j ≡ 0)
Looked work n Waiting = ((j : ℕ) → j < n → 0 < status_at work j) × ((j : ℕ) × (j < n) × (status_at work j ≡ 1))
Looked work n End = (j : ℕ) → j < n → 1 < status_at work j

-- a status word, and the words of the first n threads, once those that wait have gone on
abbrev pub released_word : ℕ → ℕ
released_word x = cond (x == 1) 0 x

abbrev pub released_words : ℕ → List ℕ → List ℕ
released_words zero work = work
released_words (suc n) work = let now = released_words n work in slice_set now (1024 * n + 257) (released_word (status_at now n))

-- Of the threads ts that the words hold: one is going, and nothing changes; none is, and those that wait go
-- on; or they have come to an end, and nothing changes.
abbrev pub ReleasedAs : Source → List ℕ → List ℕ → List Thread → Released → Type 0
ReleasedAs s work work' ts Nobody = (none_going ts ≡ false) × (work' ≡ work)
ReleasedAs s work work' ts Waiting = (none_going ts ≡ true) × (some_waiting ts ≡ true) × AllHeld s work' (all_released ts)
ReleasedAs s work work' ts End = (none_going ts ≡ true) × (some_waiting ts ≡ false) × (work' ≡ work)

-- .. whatever threads they hold; and where some go on, there is less to do
pub record Release (work work' : List ℕ) (n : ℕ) (r : Released) : Type 0 where
  pub each : (s : Source) (ts : List Thread) → length ts ≡ n → AllHeld s work ts → ReleasedAs s work work' ts r
  pub lighter : r ≡ Waiting → (s : Source) → loads s work' n < loads s work n

-- Where the caller knows that no thread is going: those that wait go on, or none waits, and nothing changes.
abbrev pub ResumedAs : Source → List ℕ → List ℕ → List Thread → Bool → Type 0
ResumedAs s work work' ts true = (some_waiting ts ≡ true) × AllHeld s work' (all_released ts)
ResumedAs s work work' ts false = (some_waiting ts ≡ false) × (work' ≡ work)

-- .. whatever threads they hold; and where some go on, there is less to do
pub record Resumed (work work' : List ℕ) (n : ℕ) (r : Bool) : Type 0 where
  pub each : (s : Source) (ts : List Thread) → length ts ≡ n → AllHeld s work ts → ResumedAs s work work' ts r
  pub lighter : r ≡ true → (s : Source) → loads s work' n < loads s work n
