-- A number that each step of a thread lowers, and each step of all that wait: how much there is still to
-- do at most. It is found in the words, so that loops can count by it.
use Rattle.std.specs.Prelude.{ℕ, zero, suc, ◌+◌, ◌-◌, ◌*◌, List, [], ◌∷◌, slice_index}
use Rattle.machine.specs.Stands.{Source, end}
use Rattle.machine.specs.Words.{part}

-- the lengths of the statements on the stack
abbrev pub stack_load : Source → List ℕ → ℕ → ℕ
stack_load s w zero = 0
stack_load s w (suc i) = (end s (slice_index w (512 + i)) - slice_index w (512 + i)) + stack_load s w i

-- a thread that waits has still to go on
abbrev pub status_load : ℕ → ℕ
status_load x = slice_index (1 ∷ 2 ∷ []) x

-- a turn counts for more than a loop's body can be long
abbrev pub load : Source → List ℕ → ℕ
load s w = slice_index w 256 * 131073 + 2 * stack_load s w (slice_index w 258) + status_load (slice_index w 257)

abbrev pub loads : Source → List ℕ → ℕ → ℕ
loads s work zero = 0
loads s work (suc n) = load s (part n work) + loads s work n
