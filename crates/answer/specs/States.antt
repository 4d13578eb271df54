-- The states that threads are left in.
use Rattle.std.specs.Prelude.{ℕ, ◌+◌, cond, List, fold, ◌==◌}

-- How many of the threads are in a state.
abbrev pub in_state : ℕ → List ℕ → ℕ
in_state state states = fold (λ count s. cond (s == state) (count + 1) count) 0 states
