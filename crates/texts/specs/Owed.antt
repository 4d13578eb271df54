-- How many parts are owed before and after a function has written one.
use Rattle.std.specs.Prelude.{Bool, cond, ◌≡◌, ◌≤◌, ℕ, ◌+◌, List, length}

-- a part was written, with all that is in it
abbrev pub Written : ℕ → ℕ → Type 0
Written before after = after + 1 ≡ before

-- a part was begun, and so many in it are owed now; or, where there was no room for them, another was written in its place
abbrev pub Opened : ℕ → ℕ → ℕ → Bool → Type 0
Opened parts before after r = after + 1 ≡ before + cond r parts 0

-- a page of so many words, with so many parts owed, has room for a row, and for so many parts behind it, where one of those
-- that are owed is to stand
abbrev pub RoomFor : List ℕ → ℕ → ℕ → ℕ → Type 0
RoomFor row parts used owed = length row + parts + (used + owed) ≤ 2049
