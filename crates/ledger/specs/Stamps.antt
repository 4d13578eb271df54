-- The stamps of stretches, which are numbers.
use Rattle.std.specs.Prelude.{ℕ, ◌+◌, cond, Some, None, Option, nat_lt}

abbrev pub last_stamp : ℕ
last_stamp = 268435455

-- the next stamp, where there is one
abbrev pub after_stamp : ℕ → Option ℕ
after_stamp s = cond (nat_lt s last_stamp) (Some (s + 1)) None
