use Rattle.std.proofs.Common.{◌≡◌}
use Rattle.cli_tests.proofs.scan.Given as goal

-- The list may have as many words as before, and they stay the caller's.
abbrev pub invariant-loop-piece : goal.invariant-loop-piece
invariant-loop-piece l = (l.list.most ≡ l.initial.list.most) × (l.list.words.ghost_name ≡ l.initial.list.words.ghost_name)
