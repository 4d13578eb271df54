use Rattle.std.proofs.Common.{◌≡◌, length}
use Rattle.cli.proofs.input.read_from.Given as goal

abbrev pub invariant-loop : goal.invariant-loop
invariant-loop g l =
    (length l.chunk ≡ 4096)
    × (l.words.most ≡ l.initial.words.most)
    × (l.words.words.ghost_name ≡ l.initial.words.words.ghost_name)
