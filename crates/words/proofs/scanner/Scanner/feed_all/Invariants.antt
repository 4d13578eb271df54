use Rattle.std.proofs.Common.{◌≡◌, take, vec_items}
use Rattle.words.specs.Scan.{scanned}
use Rattle.words.proofs.scanner.Scanner.feed_all.Given as goal

-- The bytes that were passed have been scanned.
abbrev pub invariant-loop-byte : goal.invariant-loop-byte
invariant-loop-byte l =
    ((l.self.mode, vec_items l.words.words.now) ≡ scanned l.initial.self.mode (vec_items l.initial.words.words.now) (take l.byte-index l.bytes))
    × (l.words.most ≡ l.initial.words.most)
    × (l.words.words.ghost_name ≡ l.initial.words.words.ghost_name)
