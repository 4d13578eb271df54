use Rattle.std.specs.Vec.Iter.{into_iter_len}
use Rattle.cli.proofs.options.Given.read.Given as goal

-- The words that are left.
abbrev pub decreases-loop-word : goal.decreases-loop-word
decreases-loop-word l = into_iter_len l.words
