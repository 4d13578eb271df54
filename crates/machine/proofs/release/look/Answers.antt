use Rattle.std.proofs.Common.{◌<◌, ap, ◌∙◌, arith, length-take}
use Rattle.machine.specs.Words.{status_of}
use Rattle.machine.proofs.StatusWords.{word_goes, word_waits, word_stops}
use Rattle.machine.proofs.Parts.{chunk_status}
use Rattle.machine.proofs.Together.{looking_waits, looking_stops}
use Rattle.machine.proofs.release.look.Goals as goal
use Rattle.machine.proofs.release.look.Goals.{in-Waiting, in-Ended, in-OutOfTurns}

pub returns-in-Going : goal.returns-in-Going
returns-in-Going c =
    let l : c.threads.words-index < c.args.threads = omega (arith, length-take c.args.threads c.as_chunks.result.0.now) in
    (c.threads.words-index, l, word_goes (c.status_named.ensures ∙ ap status_of (chunk_status c.args.work.now c.args.threads c.threads.words-index c.as_chunks.ensures.front l (omega arith))) c.in-Going.is)

pub threads-preserved : goal.threads-preserved
threads-preserved c =
    let l : c.threads.words-index < c.args.threads = omega (arith, length-take c.args.threads c.as_chunks.result.0.now) in
    let named = c.status_named.ensures ∙ ap status_of (chunk_status c.args.work.now c.args.threads c.threads.words-index c.as_chunks.ensures.front l (omega arith)) in
    elim c.match-status_named.branch [
      | in-Waiting w ↦ rw w.found-is (looking_waits _ _ _ c.threads.invariant (word_waits named w.in-Waiting.is))
      | in-Ended w ↦ let is = w.in-Ended.is in rw w.found-is (looking_stops _ _ _ c.threads.invariant (word_stops named (λ goes. cc) (λ waits. cc)))
      | in-OutOfTurns w ↦ let is = w.in-OutOfTurns.is in rw w.found-is (looking_stops _ _ _ c.threads.invariant (word_stops named (λ goes. cc) (λ waits. cc)))
    ]
