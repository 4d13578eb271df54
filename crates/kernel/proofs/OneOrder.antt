-- The whole order in which threads go one after the other: how it begins, and what its end says of all orders.
use Rattle.std.proofs.Common.{◌≡◌, ℕ, ◌≤◌, List, length, Ok, Err, Result, subst, arith, MatchResult}
use Rattle.model.specs.declared.Clash.{Clash}
use Rattle.model.specs.Kernel.{Kernel}
use Rattle.model.specs.Steps.{begin}
use Rattle.model.specs.Orders.{after}
use Rattle.machine.specs.declared.engine.Engine.{Engine}
use Rattle.machine.specs.Begins.{AllBegun}
use Rattle.machine.specs.Engines.{Stays}
use Rattle.machine.specs.Stands.{source}
use Rattle.ledger.specs.Places.{Notes}
use Rattle.ledger.specs.Runs.{ledger_words}
use Rattle.ledger.specs.Promises.{OpenPost}
use Rattle.kernel.specs.Outcome.{HandedOut}
use Rattle.kernel.specs.Says.{IsEven}
use Rattle.kernel.specs.Ran.{TextIn, SomeText, Written}
use Rattle.kernel.specs.Sequence.{InTurn, SomeInTurn, CalmEnd, CameToEnd, CameToClash, RunsToEnd, RunsToClash}
use Rattle.kernel.proofs.Ways.{no_way, calm_chain}
use Rattle.kernel.proofs.Whole.{begin_held, text_of, decided, handed_out}

module _ {e e' : Engine} {l : Notes} {turns words : ℕ} (begun : AllBegun e'.work.now e.threads turns) (memory : e'.memory.now ≡ e.memory.now) (stays : Stays e e') (opened : OpenPost words l) (text : SomeText (source e.script.now)) where
  begins : (k : Kernel) → TextIn (source e.script.now) k → InTurn e' l 0 (begin k e.threads turns e.memory.now) 0
  begins k says = record {
    way = no_way (begin k e.threads turns e.memory.now);
    held = begin_held begun memory stays k says;
    tells = opened.tells k e.threads turns e.memory.now;
    in_order = opened.in_order k e.threads turns e.memory.now 0;
    rested = record { each = λ j _ l. absurd (omega arith) };
  }

  pub some_begins : ledger_words (length e.memory.now) ≤ words → length l.words ≡ words → SomeInTurn e' l 0
  some_begins room same = record {
    from = begin text.kernel e.threads turns e.memory.now;
    count = 0;
    run = begins text.kernel text.text;
    room = omega (arith, room, same, stays.as_long);
  }

  -- the order of whatever kernel the rows say begins so, and comes to the same
  pub whole : {A : Type 0} (last : Engine) (r : Result A Clash) → MatchResult r (λ _. CameToEnd e' l last) (CameToClash e' l 0) → MatchResult r (λ _. RunsToEnd e turns last) (RunsToClash e turns)
  whole last (Ok v) came = record { each = λ k says. came.each _ 0 (begins k (text_of text k says)) }
  whole last (Err x) came = record { each = λ k says. came.each _ 0 (begins k (text_of text k says)) }

-- an end without a clash decides how all orders end
pub even : (e : Engine) {n turns c : ℕ} {m o o' : List ℕ} (k : Kernel) → e.threads ≡ n → CalmEnd e (begin k n turns m) c → Written e.work.now e.threads o o' → IsEven k n turns m e.memory.now o o'
even e {n} {turns} {c} {m} {o} {o'} k same end written = record {
  count = c;
  way = end.way;
  ended = end.ended;
  left = let st = after c (begin k n turns m) in subst (λ n. HandedOut n st e.memory.now o o') same (handed_out e end.held written);
  decided = decided k n turns m c (after c (begin k n turns m)) (calm_chain c (begin k n turns m) end.way end.free) end.ended;
}
