-- Part by part, the order in which threads go one after the other is carried on.
use Rattle.std.proofs.Common.{◌≡◌, ℕ, ◌≤◌, IsErrAnd, Ok, Err, Result, sym, ◌∙◌, subst, subst₂, le_trans, MatchResult}
use Rattle.model.specs.declared.Clash.{Clash}
use Rattle.machine.specs.declared.engine.Engine.{Engine}
use Rattle.machine.specs.Engines.{Stays}
use Rattle.ledger.specs.declared.places.Ledger.{Ledger}
use Rattle.ledger.specs.Lent.{notes_in, SameMarks}
use Rattle.ledger.specs.Places.{Notes}
use Rattle.ledger.specs.Runs.{ledger_words}
use Rattle.kernel.specs.Held.{left}
use Rattle.kernel.specs.Sequence.{SomeInTurn, CameOn, CameToClash}
use Rattle.kernel.proofs.Engines.{then_stays}

-- so far: some order has come to e' and thread i', each that had been at e and thread i has, and there is no more to do
pub record SoFar (e : Engine) (l : Ledger) (i : ℕ) (e' : Engine) (l' : Ledger) (i' : ℕ) : Type 0 where
  pub some : SomeInTurn e' (notes_in l') i'
  pub came : CameOn e (notes_in l) i e' (notes_in l') i'
  pub lighter : left e' ≤ left e
  pub stays : Stays e e'
  pub same_marks : SameMarks l l'

-- what is owed at the exit of a `?` is owed at the clash that it passes on
pub broke : {A E : Type 0} (P : A → Type 0) (Q : E → Type 0) (r : Result A E) (k : E) → IsErrAnd r (λ y. y ≡ k) → Q k → MatchResult r P Q
broke P Q (Ok v) k e h = absurd e
broke P Q (Err y) k e h = subst Q (sym e) h

module _ {e : Engine} {l : Ledger} {i : ℕ} {e' : Engine} {l' : Ledger} {i' : ℕ} (so_far : SoFar e l i e' l' i') where
  pub came_on : {e'' : Engine} {l'' : Notes} {i'' : ℕ} → CameOn e' (notes_in l') i' e'' l'' i'' → CameOn e (notes_in l) i e'' l'' i''
  came_on on = record { each = λ b c r. let last = so_far.came.each b c r in on.each b last.0 last.1 }

  pub goes_on : {e'' : Engine} {l'' : Ledger} {i'' : ℕ} → Stays e' e'' → SameMarks l' l'' → left e'' ≤ left e' → CameOn e' (notes_in l') i' e'' (notes_in l'') i'' → SoFar e l i e'' l'' i''
  goes_on stays same less on = record {
    some =
        let last = so_far.some in
        let next = on.each last.from last.count last.run in
        record { from = last.from; count = next.0; run = next.1; room = subst₂ (λ words n. ledger_words words ≤ n) (sym stays.as_long) (sym same.1) last.room };
    came = came_on on;
    lighter = le_trans less so_far.lighter;
    stays = then_stays so_far.stays stays;
    same_marks = (same.0 ∙ so_far.same_marks.0, same.1 ∙ so_far.same_marks.1);
  }

  pub meets : {k : Clash} → CameToClash e' (notes_in l') i' k → CameToClash e (notes_in l) i k
  meets clash = record { each = λ b c r. let last = so_far.came.each b c r in clash.each b last.0 last.1 }
