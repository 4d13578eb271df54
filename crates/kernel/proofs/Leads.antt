-- The order that is led step by step: a step of it, its end, and what both say of the whole.
use Rattle.std.proofs.Common.{◌≡◌, ℕ, suc, ◌<◌, Bool, true, false, length, Some, None, Option, IsErrAnd, Ok, Err, Result, sym, refl, subst, true≢false}
use Rattle.std.specs.Result.{is_err}
use Rattle.model.specs.declared.ThreadId.{ThreadId}
use Rattle.model.specs.Kernel.{Kernel}
use Rattle.model.specs.Rows.{Rows}
use Rattle.model.specs.Races.{Racy}
use Rattle.model.specs.Steps.{stepped, one}
use Rattle.machine.specs.declared.engine.Engine.{Engine}
use Rattle.machine.specs.declared.touched.Touch.{Touch}
use Rattle.machine.specs.Begins.{AllBegun}
use Rattle.machine.specs.Engines.{Stays}
use Rattle.machine.specs.Stands.{source}
use Rattle.machine.specs.Stepped.{SteppedOf}
use Rattle.machine.specs.Together.{status_at}
use Rattle.ledger.specs.Places.{Notes}
use Rattle.ledger.specs.declared.places.Earlier.{Earlier}
use Rattle.ledger.specs.Promises.{NotePost, OpenPost}
use Rattle.kernel.specs.declared.led.ClashAt.{ClashAt}
use Rattle.kernel.specs.Led.{ToClash, ToEnd, GoneOn, LeadsToEnd, LeadsToClash}
use Rattle.kernel.specs.Order.{WentOn, AtEnd}
use Rattle.kernel.specs.Ran.{SomeText}
use Rattle.kernel.proofs.Advances.{advances}
use Rattle.kernel.proofs.Moves.{goer, touch_grows}
use Rattle.kernel.proofs.Paths.{then, calm}
use Rattle.kernel.proofs.Plays.{Playing}
use Rattle.kernel.proofs.Watches.{untouched_watched, grown, fine_watched}
use Rattle.kernel.proofs.Whole.{begins, decided, text_of}

-- a step that touches nothing goes on, and so does one whose touch is noted; one whose touch is told as a clash is a step to that clash
module _ {e e' : Engine} {i : ThreadId} {τ : Option Touch} (stays : Stays e e') (within : i.0 < e.threads) (goes : status_at e.work.now i.0 ≡ 0) (step : SteppedOf (source e.script.now) i.0 e.threads e.work.now e'.work.now e.memory.now e'.memory.now τ) where
  pub step_untouched : {l : Notes} → τ ≡ None → WentOn e (Some l) e' (Some l)
  step_untouched {l} none = advances τ stays within goes step (untouched_watched (Some l) i.0 τ none)

  module _ {l l' : Notes} (t : Touch) (touch : τ ≡ Some t) where
    pub step_fine : (r : Result (Unit {0}) Earlier) → is_err r ≡ false → NotePost l l' i.0 t.place.0 t.access r → length l'.words ≡ length l.words → WentOn e (Some l) e' (Some l')
    step_fine r fine post same = advances τ stays within goes step (fine_watched i.0 refl τ t touch r fine post same)

    pub step_clashes : (r : Result (Unit {0}) Earlier) → is_err r ≡ true → NotePost l l' i.0 t.place.0 t.access r → ToClash e l (record { thread = i; place = t.place })
    step_clashes (Ok done) clash post = absurd (true≢false (sym clash))
    step_clashes (Err first) clash post = record {
      each = λ b st run.
          let g = goer st run.held within goes in
          let moved = step.each st g.thread run.held g.is g.goes in
          let race = post.means.race st (stepped st i.0 g.thread) run.said.0 (grown i.0 τ t touch (touch_grows st g.thread τ moved g.is)) in
          record {
            state = stepped st i.0 g.thread;
            reached = (suc run.count, then run.count b st (stepped st i.0 g.thread) run.path (one i.0 g.thread g.is g.goes));
            other = race.0;
            race = race.1;
          };
    }

-- a clash that a `?` passes on
pub passed_on : {e : Engine} (e' : Engine) {l : Notes} (l' : Notes) (r : Result Bool ClashAt) (k : ClashAt) → IsErrAnd r (λ y. y ≡ k) → ToClash e l k → GoneOn e l e' l' r
passed_on e' l' (Ok on) k is clash = absurd is
passed_on {e} e' {l} l' (Err y) k is clash = subst (ToClash e l) (sym is) clash

-- whether it went on is told rightly
module _ {e : Engine} (e' : Engine) {l : Notes} (l' : Notes) (on : Bool) where
  pub went_so : on ≡ true → GoneOn e l e' l' (Ok on) → WentOn e (Some l) e' (Some l')
  went_so is gone = subst (λ on. GoneOn e l e' l' (Ok on)) is gone

  pub ended_so : on ≡ false → GoneOn e l e' l' (Ok on) → ToEnd e l
  ended_so is gone = subst (λ on. GoneOn e l e' l' (Ok on)) is gone

-- an end without a clash so far
pub at_end : {e e' : Engine} {l : Notes} {w' : Option Notes} → AtEnd e (Some l) e' w' → ToEnd e l
at_end end = record {
  each = λ b st run. record { state = st; count = run.count; way = calm run.count b st run.path run.said.1; ended = end.ended b st run };
}

-- what the last turn comes to, the whole order does
module _ {e e' : Engine} {l l' : Notes} (so_far : Playing e (Some l) e' (Some l')) where
  pub ends_so : ToEnd e' l' → ToEnd e l
  ends_so end = record { each = λ b st run. let last = so_far.each b st run in end.each b last.state last.run }

  pub clashes_so : {k : ClashAt} → ToClash e' l' k → ToClash e l k
  clashes_so clash = record { each = λ b st run. let last = so_far.each b st run in clash.each b last.state last.run }

-- from the begin
module _ {e e' : Engine} {l : Notes} {turns words : ℕ} (begun : AllBegun e'.work.now e.threads turns) (memory : e'.memory.now ≡ e.memory.now) (stays : Stays e e') (opened : OpenPost words l) (text : SomeText (source e.script.now)) where
  pub whole_end : ToEnd e' l → LeadsToEnd e turns
  whole_end end = record { each = λ k says. end.each _ _ (begins begun memory stays opened k (text_of text k says)) }

  pub whole_clash : {k : ClashAt} → ToClash e' l k → LeadsToClash e turns k
  whole_clash clash = record { each = λ k says. clash.each _ _ (begins begun memory stays opened k (text_of text k says)) }

-- an order that ends calmly shows that none has a clash
pub none_clashes : {e : Engine} {turns : ℕ} → SomeText (source e.script.now) → LeadsToEnd e turns → (k : Kernel) × Rows (source e.script.now).rows k × (Racy k e.threads turns e.memory.now → ⊥)
none_clashes {e} {turns} text leads =
    let k = text.kernel in
    let end = leads.each k text.text.says in
    (k, text.text.says, (decided k e.threads turns e.memory.now end.count end.state end.way end.ended).settled.no_clash)
