-- A whole order: how it begins, and what its end says of all orders.
use Rattle.std.proofs.Common.{◌≡◌, ℕ, ◌≤◌, Bool, List, [], ◌∷◌, length, replicate, Some, None, Option, sym, refl, subst, true≢false, arith}
use mathlib.Core.Bool.{false≢true}
use Rattle.std.proofs.lemmas.List.{length-replicate}
use Rattle.model.specs.declared.Status.TheVariants.{Going as going}
use Rattle.model.specs.Kernel.{Kernel}
use Rattle.model.specs.Rows.{Rows}
use Rattle.model.specs.Steps.{State, Step, Ended, begin}
use Rattle.model.specs.Orders.{RaceFree, Calm}
use Rattle.model.proofs.Chains.{forget}
use Rattle.model.proofs.Orders.{any_order, one_order_tells, calm_drags}
use Rattle.model.proofs.Promised.{parts}
use Rattle.rows.proofs.Texts.{one_kernel}
use Rattle.machine.specs.declared.engine.Engine.{Engine}
use Rattle.machine.specs.Engines.{Stays}
use Rattle.machine.specs.Stands.{Source, source}
use Rattle.machine.specs.All.{AllHeld}
use Rattle.machine.specs.Begins.{AllBegun}
use Rattle.ledger.specs.Places.{Notes}
use Rattle.ledger.specs.Runs.{ClashOn, Exactly, ledger_words}
use Rattle.ledger.specs.Promises.{OpenPost}
use Rattle.ledger.proofs.Tells.{race_free}
use Rattle.ledger.proofs.Posts.{laws}
use Rattle.kernel.specs.Held.{HeldIn}
use Rattle.kernel.specs.Watching.{has_clashed, Opened, Said}
use Rattle.kernel.specs.Order.{Run, SomeRun, Played}
use Rattle.kernel.specs.Ran.{TextIn, SomeText, Written, Ran, OrderPost}
use Rattle.kernel.specs.Outcome.{HandedOut, Decided, WholeOrder}
use Rattle.kernel.proofs.Engines.{held_on}
use Rattle.kernel.proofs.Paths.{calm}

-- an engine whose threads begin holds the state that the definitions begin with
pub begin_held : {e e' : Engine} {turns : ℕ} → AllBegun e'.work.now e.threads turns → e'.memory.now ≡ e.memory.now → Stays e e' → (k : Kernel) → TextIn (source e.script.now) k → HeldIn e' (begin k e.threads turns e.memory.now)
begin_held {e} {e'} {turns} begun memory stays k text = held_on stays (record {
  all = subst (λ v. AllHeld (source e.script.now) e'.work.now (replicate e.threads (record { todo = k.body ∷ []; vars = replicate v 0; left = turns; touched = []; status = going }))) text.variables (begun.each (source e.script.now) k.body text.stands);
  memory_is = memory;
  count = length-replicate e.threads _;
})

-- whatever kernel the rows say is the text that stands in them
pub text_of : {s : Source} → SomeText s → (k : Kernel) → Rows s.rows k → TextIn s k
text_of {s} text k says = subst (TextIn s) (one_kernel s.rows text.kernel k text.text.says says) text.text

module _ {e e' : Engine} {l : Notes} {turns words : ℕ} (begun : AllBegun e'.work.now e.threads turns) (memory : e'.memory.now ≡ e.memory.now) (stays : Stays e e') (opened : OpenPost words l) where
  pub begins : (k : Kernel) → TextIn (source e.script.now) k → Run e' (Some l) (begin k e.threads turns e.memory.now) (begin k e.threads turns e.memory.now)
  begins k text =
      let tells = opened.tells k e.threads turns e.memory.now in
      record {
        count = 0;
        path = refl;
        held = begin_held begun memory stays k text;
        said = (tells, race_free l (begin k e.threads turns e.memory.now) tells);
      }

  pub some_begins : SomeText (source e.script.now) → ledger_words (length e.memory.now) ≤ words → length l.words ≡ words → SomeRun e' (Some l)
  some_begins text room same = record {
    from = begin text.kernel e.threads turns e.memory.now;
    state = begin text.kernel e.threads turns e.memory.now;
    run = begins text.kernel text.text;
    room = omega (arith, room, same, stays.as_long);
  }

-- .. with a watch over it
module _ {e e' : Engine} {turns : ℕ} (words : ℕ) (begun : AllBegun e'.work.now e.threads turns) (memory : e'.memory.now ≡ e.memory.now) (stays : Stays e e') (text : SomeText (source e.script.now)) where
  pub begins_watched : (w : Option Notes) → Opened words w → (k : Kernel) → TextIn (source e.script.now) k → Run e' w (begin k e.threads turns e.memory.now) (begin k e.threads turns e.memory.now)
  begins_watched (Some l) opened k says = begins begun memory stays opened.0 k says
  begins_watched None opened k says = absurd opened

  pub some_watched : (w : Option Notes) → Opened words w → ledger_words (length e.memory.now) ≤ words → SomeRun e' w
  some_watched (Some l) opened room = some_begins begun memory stays opened.0 text room opened.1
  some_watched None opened room = absurd opened

said_exactly : (w : Option Notes) (st : State) (P : Type 0) → Said w st P → Exactly (has_clashed w) P
said_exactly (Some l) st P said = ((λ e. absurd (false≢true e)), λ _ k. said.1 k)
said_exactly None st P said = ((λ _. said), λ e. absurd (true≢false e))

-- an order that ends without a clash decides how all end
pub decided : (k : Kernel) (n turns : ℕ) (m : List ℕ) (c : ℕ) (st : State) → Calm c (begin k n turns m) st → Ended st → Decided k n turns m st
decided k n turns m c st way ended =
    let b = begin k n turns m in
    let free = one_order_tells k n turns m c st way ended in
    record {
      settled = record { no_clash = free; one_end = λ u reached ended_u. any_order k n turns m free u st reached (c, forget RaceFree Step c b st way) ended_u ended };
      ahead = λ u reached. let rest = calm_drags b u st c way ended reached in (rest.0, forget RaceFree Step rest.0 u st rest.1);
    }

-- the memory and the states of the words are those of the state that they hold
pub handed_out : (e : Engine) {st : State} {o o' : List ℕ} → HeldIn e st → Written e.work.now e.threads o o' → HandedOut e.threads st e.memory.now o o'
handed_out e {st} held written = record { memory_is = held.memory_is; states_are = written.codes_are (source e.script.now) st.threads held.count held.all; others_stay = written.others_stay }

-- an order that has run decides how all end, where it came to no clash
pub whole : {k : Kernel} {n turns : ℕ} {m m' o o' : List ℕ} {r : Bool} → Ran k n turns m m' o o' r → WholeOrder k n turns m m' o o' r
whole {k} {n} {turns} {m} ran = record {
  ran = ran;
  decided = λ e. decided k n turns m ran.count ran.state (calm ran.count (begin k n turns m) ran.state ran.path (ran.clash.1 e)) ran.ended;
}

module _ (e : Engine) {e' e'' : Engine} {w w' : Option Notes} {turns : ℕ} {before after : List ℕ} {r : Bool} (text : SomeText (source e.script.now)) (begun : (k : Kernel) → TextIn (source e.script.now) k → Run e' w (begin k e.threads turns e.memory.now) (begin k e.threads turns e.memory.now)) (played : Played e' w e'' w') (stays : e''.threads ≡ e.threads) (written : Written e''.work.now e''.threads before after) (told : r ≡ has_clashed w') where
  ran : (k : Kernel) → TextIn (source e.script.now) k → Ran k e.threads turns e.memory.now e''.memory.now before after r
  ran k says =
      let b = begin k e.threads turns e.memory.now in
      let end = played.each b b (begun k says) in
      let run = end.run in
      let exactly = subst (λ r. Exactly r (ClashOn run.count b end.state run.path)) (sym told) (said_exactly w' end.state _ run.said) in
      let out = subst (λ n. HandedOut n end.state e''.memory.now before after) stays (handed_out e'' run.held written) in
      record {
        state = end.state;
        count = run.count;
        path = run.path;
        ended = end.ended;
        memory_is = out.memory_is;
        states_are = out.states_are;
        others_stay = out.others_stay;
        clash = exactly;
        settled = λ is. (decided k e.threads turns e.memory.now run.count end.state (calm run.count b end.state run.path (exactly.1 is)) end.ended).settled;
      }

  pub order_post : OrderPost (source e.script.now).rows e.threads turns e.memory.now e''.memory.now before after r
  order_post = record {
    each = λ k says. ran k (text_of text k says);
    parts = parts;
    laws = laws;
  }
