-- What a step of the words says of a state that they hold: which thread took it, and what it touched.
use Rattle.std.proofs.Common.{◌≡◌, ℕ, ◌+◌, ◌*◌, ◌<◌, ◌≤◌, ◌⊎◌, inl, inr, List, ◌++◌, length, Some, None, Option, sym, refl, ap, ◌∙◌, subst, arith}
use Rattle.std.specs.List.{slice_get}
use Rattle.std.proofs.lemmas.List.{append_cancel_left}
use Rattle.model.specs.declared.Status.{Status}
use Rattle.model.specs.declared.Status.TheVariants.{Going as going, Waiting as waiting, Ended as ended, OutOfTurns as out_of_turns}
use Rattle.model.specs.Kernel.{place}
use Rattle.model.specs.Steps.{Touch, Thread, State, next_effect, stepped}
use Rattle.model.specs.Races.{In, here}
use Rattle.model.proofs.Threads.{touched_after}
use Rattle.machine.specs.declared.touched.Touch.{Touch as Touched}
use Rattle.machine.specs.Stands.{Source}
use Rattle.machine.specs.Words.{status_code}
use Rattle.machine.specs.Rules.{touches}
use Rattle.machine.specs.Together.{status_at}
use Rattle.machine.specs.Stepped.{StateHeld, CanStepOf, Moved, SteppedOf}
use Rattle.machine.proofs.Parts.{nth_some}
use Rattle.machine.proofs.Together.{code_at}
use Rattle.ledger.specs.Tells.{Grows}
use Rattle.ledger.specs.Runs.{touched_by, ledger_words}
use Rattle.ledger.proofs.Runs.{place_within, touches_places}
use Rattle.ledger.proofs.Threads.{touched_by_touches, stepped_grows}
use Rattle.ledger.specs.Places.{Notes}
use Rattle.kernel.specs.Choice.{Idle, Found}
use Rattle.kernel.specs.Watching.{Places, Room, Within}

code_is_going : (st : Status) → status_code st ≡ 0 → st ≡ going
code_is_going going e = refl
code_is_going waiting e = absurd (omega arith)
code_is_going ended e = absurd (omega arith)
code_is_going out_of_turns e = absurd (omega arith)

-- the thread that the status word says to be going
pub record Goer (st : State) (i : ℕ) : Type 0 where
  pub thread : Thread
  pub is : slice_get st.threads i ≡ Some thread
  pub goes : thread.status ≡ going

pub goer : {s : Source} {work m : List ℕ} {i n : ℕ} (st : State) → StateHeld s work m n st → i < n → status_at work i ≡ 0 → Goer st i
goer {i = i} st held within goes =
    let t = nth_some st.threads i (omega (arith, held.count)) in
    record { thread = t.0; is = t.1; goes = code_is_going t.0.status (code_at held.all i t.0 t.1 ∙ goes) }

-- what the step is told to have touched is what its effect touches
module _ {s : Source} {i n : ℕ} {work' m' : List ℕ} (st : State) (t : Thread) (r : Option Touched) (moved : Moved s i n work' m' r st t) where
  same_touches : touched_by (next_effect i (length st.threads) (length st.memory) t t.todo) ≡ touches r
  same_touches =
      let e = next_effect i (length st.threads) (length st.memory) t t.todo in
      append_cancel_left t.touched _ _ (ap (λ τs. t.touched ++ τs) (sym (touched_by_touches e)) ∙ sym (touched_after i _ _ t t.todo st.memory) ∙ moved.touched)

  pub touch_grows : slice_get st.threads i ≡ Some t → Grows st (stepped st i t) i (touches r)
  touch_grows is = subst (Grows st (stepped st i t) i) same_touches (stepped_grows st i t is)

  pub touch_within : (words : ℕ) → ledger_words (length st.memory) ≤ words → Places words r
  touch_within words room = go r (λ τ x. touches_places i _ _ t t.todo τ (subst (In τ) (sym same_touches) x))
    where
      go : (r : Option Touched) → ((τ : Touch) → In τ (touches r) → (v : ℕ) × (τ.at ≡ place v (length st.memory))) → Places words r
      go None each = tt
      go (Some t) each = let q = each _ here in subst (λ a. 2 * a + 1 < words) (sym q.1) (place_within q.0 (length st.memory) words room)

-- the thread that is chosen is one of them, and is going
pub chosen : {work : List ℕ} {from n i : ℕ} → from ≤ n → Found work from n i ⊎ (Idle work from n × Found work 0 from i) → (i < n) × (status_at work i ≡ 0)
chosen low (inl found) = (found.within, found.goes)
chosen low (inr (idle, found)) = (omega (arith, low, found.within), found.goes)

-- thread i of a state that the words hold is going, so that it can take a step
pub can_step : {s : Source} {work m : List ℕ} {i n : ℕ} {st : State} → StateHeld s work m n st → i < n → status_at work i ≡ 0 → CanStepOf s work m i n
can_step {st = st} held within goes =
    let g = goer st held within goes in
    record { state = st; thread = g.thread; held = held; is = g.is; goes = g.goes }

-- .. and has two words for what it touches
pub touched_within : {s : Source} {work work' m m' : List ℕ} {i n : ℕ} (r : Option Touched) → CanStepOf s work m i n → SteppedOf s i n work work' m m' r → (words : ℕ) → ledger_words (length m) ≤ words → Places words r
touched_within r can step words room =
    touch_within can.state can.thread r (step.each can.state can.thread can.held can.is can.goes) words (subst (λ m. ledger_words (length m) ≤ words) can.held.memory_is room)

-- .. as long as touches are noted
pub within_of : {s : Source} {work work' m m' : List ℕ} {i n : ℕ} (w : Option Notes) (r : Option Touched) → CanStepOf s work m i n → SteppedOf s i n work work' m m' r → Room (length m) w → Within w r
within_of (Some l) r can step room = touched_within r can step (length l.words) room
within_of None r can step room = tt
