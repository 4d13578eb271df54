-- Some state is held from the beginning on, and after every step.
use Rattle.std.proofs.Common.{◌≡◌, ℕ, ◌<◌, Bool, true, false, List, [], ◌∷◌, replicate, Some, sym, refl, ◌∙◌, subst, subst₂, arith, Option}
use Rattle.std.specs.List.{slice_get}
use Rattle.std.proofs.lemmas.List.{length-replicate}
use Rattle.model.specs.declared.Status.{Status}
use Rattle.model.specs.declared.Status.TheVariants.{Going as going}
use Rattle.model.specs.Kernel.{Stmt, Kernel}
use Rattle.model.specs.Steps.{Thread, State, all_released, resumed, begin}
use Rattle.rows.specs.declared.decoder.Text.{Text}
use Rattle.rows.specs.Decoded.{Decoded}
use Rattle.machine.specs.declared.release.Released.{Released}
use Rattle.machine.specs.declared.release.Released.TheVariants.{Nobody, Waiting as ReleasedAsWaiting, End}
use Rattle.machine.specs.declared.touched.Touch.{Touch}
use Rattle.machine.specs.declared.engine.Engine.{Engine}
use Rattle.machine.specs.Engines.{Stays}
use Rattle.machine.specs.Stands.{Source, source}
use Rattle.machine.specs.All.{StatusOf, AllHeld}
use Rattle.machine.specs.Begins.{TextStands, fresh, AllBegun}
use Rattle.machine.specs.Together.{ReleasedAs, Release, ResumedAs, Resumed}
use Rattle.machine.specs.Stepped.{StateHeld, CanStepOf, SteppedOf, Running}
use Rattle.machine.proofs.Begin.{decoded_text}
use Rattle.machine.proofs.Parts.{nth_some}
use Rattle.machine.proofs.Together.{length_all_released}

pub running_begun : {s : Source} {body : Stmt} {work : List ℕ} (m : List ℕ) {n turns : ℕ} → TextStands s body → AllBegun work n turns → Running s work m n
running_begun {s} {body} m {n} {turns} text begun = record {
  state = record { memory = m; threads = replicate n (fresh s body turns) };
  held = record { all = begun.each s body text; memory_is = refl; count = length-replicate n (fresh s body turns) };
}

-- .. and the state that the definitions begin with
pub begin_held : {w t t' work : List ℕ} {x : Text} {k : Kernel} (m : List ℕ) {n turns : ℕ} (variables : ℕ) → Decoded w t t' x k → variables ≡ x.variables → AllBegun work n turns → StateHeld (record { rows = w; ends = t'; variables = variables }) work m n (begin k n turns m)
begin_held {w} {t} {t'} {work} {x} {k} m {n} {turns} variables d same begun =
    let s : Source = record { rows = w; ends = t'; variables = variables } in
    record {
      all = subst (λ v. AllHeld s work (replicate n (record { todo = k.body ∷ []; vars = replicate v 0; left = turns; touched = []; status = going }))) (same ∙ d.variables) (begun.each s k.body (decoded_text variables d same));
      memory_is = refl;
      count = length-replicate n _;
    }

module _ {s : Source} {work m : List ℕ} {i n : ℕ} {r : Status} (status : StatusOf work i r) where
  pub is_going : r ≡ going → (st : State) (t : Thread) → StateHeld s work m n st → slice_get st.threads i ≡ Some t → t.status ≡ going
  is_going goes st t held is = status.is s st.threads t held.all is ∙ goes

  pub not_going : (r ≡ going → ⊥) → (st : State) (t : Thread) → StateHeld s work m n st → slice_get st.threads i ≡ Some t → t.status ≡ going → ⊥
  not_going stops st t held is g = stops (sym (status.is s st.threads t held.all is) ∙ g)

  module _ (goes : r ≡ going) (run : Running s work m n) (known : i < n) where
    one : (t : Thread) × (slice_get run.state.threads i ≡ Some t)
    one = nth_some run.state.threads i (omega (arith, run.held.count))

    pub can_step_of : CanStepOf s work m i n
    can_step_of = record { state = run.state; thread = one.0; held = run.held; is = one.1; goes = is_going goes run.state one.0 run.held one.1 }

    pub running_on : {work' m' : List ℕ} {x : Option Touch} → SteppedOf s i n work work' m m' x → Running s work' m' n
    running_on step = record { state = _; held = (step.each run.state one.0 run.held one.1 (is_going goes run.state one.0 run.held one.1)).held }

-- .. which an engine keeps
pub stays_running : {e e' : Engine} {work m m' : List ℕ} → Stays e e' → m' ≡ m → Running (source e.script.now) work m e.threads → Running (source e'.script.now) work m' e'.threads
stays_running {e} {e'} {work} {m} stays same run = subst (λ m. Running (source e'.script.now) work m e'.threads) (sym same) (subst₂ (λ s n. Running (source s.now) work m n) (sym stays.script) (sym stays.threads) run)

-- .. and where all that waited have gone on, or nothing has changed
module _ {s : Source} {work work' m : List ℕ} {n : ℕ} (run : Running s work m n) where
  go_on : AllHeld s work' (all_released run.state.threads) → Running s work' m n
  go_on held = record {
    state = resumed run.state;
    held = record { all = held; memory_is = run.held.memory_is; count = length_all_released run.state.threads ∙ run.held.count };
  }

  stays : work' ≡ work → Running s work' m n
  stays is = subst (λ w. Running s w m n) (sym is) run

pub running_released : {s : Source} {work work' m : List ℕ} {n : ℕ} {r : Released} → Release work work' n r → Running s work m n → Running s work' m n
running_released {s} {work} {work'} {m} {n} {r} release run = go r (release.each s run.state.threads run.held.count run.held.all)
  where
    go : (r : Released) → ReleasedAs s work work' run.state.threads r → Running s work' m n
    go Nobody h = stays run h.1
    go ReleasedAsWaiting h = go_on run h.2
    go End h = stays run h.2

pub running_resumed : {s : Source} {work work' m : List ℕ} {n : ℕ} {r : Bool} → Resumed work work' n r → Running s work m n → Running s work' m n
running_resumed {s} {work} {work'} {m} {n} {r} resume run = go r (resume.each s run.state.threads run.held.count run.held.all)
  where
    go : (r : Bool) → ResumedAs s work work' run.state.threads r → Running s work' m n
    go true h = go_on run h.1
    go false h = stays run h.1
