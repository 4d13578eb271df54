-- What each exit of `run` owes.
use Rattle.std.proofs.Common.{◌≡◌, ℕ, true, false, ◌||◌, ltb, ◌⊎◌, List, length, Ok, Err, Result, sym, refl, subst, subst₂, inl, inr, arith, MatchResult}
use Rattle.std.proofs.lemmas.Bool.{ltb-true, ltb-false, or_cases, or_parts}
use Rattle.model.specs.declared.Clash.{Clash}
use Rattle.model.specs.Steps.{begin}
use Rattle.machine.specs.declared.engine.Engine.{Engine}
use Rattle.machine.specs.Stands.{source}
use Rattle.kernel.specs.declared.outcome.Ran.{Ran}
use Rattle.kernel.specs.declared.outcome.Ran.TheVariants.{Even, Uneven, Few}
use Rattle.kernel.specs.Ran.{SomeText}
use Rattle.kernel.specs.Says.{floor, Met, RanSays, RanPost}
use Rattle.kernel.specs.Sequence.{RunsToEnd, RunsToClash}
use Rattle.kernel.specs.Whole.{ran_in_words, HandsOut, HasRun}
use Rattle.kernel.proofs.OneOrder.{even}
use Rattle.kernel.proofs.Outcomes.{parts}

never : {x : Ran} → (x ≡ Even) ⊎ ((k : Clash) × (x ≡ Uneven k)) → x ≡ Few → ⊥
never (inl is) few = let z : ◌≡◌ {A = ℕ} 0 1 = cc in omega arith
never (inr (k, is)) few = let z : ◌≡◌ {A = ℕ} 0 1 = cc in omega arith

module _ {turns : ℕ} {m m' o o' : List ℕ} where
  -- the order was run on the copy, which was the memory before, and is handed out as the memory after
  pub handed : (e e' : Engine) {ran : Ran} (outcome : Result (Unit {0}) Clash) → SomeText (source e.script.now) → e.memory.now ≡ m → e'.threads ≡ e.threads → MatchResult outcome (λ _. RunsToEnd e turns e') (RunsToClash e turns) → ran ≡ ran_in_words outcome → HandsOut ran e' m m' o o' → HasRun (source e.script.now).rows e.threads turns m m' o o' ran
  handed e e' (Ok v) text before same runs is hands =
      let k = text.kernel in
      let says = text.text.says in
      let out = subst (λ x. HandsOut x e' m m' o o') is hands in
      let all : RanSays (source e.script.now).rows e.threads turns m e'.memory.now o o' Even = subst (λ m. RanSays (source e.script.now).rows e.threads turns m e'.memory.now o o' Even) before (k, says, even e' k same (runs.each k says).1 out.1) in
      record {
        says = subst₂ (λ m' x. RanSays (source e.script.now).rows e.threads turns m m' o o' x) (sym out.0) (sym is) all;
        enough = never (inl is);
      }
  handed e e' (Err c) text before same runs is hands =
      let k = text.kernel in
      let says = text.text.says in
      let out = subst (λ x. HandsOut x e' m m' o o') is hands in
      record {
        says = subst (RanSays (source e.script.now).rows e.threads turns m m' o o') (sym is) (k, says, subst (λ m. Met (begin k e.threads turns m) c) before (runs.each k says), out.0, out.1);
        enough = never (inr (c, is));
      }

module _ (r : List ℕ) (n turns : ℕ) (m m' o o' : List ℕ) where
  pub ran : (w : ℕ) (x : Ran) → (ltb (length o) n || ltb w (floor (length r) (length m) n)) ≡ false → HasRun r n turns m m' o o' x → RanPost r n turns m m' o o' w x
  ran w x enough run =
      let parted = or_parts (ltb (length o) n) (ltb w (floor (length r) (length m) n)) enough in
      let states = ltb-false (length o) n parted.0 in
      let words = ltb-false w (floor (length r) (length m) n) parted.1 in
      record {
        says = run.says;
        few = ((λ less. elim less [ inl l ↦ absurd (omega arith) | inr l ↦ absurd (omega arith) ]), λ e. absurd (run.enough e));
        parts = parts;
      }

pub too_few : (r : List ℕ) (n turns : ℕ) (m o : List ℕ) (w : ℕ) → (ltb (length o) n || ltb w (floor (length r) (length m) n)) ≡ true → RanPost r n turns m m o o w Few
too_few r n turns m o w less = record {
  says = (refl, refl);
  few = (
    (λ _. refl),
    λ _. elim (or_cases (ltb (length o) n) (ltb w (floor (length r) (length m) n)) less) [ inl l ↦ inl (ltb-true (length o) n l) | inr l ↦ inr (ltb-true w (floor (length r) (length m) n) l) ],
  );
  parts = parts;
}
