-- How a thread begins, in the words and in the text.
use Rattle.std.proofs.Common.{◌≡◌, ℕ, ◌+◌, ◌*◌, ◌<◌, ◌≤◌, List, [], ◌∷◌, length, set, replicate, sym, refl, ap, ◌∙◌, subst, arith, below_more}
use borrow.Rule.Slice.PartMut.{put_mid}
use Rattle.std.proofs.lemmas.List.{length-replicate, length-set, take-replicate, get_or-replicate}
use Rattle.std.proofs.lemmas.Option.{get_or_from_slice_get}
use Rattle.model.specs.declared.Status.TheVariants.{Going as going}
use Rattle.model.specs.Kernel.{Kernel}
use Rattle.rows.specs.Decoded.{Decoded}
use Rattle.rows.specs.declared.decoder.Text.{Text}
use Rattle.std.proofs.lemmas.Option.{slice_get_within}
use Rattle.machine.specs.Stands.{Source}
use Rattle.machine.specs.Words.{Held, Holds, pushed, part}
use Rattle.machine.specs.Begins.{TextStands, Begun, fresh, AllBegun}
use Rattle.machine.proofs.Held.{set_left, pushes}
use Rattle.machine.proofs.Parts.{part_put_same, part_put_other}
use Rattle.machine.proofs.Texts.{decoded_stands}

-- words that are all 0 hold a thread with nothing to do
cleared : (s : Source) → s.variables ≤ 256 → length s.rows ≤ 65536 → Held s (replicate 1024 0) [] (replicate s.variables 0) 0 going
cleared s few short = record {
  size = length-replicate {A = ℕ} 1024 0;
  few = few;
  short = short;
  vars_are = sym (take-replicate s.variables 1024 0 (omega arith));
  left_is = refl;
  status_is = refl;
  height_is = refl;
  stack = tt;
}

pub begun : {w : List ℕ} {turns : ℕ} → w ≡ pushed (set (replicate 1024 0) 256 turns) 1 → Begun w turns
begun {w} {turns} is = record {
  size = ap length is ∙ simp length-set;
  each = λ s body text. subst (λ w. Held s w (body ∷ []) (replicate s.variables 0) turns going) (sym is)
      (pushes 1 body text.stands (omega (arith, text.shallow)) (set_left turns (cleared s text.few text.short)));
}

-- one thread more, in words that were lent
pub begun_more : (work ys : List ℕ) (j size turns : ℕ) → size ≡ 1024 → 1024 * j + 1024 ≤ length work → ((k : ℕ) → k < j → Begun (part k work) turns) → Begun ys turns → (k : ℕ) → k < j + 1 → Begun (part k (put_mid (1024 * j) size work ys)) turns
begun_more work ys j size turns size_is room before new =
    below_more (λ k. Begun (part k (put_mid (1024 * j) size work ys)) turns) j
    (λ k l. subst (λ w. Begun w turns) (sym (part_put_other j size work ys size_is room new.size k (λ e. omega arith))) (before k l))
    (subst (λ w. Begun w turns) (sym (part_put_same j size work ys size_is room new.size)) new)

pub all_begun : (work : List ℕ) (j n turns : ℕ) → n ≤ j → 1024 * n ≤ length work → ((k : ℕ) → k < j → Begun (part k work) turns) → AllBegun work n turns
all_begun work j n turns l room each = record {
  each = λ s body text. record {
    room = omega (arith, length-replicate n (fresh s body turns));
    each = λ k t is.
        let within : k < n = omega (arith, slice_get_within (replicate n (fresh s body turns)) k t is, length-replicate n (fresh s body turns)) in
        subst (Holds s (part k work)) (sym (get_or-replicate n k (fresh s body turns) t within) ∙ get_or_from_slice_get (replicate n (fresh s body turns)) k t t is) ((each k (omega arith)).each s body text);
  };
}

-- the text that `decode` found
pub decoded_text : {w t t' : List ℕ} {x : Text} {k : Kernel} (variables : ℕ) → Decoded w t t' x k → variables ≡ x.variables → TextStands (record { rows = w; ends = t'; variables = variables }) k.body
decoded_text {w} {t} {t'} {x} {k} variables d same = subst (λ v. TextStands (record { rows = w; ends = t'; variables = v }) k.body) (sym same) (record { few = omega (arith, d.variables, d.says.few); short = d.says.short; stands = decoded_stands d; shallow = d.says.shallow })
