-- A step of one thread's words, among the words of all, is a step of the whole state.
use Rattle.std.proofs.Common.{◌≡◌, ℕ, ◌+◌, ◌*◌, ◌<◌, ◌≤◌, List, length, set, Some, sym, ap, ◌∙◌, subst, subst₂, ⊎_elim, arith, Option}
use borrow.Rule.Slice.PartMut.{put_mid}
use Rattle.std.specs.List.{slice_get}
use Rattle.std.proofs.lemmas.List.{length-set}
use Rattle.std.proofs.lemmas.Bool.{cases_eq}
use Rattle.model.specs.declared.Status.{Status}
use Rattle.model.specs.Steps.{Thread}
use Rattle.model.proofs.Threads.{nth_set_same, nth_set_other}
use Rattle.std.proofs.lemmas.Option.{slice_get_within}
use Rattle.machine.specs.declared.touched.Touch.{Touch}
use Rattle.machine.specs.Stands.{Source}
use Rattle.machine.specs.Words.{status_of, Holds, part}
use Rattle.machine.specs.All.{StatusOf, AllHeld}
use Rattle.machine.specs.Stepped.{CanStep, Stepped, CanStepOf, SteppedOf}
use Rattle.machine.specs.Loads.{load}
use Rattle.machine.specs.Together.{status_at}
use Rattle.machine.proofs.Loads.{load_falls, loads_fall}
use Rattle.machine.proofs.StatusWords.{named_is}
use Rattle.machine.proofs.Parts.{status_part, part_put_same, part_put_other, length_put}

-- other words for thread i, which then is u
put_held : (s : Source) (work ys : List ℕ) (ts : List Thread) (i size : ℕ) (t u : Thread) → size ≡ 1024 → AllHeld s work ts → slice_get ts i ≡ Some t → Holds s ys u → AllHeld s (put_mid (1024 * i) size work ys) (set ts i u)
put_held s work ys ts i size t u size_is h is new =
    let room : 1024 * i + 1024 ≤ length work = omega (arith, h.room, slice_get_within ts i t is) in
    record {
      room = omega (arith, h.room, length-set ts i u, length_put i size work ys size_is room new.size);
      each = λ j v found.
          ⊎_elim
          (λ same.
          let is_u : u ≡ v = let e = nth_set_same ts i t u is in let f = subst (λ j. slice_get (set ts i u) j ≡ Some v) same found in cc in
          subst (λ j. Holds s (part j (put_mid (1024 * i) size work ys)) v) (sym same) (subst₂ (λ w v. Holds s w v) (sym (part_put_same i size work ys size_is room new.size)) is_u new))
          (λ apart. subst (λ w. Holds s w v) (sym (part_put_other i size work ys size_is room new.size j apart)) (h.each j v (sym (nth_set_other ts i j u (λ e. apart (sym e))) ∙ found)))
          (cases_eq j i);
    }

module _ {s : Source} {work m : List ℕ} {i n : ℕ} where
  pub room_of : CanStepOf s work m i n → 1024 * i + 1024 ≤ length work
  room_of c = omega (arith, c.held.all.room, slice_get_within c.state.threads i c.thread c.is)

  pub can_step : {w : List ℕ} → w ≡ part i work → CanStepOf s work m i n → CanStep s w
  can_step same c = record { thread = c.thread; holds = subst (λ w. Holds s w c.thread) (sym same) (c.held.all.each i c.thread c.is); goes = c.goes }

  pub stepped_of : {w w' m' : List ℕ} {r : Option Touch} (size : ℕ) → size ≡ 1024 → w ≡ part i work → CanStepOf s work m i n → Stepped s i n w w' m m' r → SteppedOf s i n work (put_mid (1024 * i) size work w') m m' r
  stepped_of {w} {w'} {m'} {r} size size_is same can step = record {
    each = λ st t held is g.
        let here : Stepped s i (length st.threads) (part i work) w' st.memory m' r = subst (λ n. Stepped s i n (part i work) w' st.memory m' r) (sym held.count) (subst₂ (λ w m. Stepped s i n w w' m m' r) same held.memory_is step) in
        let done = here.each t (held.all.each i t is) g in
        record {
          held = record {
            all = put_held s work w' st.threads i size t _ size_is held.all is done.holds;
            memory_is = done.memory_is;
            count = length-set st.threads i _ ∙ held.count;
          };
          touched = done.touched;
        };
    lighter =
        let here = can_step same can in
        let size' = (step.each here.thread here.holds here.goes).holds.size in
        loads_fall s i size work w' size_is (room_of can) size' n (omega (arith, can.held.count, slice_get_within can.state.threads i can.thread can.is)) (subst (λ w. load s w' < load s w) same (load_falls here step));
  }

-- the status that the code reads in a thread's words
pub status_is_of : {work : List ℕ} {j : ℕ} {r : Status} → r ≡ status_of (status_at work j) → StatusOf work j r
status_is_of {work} {j} {r} read = record { is = λ s ts t h is. named_is t.status ∙ ap status_of ((h.each j t is).status_is ∙ status_part j work) ∙ sym read }
