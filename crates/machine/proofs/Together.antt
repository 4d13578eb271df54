-- All that wait go on: from the status words to the threads.
use Rattle.std.proofs.Common.{◌≡◌, ℕ, zero, suc, ◌+◌, ◌*◌, ◌<◌, ◌≤◌, Bool, true, false, cond, not, ◌&&◌, ◌||◌, eqb, List, [], ◌∷◌, length, get_or, set, Some, sym, refl, ap, ◌∙◌, subst, ap₂, ⊎_elim, add-one, below_more, arith}
use Rattle.std.specs.List.{slice_get}
use Rattle.std.proofs.lemmas.List.{set-get_or, length-set, length-take, length-drop}
use Rattle.std.proofs.lemmas.Bool.{eq-eqb, ne_eqb, cond-true, cond-false, cases_eq, and_right, or_right}
use Rattle.model.specs.declared.Status.{Status}
use Rattle.model.specs.declared.Status.TheVariants.{Going as going, Waiting as waiting, Ended as ended, OutOfTurns as out_of_turns}
use Rattle.model.specs.Kernel.{bit}
use Rattle.model.specs.Steps.{is_going, is_waiting, released, Thread, none_going, some_waiting, all_released}
use Rattle.std.proofs.lemmas.Option.{slice_get_within}
use Rattle.machine.specs.declared.release.Released.{Released}
use Rattle.machine.specs.declared.release.Released.TheVariants.{Nobody, Waiting, End}
use Rattle.machine.specs.Stands.{Source}
use Rattle.machine.specs.Words.{status_code, Held, Holds, part}
use Rattle.machine.specs.All.{AllHeld}
use Rattle.machine.specs.Together.{status_at, Looked, released_word, released_words, ReleasedAs, Release}
use Rattle.machine.proofs.Held.{set_status}
use Rattle.machine.specs.Loads.{load, loads}
use Rattle.machine.proofs.Loads.{set_lighter}
use Rattle.machine.proofs.Parts.{status_part, nth_some, part_set_same, part_set_other}

abbrev waits : Released → Bool
waits Nobody = false
waits Waiting = true
waits End = false

-- what is known of the threads below n while none of them was found going
abbrev pub Looking : List ℕ → ℕ → Released → Type 0
Looking work n Nobody = ⊥
Looking work n Waiting = Looked work n Waiting
Looking work n End = Looked work n End

-- .. and of one thread more
module _ (work : List ℕ) (n : ℕ) (r : Released) (so_far : Looking work n r) where
  pub looking_waits : status_at work n ≡ 1 → Looking work (n + 1) Waiting
  looking_waits one = (below_more (λ j. 0 < status_at work j) n (go r so_far) (omega (arith, one)), (n, omega arith, one))
    where
      go : (r : Released) → Looking work n r → (j : ℕ) → j < n → 0 < status_at work j
      go Nobody h = absurd h
      go Waiting h = h.0
      go End h = λ j l. omega (arith, h j l)

  pub looking_stops : 1 < status_at work n → Looking work (n + 1) r
  looking_stops more = go r so_far
    where
      go : (r : Released) → Looking work n r → Looking work (n + 1) r
      go Nobody h = h
      go Waiting h = (below_more (λ j. 0 < status_at work j) n h.0 (omega (arith, more)), (h.1.0, omega (arith, h.1.1), h.1.2))
      go End h = below_more (λ j. 1 < status_at work j) n h more

released_more : (n : ℕ) (work : List ℕ) → released_words (n + 1) work ≡ set (released_words n work) (1024 * n + 257) (released_word (status_at (released_words n work) n))
released_more n work = ap (λ m. released_words m work) (add-one n)

-- one thread more: it goes on, or it stays as it is
module _ (n : ℕ) (work now : List ℕ) (is : now ≡ released_words n work) where
  next_released : set now (1024 * n + 257) (released_word (status_at now n)) ≡ released_words (n + 1) work
  next_released = ap (λ l. set l (1024 * n + 257) (released_word (status_at l n))) is ∙ sym (released_more n work)

  pub released_waits : status_at now n ≡ 1 → set now (1024 * n + 257) 0 ≡ released_words (n + 1) work
  released_waits one = ap (λ v. set now (1024 * n + 257) v) (sym (cond-true (eqb (status_at now n) 1) 0 _ (eq-eqb (status_at now n) 1 one))) ∙ next_released

  pub released_stays : (status_at now n ≡ 1 → ⊥) → now ≡ released_words (n + 1) work
  released_stays other = sym (ap (λ v. set now (1024 * n + 257) v) (cond-false (eqb (status_at now n) 1) 0 _ (ne_eqb (status_at now n) 1 other)) ∙ set-get_or now (1024 * n + 257) 0) ∙ next_released

-- the words of a thread once the first n have gone on
released_other : (n j : ℕ) (work : List ℕ) → n ≤ j → part j (released_words n work) ≡ part j work
released_other zero j work l = refl
released_other (suc n) j work l = part_set_other n j 257 _ (released_words n work) (omega arith) (λ e. omega arith) ∙ released_other n j work (omega arith)

pub status_other : (n : ℕ) (work : List ℕ) → status_at (released_words n work) n ≡ status_at work n
status_other n work = sym (status_part n (released_words n work)) ∙ ap (λ l. get_or l 257 0) (released_other n n work (omega arith)) ∙ status_part n work

released_part : (n j : ℕ) (work : List ℕ) → j < n → part j (released_words n work) ≡ set (part j work) 257 (released_word (status_at work j))
released_part zero j work l = absurd (omega arith)
released_part (suc n) j work l =
    ⊎_elim
    (λ is.
    subst (λ j. part j (released_words (suc n) work) ≡ set (part j work) 257 (released_word (status_at work j))) (sym is)
    (part_set_same n 257 _ (released_words n work) ∙ ap₂ (λ l v. set l 257 (released_word v)) (released_other n n work (omega arith)) (status_other n work)))
    (λ apart. part_set_other n j 257 _ (released_words n work) (omega arith) apart ∙ released_part n j work (omega arith))
    (cases_eq j n)

length_released : (n : ℕ) (work : List ℕ) → length (released_words n work) ≡ length work
length_released zero work = refl
length_released (suc n) work = length-set (released_words n work) (1024 * n + 257) _ ∙ length_released n work

-- what that leaves to do
module _ (s : Source) (work : List ℕ) (all : ℕ) (room : 1024 * all ≤ length work) where
  part_lighter : (j : ℕ) → j < all → load s (part j (released_words all work)) + bit (eqb (status_at work j) 1) ≤ load s (part j work)
  part_lighter j l =
      let size : length (part j work) ≡ 1024 = simp (length-take, length-drop) (omega arith) in
      omega (
        arith,
        set_lighter s (part j work) size,
        ap (load s) (released_part all j work l ∙ ap (λ x. set (part j work) 257 (released_word x)) (sym (status_part j work))),
        ap (λ x. bit (eqb x 1)) (status_part j work),
      )

  loads_lower : (n : ℕ) → n ≤ all → loads s (released_words all work) n ≤ loads s work n
  loads_lower zero l = omega arith
  loads_lower (suc n) l = omega (arith, part_lighter n (omega arith), loads_lower n (omega arith))

  pub released_lighter : (j n : ℕ) → status_at work j ≡ 1 → j < n → n ≤ all → loads s (released_words all work) n < loads s work n
  released_lighter j zero one l m = absurd (omega arith)
  released_lighter j (suc n) one l m =
      ⊎_elim
      (λ last. omega (arith, part_lighter n (omega arith), ap (λ k. bit (eqb (status_at work k) 1)) last, ap bit (eq-eqb (status_at work j) 1 one), loads_lower n (omega arith)))
      (λ apart. omega (arith, part_lighter n (omega arith), released_lighter j n one (omega arith) (omega arith)))
      (cases_eq n j)

-- what a status word says of a status
code_going : (st : Status) → status_code st ≡ 0 → is_going st ≡ true
code_going going e = refl
code_going waiting e = absurd (omega arith)
code_going ended e = absurd (omega arith)
code_going out_of_turns e = absurd (omega arith)

pub code_not_going : (st : Status) → 0 < status_code st → is_going st ≡ false
code_not_going going l = absurd (omega arith)
code_not_going waiting l = refl
code_not_going ended l = refl
code_not_going out_of_turns l = refl

pub code_waiting : (st : Status) → status_code st ≡ 1 → is_waiting st ≡ true
code_waiting going e = absurd (omega arith)
code_waiting waiting e = refl
code_waiting ended e = absurd (omega arith)
code_waiting out_of_turns e = absurd (omega arith)

pub code_not_waiting : (st : Status) → (status_code st ≡ 1 → ⊥) → is_waiting st ≡ false
code_not_waiting going other = refl
code_not_waiting waiting other = absurd (other refl)
code_not_waiting ended other = refl
code_not_waiting out_of_turns other = refl

code_released : (st : Status) → released_word (status_code st) ≡ status_code (released st)
code_released going = refl
code_released waiting = refl
code_released ended = refl
code_released out_of_turns = refl

-- one of the threads, or each of them
some_goes : (ts : List Thread) (j : ℕ) (t : Thread) → slice_get ts j ≡ Some t → is_going t.status ≡ true → none_going ts ≡ false
some_goes [] j t is g = let z : ◌≡◌ {A = ℕ} 0 1 = cc in absurd (omega arith)
some_goes (u ∷ ts) zero t is g = let e : u ≡ t = cc in ap (λ b. not b && none_going ts) (ap (λ u. is_going u.status) e ∙ g)
some_goes (u ∷ ts) (suc j) t is g = ap (λ b. not (is_going u.status) && b) (some_goes ts j t is g) ∙ and_right (not (is_going u.status)) false refl

none_goes : (ts : List Thread) → ((j : ℕ) (t : Thread) → slice_get ts j ≡ Some t → is_going t.status ≡ false) → none_going ts ≡ true
none_goes [] each = refl
none_goes (u ∷ ts) each = ap₂ (λ a b. not a && b) (each 0 u refl) (none_goes ts (λ j. each (suc j)))

pub some_waits : (ts : List Thread) (j : ℕ) (t : Thread) → slice_get ts j ≡ Some t → is_waiting t.status ≡ true → some_waiting ts ≡ true
some_waits [] j t is g = let z : ◌≡◌ {A = ℕ} 0 1 = cc in absurd (omega arith)
some_waits (u ∷ ts) zero t is g = let e : u ≡ t = cc in ap (λ b. b || some_waiting ts) (ap (λ u. is_waiting u.status) e ∙ g)
some_waits (u ∷ ts) (suc j) t is g = ap (λ b. is_waiting u.status || b) (some_waits ts j t is g) ∙ or_right (is_waiting u.status) true refl

pub none_waits : (ts : List Thread) → ((j : ℕ) (t : Thread) → slice_get ts j ≡ Some t → is_waiting t.status ≡ false) → some_waiting ts ≡ false
none_waits [] each = refl
none_waits (u ∷ ts) each = ap₂ (λ a b. a || b) (each 0 u refl) (none_waits ts (λ j. each (suc j)))

abbrev freed : Thread → Thread
freed t = record { todo = t.todo; vars = t.vars; left = t.left; touched = []; status = released t.status }

was : (ts : List Thread) (j : ℕ) (u : Thread) → slice_get (all_released ts) j ≡ Some u → (t : Thread) × (slice_get ts j ≡ Some t) × (freed t ≡ u)
was [] j u is = let z : ◌≡◌ {A = ℕ} 0 1 = cc in absurd (omega arith)
was (t ∷ ts) zero u is = (t, refl, cc)
was (t ∷ ts) (suc j) u is = was ts j u is

pub length_all_released : (ts : List Thread) → length (all_released ts) ≡ length ts
length_all_released [] = refl
length_all_released (t ∷ ts) = ap suc (length_all_released ts)

-- the threads that the words hold
module _ {s : Source} {work : List ℕ} {ts : List Thread} (h : AllHeld s work ts) where
  pub code_at : (j : ℕ) (t : Thread) → slice_get ts j ≡ Some t → status_code t.status ≡ status_at work j
  code_at j t is = (h.each j t is).status_is ∙ status_part j work

  pub none_are_going : ((j : ℕ) → j < length ts → 0 < status_at work j) → none_going ts ≡ true
  none_are_going each = none_goes ts (λ j t is. code_not_going t.status (omega (arith, code_at j t is, each j (slice_get_within ts j t is))))

  pub all_go_on : AllHeld s (released_words (length ts) work) (all_released ts)
  all_go_on = record {
    room = omega (arith, h.room, length_released (length ts) work, length_all_released ts);
    each = λ j u is.
        let b = was ts j u is in
        let t = b.0 in
        let v_is = ap released_word (sym (code_at j t b.1)) ∙ code_released t.status in
        subst (Holds s (part j (released_words (length ts) work))) b.2
        (subst (λ w. Held s w t.todo t.vars t.left (released t.status)) (sym (released_part (length ts) j work (slice_get_within ts j t b.1) ∙ ap (λ v. set (part j work) 257 v) v_is)) (set_status (released t.status) (h.each j t b.1)));
  }

  released_as : {work' : List ℕ} (r : Released) → Looked work (length ts) r → work' ≡ cond (waits r) (released_words (length ts) work) work → ReleasedAs s work work' ts r
  released_as Nobody looked is =
      let one = nth_some ts looked.0 looked.1 in
      (some_goes ts looked.0 one.0 one.1 (code_going one.0.status (code_at looked.0 one.0 one.1 ∙ looked.2)), is)
  released_as Waiting looked is =
      let j = looked.1.0 in
      let one = nth_some ts j looked.1.1 in
      (none_are_going looked.0, some_waits ts j one.0 one.1 (code_waiting one.0.status (code_at j one.0 one.1 ∙ looked.1.2)), subst (λ w. AllHeld s w (all_released ts)) (sym is) all_go_on)
  released_as End looked is =
      (none_are_going (λ j l. omega (arith, looked j l)), none_waits ts (λ j t is. code_not_waiting t.status (λ one. omega (arith, code_at j t is, looked j (slice_get_within ts j t is)))), is)

each_released : (work work' : List ℕ) (n : ℕ) (r : Released) → Looked work n r → work' ≡ cond (waits r) (released_words n work) work → (s : Source) (ts : List Thread) → length ts ≡ n → AllHeld s work ts → ReleasedAs s work work' ts r
each_released work work' n r looked is s ts same h = released_as h r (subst (λ n. Looked work n r) (sym same) looked) (is ∙ ap (λ n. cond (waits r) (released_words n work) work) (sym same))

module _ {work work' : List ℕ} {n : ℕ} {r : Released} (looked : Looked work n r) where
  pub waiting_released : 1024 * n ≤ length work → r ≡ Waiting → work' ≡ released_words n work → Release work work' n r
  waiting_released room found is =
      let one = (subst (Looked work n) found looked).1 in
      record {
        each = each_released work work' n r looked (is ∙ sym (cond-true (waits r) (released_words n work) work (ap waits found)));
        lighter = λ found s. subst (λ w. loads s w n < loads s work n) (sym is) (released_lighter s work n room one.0 n one.2 one.1 (omega arith));
      }

  pub none_released : (r ≡ Waiting → ⊥) → work' ≡ work → Release work work' n r
  none_released other is = record { each = each_released work work' n r looked (is ∙ sym (cond-false (waits r) (released_words n work) work (go r other))); lighter = λ found. absurd (other found) }
    where
      go : (r : Released) → (r ≡ Waiting → ⊥) → waits r ≡ false
      go Nobody h = refl
      go Waiting h = absurd (h refl)
      go End h = refl
