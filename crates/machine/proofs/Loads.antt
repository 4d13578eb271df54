-- Every step lowers the load of the words.
use Rattle.std.proofs.Common.{◌≡◌, ℕ, zero, suc, ◌+◌, ◌-◌, ◌*◌, ◌<◌, ◌≤◌, Bool, true, false, cond, eqb, List, [], ◌∷◌, ◌++◌, length, get_or, set, refl, ap, ◌∙◌, ap₂, ⊎_elim, arith, length-append, Option}
use borrow.Rule.Slice.PartMut.{put_mid}
use Rattle.std.proofs.lemmas.List.{get_or-set_same, get_or-set_other}
use Rattle.std.proofs.lemmas.Bool.{cases_eq, ne_eqb}
use Rattle.model.specs.declared.Status.{Status}
use Rattle.model.specs.declared.Status.TheVariants.{Going as going}
use Rattle.model.specs.Kernel.{bit, Expr, Stmt, skip, seq, assign, read, update, if, while, wait, value}
use Rattle.model.specs.Rows.{expr_row, stmt_row}
use Rattle.model.specs.Steps.{Thread, goes, turn, next_effect, thread_after}
use Rattle.machine.specs.declared.touched.Touch.{Touch}
use Rattle.machine.specs.Stands.{Source, Spans, Stands, end}
use Rattle.machine.specs.Words.{status_code, Stack, Held, part}
use Rattle.machine.specs.Together.{released_word}
use Rattle.machine.specs.Loads.{stack_load, status_load, load, loads}
use Rattle.machine.specs.Stepped.{CanStep, Stepped}
use Rattle.machine.proofs.Parts.{part_put_same, part_put_other}

spanned : (s : Source) (p : ℕ) (a : Stmt) → Stands s p a → Spans s p (stmt_row a)
spanned s p skip h = h.1
spanned s p (seq a b) h = h.4
spanned s p (assign x e) h = h.4
spanned s p (read x e) h = h.4
spanned s p (update c e f) h = h.4
spanned s p (if e a b) h = h.6
spanned s p (while e a) h = h.4
spanned s p wait h = h.1

-- the same number, of the thread that the words hold
abbrev lengths : List Stmt → ℕ
lengths [] = 0
lengths (a ∷ rest) = length (stmt_row a) + lengths rest

abbrev weight : List Stmt → ℕ → Status → ℕ
weight todo left status = left * 131073 + 2 * lengths todo + status_load (status_code status)

stack_weighs : (s : Source) (w : List ℕ) (todo : List Stmt) → Stack s w todo → stack_load s w (length todo) ≡ lengths todo
stack_weighs s w [] h = refl
stack_weighs s w (a ∷ rest) h = omega (arith, (spanned s (get_or w (512 + length rest) 0) a h.0).0, stack_weighs s w rest h.2)

weighs : {s : Source} {w vars : List ℕ} {todo : List Stmt} {left : ℕ} {status : Status} → Held s w todo vars left status → load s w ≡ weight todo left status
weighs {s} {w} {vars} {todo} h = omega (arith, h.left_is, ap (stack_load s w) h.height_is, stack_weighs s w todo h.stack, ap status_load h.status_is)

chosen_shorter : (b : Bool) (p q : Stmt) → length (stmt_row (cond b q p)) ≤ length (stmt_row p) + length (stmt_row q)
chosen_shorter true p q = omega arith
chosen_shorter false p q = omega arith

abbrev thread_weight : Thread → ℕ
thread_weight t = weight t.todo t.left t.status

-- the next statement is short enough for a turn
abbrev Short : List Stmt → Type 0
Short [] = Unit {0}
Short (a ∷ rest) = length (stmt_row a) ≤ 65536

turn_lighter : (t : Thread) (e : Expr) (p : Stmt) (ss : List Stmt) (left : ℕ) → t.left ≡ left → length (stmt_row (while e p)) ≤ 65536 → thread_weight (turn t e p ss left) < weight (while e p ∷ ss) left going
turn_lighter t e p ss zero is short = omega arith
turn_lighter t e p ss (suc left) is short = omega (arith, length-append (expr_row e) (stmt_row p))

loop_lighter : (b : Bool) (t : Thread) (e : Expr) (p : Stmt) (ss : List Stmt) → length (stmt_row (while e p)) ≤ 65536 → thread_weight (cond b (goes t ss t.vars t.left) (turn t e p ss t.left)) < weight (while e p ∷ ss) t.left going
loop_lighter true t e p ss short = omega arith
loop_lighter false t e p ss short = turn_lighter t e p ss t.left refl short

step_lighter : (i n words : ℕ) (t : Thread) (todo : List Stmt) (m : List ℕ) → Short todo → thread_weight (thread_after (next_effect i n words t todo) m) < weight todo t.left going
step_lighter i n words t [] m short = omega arith
step_lighter i n words t (skip ∷ ss) m short = omega arith
step_lighter i n words t (seq p q ∷ ss) m short = omega (arith, length-append (stmt_row p) (stmt_row q))
step_lighter i n words t (assign x e ∷ ss) m short = omega arith
step_lighter i n words t (read x e ∷ ss) m short = omega arith
step_lighter i n words t (update c e f ∷ ss) m short = omega arith
step_lighter i n words t (if e p q ∷ ss) m short = omega (arith, length-append (expr_row e) (stmt_row p ++ stmt_row q), length-append (stmt_row p) (stmt_row q), chosen_shorter (eqb (value i n t.vars e) 0) p q)
step_lighter i n words t (while e p ∷ ss) m short = loop_lighter (eqb (value i n t.vars e) 0) t e p ss short
step_lighter i n words t (wait ∷ ss) m short = omega arith

held_short : {s : Source} {w vars : List ℕ} {left : ℕ} {status : Status} (todo : List Stmt) → Held s w todo vars left status → Short todo
held_short [] h = tt
held_short {s} {w} (a ∷ rest) h = omega (arith, (spanned s (get_or w (512 + length rest) 0) a h.stack.0).1, h.short)

pub load_falls : {s : Source} {i n : ℕ} {w w' m m' : List ℕ} {r : Option Touch} → CanStep s w → Stepped s i n w w' m m' r → load s w' < load s w
load_falls {s} {i} {n} {w} {w'} {m} can step =
    let t = can.thread in
    omega (arith, weighs can.holds, weighs (step.each t can.holds can.goes).holds, step_lighter i n (length m) t t.todo m (held_short t.todo can.holds), ap (λ st. status_load (status_code st)) can.goes)

-- the words of thread i were lent, and given back as ys
module _ (s : Source) (i size : ℕ) (work ys : List ℕ) (size_is : size ≡ 1024) (room : 1024 * i + 1024 ≤ length work) (same : length ys ≡ 1024) where
  loads_same : (n : ℕ) → n ≤ i → loads s (put_mid (1024 * i) size work ys) n ≡ loads s work n
  loads_same zero l = refl
  loads_same (suc n) l = ap₂ (λ x y. x + y) (ap (load s) (part_put_other i size work ys size_is room same n (λ e. omega arith))) (loads_same n (omega arith))

  pub loads_fall : (n : ℕ) → i < n → load s ys < load s (part i work) → loads s (put_mid (1024 * i) size work ys) n < loads s work n
  loads_fall zero l less = absurd (omega arith)
  loads_fall (suc n) l less =
      ⊎_elim
      (λ last.
      let here = ap (load s) (ap (λ j. part j (put_mid (1024 * i) size work ys)) last ∙ part_put_same i size work ys size_is room same) in
      omega (arith, here, ap (λ j. load s (part j work)) last, loads_same n (omega arith)))
      (λ apart. omega (arith, ap (load s) (part_put_other i size work ys size_is room same n apart), loads_fall n (omega arith) less))
      (cases_eq n i)

-- a thread that waited goes on
stack_load_set : (s : Source) (w : List ℕ) (v i : ℕ) → stack_load s (set w 257 v) i ≡ stack_load s w i
stack_load_set s w v zero = refl
stack_load_set s w v (suc i) = ap₂ (λ p l. (end s p - p) + l) (get_or-set_other w 257 (512 + i) v 0 (λ e. omega arith)) (stack_load_set s w v i)

status_lighter : (x : ℕ) → status_load (released_word x) + bit (eqb x 1) ≤ status_load x
status_lighter zero = omega arith
status_lighter (suc zero) = omega arith
status_lighter (suc (suc x)) = omega (arith, ap (λ b. status_load (cond b 0 (suc (suc x))) + bit b) (ne_eqb (suc (suc x)) 1 (λ e. omega arith)))

pub set_lighter : (s : Source) (w : List ℕ) → length w ≡ 1024 → load s (set w 257 (released_word (get_or w 257 0))) + bit (eqb (get_or w 257 0) 1) ≤ load s w
set_lighter s w size =
    let v = released_word (get_or w 257 0) in
    omega (
      arith,
      ap (λ x. x * 131073) (get_or-set_other w 257 256 v 0 (λ e. omega arith)),
      ap (stack_load s (set w 257 v)) (get_or-set_other w 257 258 v 0 (λ e. omega arith)) ∙ stack_load_set s w v (get_or w 258 0),
      ap status_load (get_or-set_same w 257 v 0 (omega arith)),
      status_lighter (get_or w 257 0),
    )
