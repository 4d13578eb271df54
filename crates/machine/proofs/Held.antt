-- Each change of a thread's words is a change of the thread that they hold: turns, status, a variable, and
-- a statement less or more to do.
use Rattle.std.proofs.Common.{◌≡◌, ℕ, ◌+◌, ◌-◌, ◌<◌, ◌≤◌, List, [], ◌∷◌, length, get_or, set, sym, ap, ◌∙◌, subst, arith}
use Rattle.std.proofs.lemmas.List.{length-set, get_or-set_same, get_or-set_other, take-set-le}
use Rattle.std.proofs.Math.Seq.{take-set-lt}
use Rattle.model.specs.declared.Status.{Status}
use Rattle.model.specs.Kernel.{Stmt, skip, seq, assign, read, update, if, while, wait}
use Rattle.model.specs.Rows.{stmt_row, stmt_depth}
use Rattle.machine.specs.Stands.{Source, Stands}
use Rattle.machine.specs.Words.{status_code, top_of, popped, pushed, Stack, Held}

-- a statement is no empty row, and lies at some depth
pub some : (a : Stmt) → (0 < stmt_depth a) × (0 < length (stmt_row a))
some skip = (omega arith, omega arith)
some (seq a b) = (omega arith, omega arith)
some (assign x e) = (omega arith, omega arith)
some (read x e) = (omega arith, omega arith)
some (update c e f) = (omega arith, omega arith)
some (if e a b) = (omega arith, omega arith)
some (while e a) = (omega arith, omega arith)
some wait = (omega arith, omega arith)

other : (w : List ℕ) (i j v : ℕ) → (j ≡ i → ⊥) → get_or w j 0 ≡ get_or (set w i v) j 0
other w i j v apart = sym (get_or-set_other w i j v 0 apart)

-- the stack stands on its own words alone
stack_same : (s : Source) (w w' : List ℕ) (todo : List Stmt) → ((i : ℕ) → i < length todo → get_or w (512 + i) 0 ≡ get_or w' (512 + i) 0) → Stack s w todo → Stack s w' todo
stack_same s w w' [] same h = tt
stack_same s w w' (a ∷ rest) same h = (subst (λ p. Stands s p a) (same (length rest) (omega arith)) h.0, h.1, stack_same s w w' rest (λ i l. same i (omega arith)) h.2)

stack_low : (s : Source) (w : List ℕ) (todo : List Stmt) → Stack s w todo → length todo ≤ 256
stack_low s w [] h = omega arith
stack_low s w (a ∷ rest) h = omega (arith, h.1, (some a).0)

-- a word below the stack is not part of it
set_low : (s : Source) (w : List ℕ) (todo : List Stmt) (i v : ℕ) → i < 512 → Stack s w todo → Stack s (set w i v) todo
set_low s w todo i v l = stack_same s w (set w i v) todo (λ j m. other w i (512 + j) v (λ e. omega arith))

module _ {s : Source} {w vars : List ℕ} {left : ℕ} {status : Status} where
  pub height_low : {todo : List Stmt} → Held s w todo vars left status → get_or w 258 0 ≤ 256
  height_low {todo} h = omega (arith, h.height_is, stack_low s w todo h.stack)

  pub top_stands : {a : Stmt} {rest : List Stmt} → Held s w (a ∷ rest) vars left status → Stands s (top_of w) a
  top_stands {a} {rest} h = subst (λ p. Stands s p a) (ap (λ i. get_or w i 0) (omega (arith, h.height_is))) h.stack.0

  -- the word behind the variables that says the turns, the status or the height
  set_word : {todo todo' : List Stmt} {left' : ℕ} {status' : Status} (i v : ℕ) → 256 ≤ i → Held s w todo vars left status → left' ≡ get_or (set w i v) 256 0 → status_code status' ≡ get_or (set w i v) 257 0 → length todo' ≡ get_or (set w i v) 258 0 → Stack s (set w i v) todo' → Held s (set w i v) todo' vars left' status'
  set_word i v behind h left_is status_is height_is stack = record {
    size = length-set w i v ∙ h.size;
    few = h.few;
    short = h.short;
    vars_are = h.vars_are ∙ sym (take-set-le s.variables w i v (omega (arith, h.few)));
    left_is = left_is;
    status_is = status_is;
    height_is = height_is;
    stack = stack;
  }

  pub set_left : {todo : List Stmt} (left' : ℕ) → Held s w todo vars left status → Held s (set w 256 left') todo vars left' status
  set_left {todo} v h =
      set_word 256 v (omega arith) h (sym (get_or-set_same w 256 v 0 (omega (arith, h.size)))) (h.status_is ∙ other w 256 257 v (λ e. omega arith))
      (h.height_is ∙ other w 256 258 v (λ e. omega arith)) (set_low s w todo 256 v (omega arith) h.stack)

  pub set_status : {todo : List Stmt} (status' : Status) → Held s w todo vars left status → Held s (set w 257 (status_code status')) todo vars left status'
  set_status {todo} status' h =
      let v = status_code status' in
      set_word 257 v (omega arith) h (h.left_is ∙ other w 257 256 v (λ e. omega arith)) (sym (get_or-set_same w 257 v 0 (omega (arith, h.size))))
      (h.height_is ∙ other w 257 258 v (λ e. omega arith)) (set_low s w todo 257 v (omega arith) h.stack)

  pub set_variable : {todo : List Stmt} (x v : ℕ) → x < s.variables → Held s w todo vars left status → Held s (set w x v) todo (set vars x v) left status
  set_variable {todo} x v l h = record {
    size = length-set w x v ∙ h.size;
    few = h.few;
    short = h.short;
    vars_are = ap (λ vs. set vs x v) h.vars_are ∙ sym (take-set-lt s.variables w x v l);
    left_is = h.left_is ∙ other w x 256 v (λ e. omega (arith, h.few));
    status_is = h.status_is ∙ other w x 257 v (λ e. omega (arith, h.few));
    height_is = h.height_is ∙ other w x 258 v (λ e. omega (arith, h.few));
    stack = set_low s w todo x v (omega (arith, h.few)) h.stack;
  }

  pub pops : {a : Stmt} {rest : List Stmt} → Held s w (a ∷ rest) vars left status → Held s (popped w) rest vars left status
  pops {a} {rest} h =
      let v = get_or w 258 0 - 1 in
      set_word 258 v (omega arith) h (h.left_is ∙ other w 258 256 v (λ e. omega arith)) (h.status_is ∙ other w 258 257 v (λ e. omega arith))
      (omega (arith, h.height_is, get_or-set_same w 258 v 0 (omega (arith, h.size)))) (set_low s w rest 258 v (omega arith) h.stack.2)

  pub pushes : {todo : List Stmt} (p : ℕ) (a : Stmt) → Stands s p a → stmt_depth a + length todo ≤ 256 → Held s w todo vars left status → Held s (pushed w p) (a ∷ todo) vars left status
  pushes {todo} p a stands deep h =
      let height = get_or w 258 0 in
      let at = 512 + height in
      let u = set w at p in
      let v = height + 1 in
      let low : height < 256 = omega (arith, h.height_is, (some a).0) in
      let size : length u ≡ 1024 = length-set w at p ∙ h.size in
      record {
        size = length-set u 258 v ∙ size;
        few = h.few;
        short = h.short;
        vars_are = h.vars_are ∙ sym (take-set-le s.variables w at p (omega (arith, h.few))) ∙ sym (take-set-le s.variables u 258 v (omega (arith, h.few)));
        left_is = h.left_is ∙ other w at 256 p (λ e. omega arith) ∙ other u 258 256 v (λ e. omega arith);
        status_is = h.status_is ∙ other w at 257 p (λ e. omega arith) ∙ other u 258 257 v (λ e. omega arith);
        height_is = omega (arith, h.height_is, get_or-set_same u 258 v 0 (omega arith));
        stack = (
          subst (λ p. Stands s p a) (sym (get_or-set_same w at p 0 (omega (arith, h.size))) ∙ other u 258 at v (λ e. omega arith) ∙ ap (λ i. get_or (pushed w p) (512 + i) 0) (sym h.height_is)) stands,
          deep,
          stack_same s w (pushed w p) todo (λ j l. other w at (512 + j) p (λ e. omega (arith, h.height_is)) ∙ other u 258 (512 + j) v (λ e. omega arith)) h.stack,
        );
      }
