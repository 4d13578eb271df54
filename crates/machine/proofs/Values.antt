-- From the head at a position to the value of what stands there.
use Rattle.std.proofs.Common.{◌≡◌, ℕ, ◌+◌, ◌-◌, ◌<◌, ◌≤◌, length, get_or, sym, refl, ap, ◌∙◌, subst, arith}
use Rattle.model.specs.declared.Op.{Op}
use Rattle.model.specs.Kernel.{Expr, num, var, me, all, op, operate}
use Rattle.model.specs.Rows.{expr_depth}
use Rattle.rows.specs.declared.head.Expression.{Expression}
use Rattle.rows.specs.declared.head.Expression.TheVariants.{Number, Variable, Me, All, Operation}
use Rattle.machine.specs.declared.expression.Seen.{Seen}
use Rattle.machine.specs.Stands.{Source, ExprStands, end, operation_named, expression_at, ExprHead}
use Rattle.machine.specs.Values.{value_in, ExprHere, ExprAt, OperationAt, SomeOperation, Valued}
use Rattle.machine.proofs.Heads.{code_says, expr_head, expr_head_of, expr_says}

-- what an expression's head says of its value; y is the value of an operation
abbrev head_value : Seen → Expression → ℕ → ℕ
head_value v (Number n) y = n
head_value v (Variable x) y = get_or v.variables.now x 0
head_value v Me y = v.me
head_value v All y = v.all
head_value v (Operation o) y = y

head_valued : (v : Seen) (e : Expr) → head_value v (expr_head_of e) (value_in v e) ≡ value_in v e
head_valued v (num n) = refl
head_valued v (var x) = refl
head_valued v me = refl
head_valued v all = refl
head_valued v (op o a b) = refl

-- what a variable's head asks of the thread
abbrev Known : Seen → Expression → Type 0
Known v (Number n) = Unit {0}
Known v (Variable x) = x < length v.variables.now
Known v Me = Unit {0}
Known v All = Unit {0}
Known v (Operation o) = Unit {0}

-- what an operation's head says of what stands there
abbrev Operated : Source → Seen → ℕ → ℕ → Expression → Type 0
Operated s v p d (Number n) = Unit {0}
Operated s v p d (Variable x) = Unit {0}
Operated s v p d Me = Unit {0}
Operated s v p d All = Unit {0}
Operated s v p d (Operation o) = OperationAt s v o p d

module _ {s : Source} {v : Seen} {p : ℕ} where
  pub whole_head : ExprHere s v p → ExprHead s p
  whole_head h = expr_head s p h.expr h.stands

  pub known : (h : Expression) → h ≡ expression_at s p → ExprHere s v p → Known v h
  known h is here = subst (Known v) (sym (is ∙ expr_says s p here.expr here.stands)) (go here.expr here.stands)
    where
      go : (e : Expr) → ExprStands s p e → Known v (expr_head_of e)
      go (num n) w = tt
      go (var x) w = omega (arith, w.2, here.variables)
      go me w = tt
      go all w = tt
      go (op o a b) w = tt

  pub here : {d : ℕ} → ExprAt s v p d → ExprHere s v p
  here at = record { expr = at.expr; stands = at.stands; variables = at.variables }

  operation : {d : ℕ} {o : Op} → Operation o ≡ expression_at s p → ExprAt s v p d → OperationAt s v o p d
  operation {d} is at = subst (Operated s v p d) (sym (is ∙ expr_says s p at.expr at.stands)) (go at.expr at.stands at.deep)
    where
      go : (e : Expr) → ExprStands s p e → expr_depth e ≤ d → Operated s v p d (expr_head_of e)
      go (num n) w deep = tt
      go (var x) w deep = tt
      go me w deep = tt
      go all w deep = tt
      go (op o a b) w deep = record { first = a; second = b; stands = w; deep = deep; variables = at.variables }

  pub some_operation : {d : ℕ} → (o : Op) × (Operation o ≡ expression_at s p) → ExprAt s v p d → SomeOperation s v p d
  some_operation (o, is) at = record { op = o; at = operation is at }

  -- the operation is the one whose number stands there
  pub number_of : {o r : Op} {d : ℕ} → OperationAt s v o p d → r ≡ operation_named (get_or s.rows (p + 1) 0) → r ≡ o
  number_of {o} at is = is ∙ ap operation_named at.stands.1.1 ∙ code_says o

  -- the operands of an operation, which are not as deep
  pub first_at : {o : Op} {d : ℕ} → OperationAt s v o p d → ExprAt s v (p + 2) (d - 1)
  first_at at = record { expr = at.first; stands = at.stands.3; deep = omega (arith, at.deep); variables = at.variables }

  pub second_at : {o : Op} {d : ℕ} → OperationAt s v o p d → ExprAt s v (end s (p + 2)) (d - 1)
  second_at at = record { expr = at.second; stands = at.stands.4; deep = omega (arith, at.deep); variables = at.variables }

  pub leaf_valued : (h : Expression) {x : ℕ} → h ≡ expression_at s p → ((y : ℕ) → x ≡ head_value v h y) → Valued s v p x
  leaf_valued h {x} is x-is = record { is = λ e stands. x-is (value_in v e) ∙ ap (λ h. head_value v h (value_in v e)) (is ∙ expr_says s p e stands) ∙ head_valued v e }

  pub operation_valued : {o : Op} {d x y z : ℕ} → OperationAt s v o p d → Valued s v (p + 2) x → Valued s v (end s (p + 2)) y → z ≡ operate o x y → Valued s v p z
  operation_valued {o} {d} {x} {y} {z} at first second z-is = record { is = λ e stands. go e stands (sym (expr_says s p (op o at.first at.second) at.stands) ∙ expr_says s p e stands) }
    where
      go : (e : Expr) → ExprStands s p e → Operation o ≡ expr_head_of e → z ≡ value_in v e
      go (num n) stands is = let w : ◌≡◌ {A = ℕ} 0 1 = cc in absurd (omega arith)
      go (var n) stands is = let w : ◌≡◌ {A = ℕ} 0 1 = cc in absurd (omega arith)
      go me stands is = let w : ◌≡◌ {A = ℕ} 0 1 = cc in absurd (omega arith)
      go all stands is = let w : ◌≡◌ {A = ℕ} 0 1 = cc in absurd (omega arith)
      go (op o' a b) stands is = let e = first.is a stands.3 in let f = second.is b stands.4 in cc
