-- What the value of an expression at a position is promised to be.
use Rattle.std.specs.Prelude.{◌≡◌, ℕ, ◌≤◌, length, Some, None, Option}
use Rattle.model.specs.declared.Op.{Op}
use Rattle.model.specs.Kernel.{Expr, op, value}
use Rattle.model.specs.Rows.{expr_depth}
use Rattle.rows.specs.declared.head.Expression.TheVariants.{Operation}
use Rattle.machine.specs.declared.expression.Seen.{Seen}
use Rattle.machine.specs.Stands.{Source, ExprStands, expression_at}

-- as the thread sees it
abbrev pub value_in : Seen → Expr → ℕ
value_in v e = value v.me v.all v.variables.now e

-- some expression stands at p, at most d deep, and the thread has the text's variables
pub record ExprAt (s : Source) (v : Seen) (p d : ℕ) : Type 0 where
  pub expr : Expr
  pub stands : ExprStands s p expr
  pub deep : expr_depth expr ≤ d
  pub variables : length v.variables.now ≡ s.variables

-- .. and it is the operation o
pub record OperationAt (s : Source) (v : Seen) (o : Op) (p d : ℕ) : Type 0 where
  pub first : Expr
  pub second : Expr
  pub stands : ExprStands s p (op o first second)
  pub deep : expr_depth (op o first second) ≤ d
  pub variables : length v.variables.now ≡ s.variables

-- .. whichever operation it is
pub record SomeOperation (s : Source) (v : Seen) (p d : ℕ) : Type 0 where
  pub op : Op
  pub at : OperationAt s v op p d

-- some expression stands at p, however deep
pub record ExprHere (s : Source) (v : Seen) (p : ℕ) : Type 0 where
  pub expr : Expr
  pub stands : ExprStands s p expr
  pub variables : length v.variables.now ≡ s.variables

-- x is the value of whatever stands at p
pub record Valued (s : Source) (v : Seen) (p x : ℕ) : Type 0 where
  pub is : (e : Expr) → ExprStands s p e → x ≡ value_in v e

-- the value of what stands at p, or that it is an operation
abbrev pub FoundAt : Source → Seen → ℕ → Option ℕ → Type 0
FoundAt s v p (Some x) = Valued s v p x
FoundAt s v p None = (o : Op) × (Operation o ≡ expression_at s p)
