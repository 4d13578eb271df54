-- What stands at a position has a whole head there, and that head says which statement or expression it is.
use Rattle.std.proofs.Common.{◌≡◌, ℕ, ◌+◌, get_or, refl, ap, ◌∙◌, ap₂, arith}
use Rattle.model.specs.declared.Change.TheVariants.{Write as write, Add as add}
use Rattle.model.specs.declared.Op.{Op}
use Rattle.model.specs.declared.Op.TheVariants.{Add, Sub, Mul, Div, Rem, Less, Same}
use Rattle.model.specs.Kernel.{Expr, num, var, me, all, op, Stmt, skip, seq, assign, read, update, if, while, wait}
use Rattle.model.specs.Rows.{op_code}
use Rattle.rows.specs.declared.head.Expression.{Expression}
use Rattle.rows.specs.declared.head.Expression.TheVariants.{Number, Variable, Me, All, Operation}
use Rattle.rows.specs.declared.head.Statement.{Statement}
use Rattle.rows.specs.declared.head.Statement.TheVariants.{Skip, Seq, Assign, Read, Write, Increase, If, While, Wait}
use Rattle.machine.specs.Stands.{Source, ExprStands, Stands, ExprHead, StmtHead, operation_named, expression_of, statement_of, expression_at, statement_at}

pub expr_head : (s : Source) (p : ℕ) (e : Expr) → ExprStands s p e → ExprHead s p
expr_head s p (num n) h = record { within = h.0.0; number = λ e. h.1.0; variable = λ e. h.1.0; operation = λ e. h.1.0 }
expr_head s p (var x) h = record { within = h.0.0; number = λ e. h.1.0; variable = λ e. h.1.0; operation = λ e. h.1.0 }
expr_head s p me h = record { within = h.0; number = λ e. absurd (omega arith); variable = λ e. absurd (omega arith); operation = λ e. absurd (omega arith) }
expr_head s p all h = record { within = h.0; number = λ e. absurd (omega arith); variable = λ e. absurd (omega arith); operation = λ e. absurd (omega arith) }
expr_head s p (op o a b) h = record { within = h.0.0; number = λ e. h.1.0; variable = λ e. h.1.0; operation = λ e. h.1.0 }

abbrev pub expr_head_of : Expr → Expression
expr_head_of (num n) = Number n
expr_head_of (var x) = Variable x
expr_head_of me = Me
expr_head_of all = All
expr_head_of (op o a b) = Operation o

pub code_says : (o : Op) → operation_named (op_code o) ≡ o
code_says Add = refl
code_says Sub = refl
code_says Mul = refl
code_says Div = refl
code_says Rem = refl
code_says Less = refl
code_says Same = refl

pub expr_says : (s : Source) (p : ℕ) (e : Expr) → ExprStands s p e → expression_at s p ≡ expr_head_of e
expr_says s p (num n) h = ap₂ expression_of h.0.1 h.1.1
expr_says s p (var x) h = ap₂ expression_of h.0.1 h.1.1
expr_says s p me h = ap (λ x. expression_of x (get_or s.rows (p + 1) 0)) h.1
expr_says s p all h = ap (λ x. expression_of x (get_or s.rows (p + 1) 0)) h.1
expr_says s p (op o a b) h = ap₂ expression_of h.0.1 h.1.1 ∙ ap Operation (code_says o)

pub stmt_head : (s : Source) (p : ℕ) (a : Stmt) → Stands s p a → StmtHead s p
stmt_head s p skip h = record { within = h.0.0; assign = λ e. absurd (omega arith); read = λ e. absurd (omega arith) }
stmt_head s p (seq a b) h = record { within = h.0.0; assign = λ e. absurd (omega arith); read = λ e. absurd (omega arith) }
stmt_head s p (assign x e) h = record { within = h.0.0; assign = λ e. h.1.0; read = λ e. h.1.0 }
stmt_head s p (read x e) h = record { within = h.0.0; assign = λ e. h.1.0; read = λ e. h.1.0 }
stmt_head s p (update write e f) h = record { within = h.0.0; assign = λ e. absurd (omega arith); read = λ e. absurd (omega arith) }
stmt_head s p (update add e f) h = record { within = h.0.0; assign = λ e. absurd (omega arith); read = λ e. absurd (omega arith) }
stmt_head s p (if e a b) h = record { within = h.0.0; assign = λ e. absurd (omega arith); read = λ e. absurd (omega arith) }
stmt_head s p (while e a) h = record { within = h.0.0; assign = λ e. absurd (omega arith); read = λ e. absurd (omega arith) }
stmt_head s p wait h = record { within = h.0.0; assign = λ e. absurd (omega arith); read = λ e. absurd (omega arith) }

abbrev pub stmt_head_of : Stmt → Statement
stmt_head_of skip = Skip
stmt_head_of (seq a b) = Seq
stmt_head_of (assign x e) = Assign x
stmt_head_of (read x e) = Read x
stmt_head_of (update write e f) = Write
stmt_head_of (update add e f) = Increase
stmt_head_of (if e a b) = If
stmt_head_of (while e a) = While
stmt_head_of wait = Wait

pub stmt_says : (s : Source) (p : ℕ) (a : Stmt) → Stands s p a → statement_at s p ≡ stmt_head_of a
stmt_says s p skip h = ap (λ x. statement_of x (get_or s.rows (p + 1) 0)) h.0.1
stmt_says s p (seq a b) h = ap (λ x. statement_of x (get_or s.rows (p + 1) 0)) h.0.1
stmt_says s p (assign x e) h = ap₂ statement_of h.0.1 h.1.1
stmt_says s p (read x e) h = ap₂ statement_of h.0.1 h.1.1
stmt_says s p (update write e f) h = ap (λ x. statement_of x (get_or s.rows (p + 1) 0)) h.0.1
stmt_says s p (update add e f) h = ap (λ x. statement_of x (get_or s.rows (p + 1) 0)) h.0.1
stmt_says s p (if e a b) h = ap (λ x. statement_of x (get_or s.rows (p + 1) 0)) h.0.1
stmt_says s p (while e a) h = ap (λ x. statement_of x (get_or s.rows (p + 1) 0)) h.0.1
stmt_says s p wait h = ap (λ x. statement_of x (get_or s.rows (p + 1) 0)) h.0.1
