-- What stands in a statement or an expression: its head, which says how many expressions and then how
-- many statements follow, and these. Each fact about texts is then shown once for any number of parts.
use Rattle.std.specs.Prelude.{ℕ, zero, suc, ◌+◌, max, Bool, true, ◌&&◌, List, [], ◌∷◌, ◌++◌, length}
use Rattle.model.specs.declared.Change.TheVariants.{Write as write, Add as add}
use Rattle.model.specs.Kernel.{Expr, num, var, me, all, op, Stmt, skip, seq, assign, read, update, if, while, wait}
use Rattle.model.specs.Rows.{op_code, expr_row, expr_known, expr_depth, stmt_row, stmt_known, stmt_depth}
use Rattle.rows.specs.declared.head.Expression.{Expression}
use Rattle.rows.specs.declared.head.Expression.TheVariants.{Number, Variable, Me, All, Operation}
use Rattle.rows.specs.declared.head.Statement.{Statement}
use Rattle.rows.specs.declared.head.Statement.TheVariants.{Skip, Seq, Assign, Read, Write, Increase, If, While, Wait}
use Rattle.rows.specs.declared.head.Kind.{Kind}
use Rattle.rows.specs.declared.head.Kind.TheVariants.{Expression as AnExpression, Statement as AStatement}
use Rattle.rows.specs.declared.head.Head.{Head}
use Rattle.rows.specs.declared.part.Part.{Part}
use Rattle.rows.specs.Table.{behind, expr_ends, stmt_ends, stmt_count}

-- so many of a kind
abbrev pub Many : Type 0 → ℕ → Type 0
Many A zero = Unit {0}
Many A (suc n) = Many A n × A

abbrev pub expression_row : Expression → List ℕ
expression_row (Number n) = 0 ∷ n ∷ []
expression_row (Variable x) = 1 ∷ x ∷ []
expression_row Me = 2 ∷ []
expression_row All = 3 ∷ []
expression_row (Operation o) = 4 ∷ op_code o ∷ []

abbrev pub operands : Expression → ℕ
operands (Number n) = 0
operands (Variable x) = 0
operands Me = 0
operands All = 0
operands (Operation o) = 2

abbrev pub expr_of : (h : Expression) → Many Expr (operands h) → Expr
expr_of (Number n) es = num n
expr_of (Variable x) es = var x
expr_of Me es = me
expr_of All es = all
expr_of (Operation o) es = op o es.0.1 es.1

abbrev pub statement_row : Statement → List ℕ
statement_row Skip = 0 ∷ []
statement_row Seq = 1 ∷ []
statement_row (Assign x) = 2 ∷ x ∷ []
statement_row (Read x) = 3 ∷ x ∷ []
statement_row Write = 4 ∷ []
statement_row Increase = 5 ∷ []
statement_row If = 6 ∷ []
statement_row While = 7 ∷ []
statement_row Wait = 8 ∷ []

abbrev pub inner_exprs : Statement → ℕ
inner_exprs Skip = 0
inner_exprs Seq = 0
inner_exprs (Assign x) = 1
inner_exprs (Read x) = 1
inner_exprs Write = 2
inner_exprs Increase = 2
inner_exprs If = 1
inner_exprs While = 1
inner_exprs Wait = 0

abbrev pub inner_stmts : Statement → ℕ
inner_stmts Skip = 0
inner_stmts Seq = 2
inner_stmts (Assign x) = 0
inner_stmts (Read x) = 0
inner_stmts Write = 0
inner_stmts Increase = 0
inner_stmts If = 2
inner_stmts While = 1
inner_stmts Wait = 0

-- Expressions and statements alike: what they are, what their heads are, the words of a head, and how many
-- expressions and then how many statements follow it.
abbrev pub Of : Kind → Type 0
Of AnExpression = Expr
Of AStatement = Stmt

abbrev pub HeadOf : Kind → Type 0
HeadOf AnExpression = Expression
HeadOf AStatement = Statement

abbrev pub row_of : (c : Kind) → HeadOf c → List ℕ
row_of AnExpression h = expression_row h
row_of AStatement h = statement_row h

abbrev pub exprs_in : (c : Kind) → HeadOf c → ℕ
exprs_in AnExpression h = operands h
exprs_in AStatement h = inner_exprs h

abbrev pub stmts_in : (c : Kind) → HeadOf c → ℕ
stmts_in AnExpression h = 0
stmts_in AStatement h = inner_stmts h

-- how many statements the whole is, without those that stand in it
abbrev pub own : Kind → ℕ
own AnExpression = 0
own AStatement = 1

-- what the code tells of a head
abbrev pub head_of : (c : Kind) → HeadOf c → Head
head_of c h = record { words = length (row_of c h); expressions = exprs_in c h; statements = stmts_in c h }

-- what stands behind a head: expressions, and then statements
abbrev pub Inner : (c : Kind) → HeadOf c → Type 0
Inner c h = Many Expr (exprs_in c h) × Many Stmt (stmts_in c h)

abbrev pub stmt_of : (h : Statement) → Inner AStatement h → Stmt
stmt_of Skip x = skip
stmt_of Seq x = seq x.1.0.1 x.1.1
stmt_of (Assign v) x = assign v x.0.1
stmt_of (Read v) x = read v x.0.1
stmt_of Write x = update write x.0.0.1 x.0.1
stmt_of Increase x = update add x.0.0.1 x.0.1
stmt_of If x = if x.0.1 x.1.0.1 x.1.1
stmt_of While x = while x.0.1 x.1.1
stmt_of Wait x = wait

abbrev pub of : (c : Kind) (h : HeadOf c) → Inner c h → Of c
of AnExpression h x = expr_of h x.0
of AStatement h x = stmt_of h x

-- What is said of expressions, of statements and of several of them alike: the row, the ends beside it,
-- how deep they are, how many statements there are, and whether the variables are among k.
pub record Sort (A : Type 0) : Type 0 where
  pub row : A → List ℕ
  pub ends : ℕ → A → List ℕ
  pub depth : A → ℕ
  pub count : A → ℕ
  pub known : ℕ → A → Bool

abbrev pub exprs : Sort Expr
exprs = record { row = expr_row; ends = expr_ends; depth = expr_depth; count = λ e. 0; known = expr_known }

abbrev pub stmts : Sort Stmt
stmts = record { row = stmt_row; ends = stmt_ends; depth = stmt_depth; count = stmt_count; known = stmt_known }

abbrev pub sort : (c : Kind) → Sort (Of c)
sort AnExpression = exprs
sort AStatement = stmts

-- nothing, one behind the other, and so many of a kind
abbrev pub nothing : Sort (Unit {0})
nothing = record { row = λ x. []; ends = λ at x. []; depth = λ x. 0; count = λ x. 0; known = λ k x. true }

abbrev pub both : {A B : Type 0} → Sort A → Sort B → Sort (A × B)
both S T = record {
  row = λ x. S.row x.0 ++ T.row x.1;
  ends = λ at x. S.ends at x.0 ++ T.ends (behind at (S.row x.0)) x.1;
  depth = λ x. max (S.depth x.0) (T.depth x.1);
  count = λ x. S.count x.0 + T.count x.1;
  known = λ k x. S.known k x.0 && T.known k x.1;
}

abbrev pub many : {A : Type 0} → Sort A → (n : ℕ) → Sort (Many A n)
many S zero = nothing
many S (suc n) = both (many S n) S

abbrev pub inner : (c : Kind) (h : HeadOf c) → Sort (Inner c h)
inner c h = both (many exprs (exprs_in c h)) (many stmts (stmts_in c h))

-- what the code tells of a part that begins at `at`
abbrev pub part_of : {A : Type 0} → Sort A → ℕ → A → Part
part_of S at a = record { end = behind at (S.row a); statements = S.count a; deep = S.depth a }
