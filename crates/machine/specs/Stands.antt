-- What stands at a position of the rows. The table of ends says where the next part begins.
use Rattle.std.specs.Prelude.{◌≡◌, ℕ, ◌+◌, ◌<◌, ◌≤◌, List, [], ◌∷◌, length, get_or, slice_index, slice_index_or}
use Rattle.model.specs.declared.Op.{Op}
use Rattle.model.specs.declared.Op.TheVariants.{Add, Sub, Mul, Div, Rem, Less, Same}
use Rattle.model.specs.Kernel.{Expr, num, var, me, all, op, Stmt, skip, seq, assign, read, update, if, while, wait}
use Rattle.model.specs.Rows.{op_code, change_code, stmt_row}
use Rattle.rows.specs.declared.head.Expression.{Expression}
use Rattle.rows.specs.declared.head.Expression.TheVariants.{Number, Variable, Me, All, Operation}
use Rattle.rows.specs.declared.head.Statement.{Statement}
use Rattle.rows.specs.declared.head.Statement.TheVariants.{Skip, Seq, Assign, Read, Write, Increase, If, While, Wait}
use Rattle.machine.specs.declared.script.Script.{Script}

-- the words that a script refers to
pub record Source : Type 0 where
  pub rows : List ℕ
  pub ends : List ℕ
  pub variables : ℕ

abbrev pub source : Script → Source
source s = record { rows = s.rows.now; ends = s.ends.now; variables = s.variables }

-- the word at p is x
abbrev pub Word : Source → ℕ → ℕ → Type 0
Word s p x = (p < length s.rows) × (slice_index s.rows p ≡ x)

-- there is an end beside p
abbrev pub EndsAt : Source → ℕ → Type 0
EndsAt s p = p < length s.ends

abbrev pub end : Source → ℕ → ℕ
end s p = slice_index s.ends p

-- the row, which stands at p, ends where the table says, within the rows
abbrev pub Spans : Source → ℕ → List ℕ → Type 0
Spans s p row = (end s p ≡ p + length row) × (p + length row ≤ length s.rows)

-- the expression, or the statement, stands at p
abbrev pub ExprStands : Source → ℕ → Expr → Type 0
ExprStands s p (num n) = Word s p 0 × Word s (p + 1) n
ExprStands s p (var x) = Word s p 1 × Word s (p + 1) x × (x < s.variables)
ExprStands s p me = Word s p 2
ExprStands s p all = Word s p 3
ExprStands s p (op o a b) = Word s p 4 × Word s (p + 1) (op_code o) × EndsAt s (p + 2) × ExprStands s (p + 2) a × ExprStands s (end s (p + 2)) b

abbrev pub Stands : Source → ℕ → Stmt → Type 0
Stands s p skip = Word s p 0 × Spans s p (stmt_row skip)
Stands s p (seq a b) = Word s p 1 × EndsAt s (p + 1) × Stands s (p + 1) a × Stands s (end s (p + 1)) b × Spans s p (stmt_row (seq a b))
Stands s p (assign x e) = Word s p 2 × Word s (p + 1) x × (x < s.variables) × ExprStands s (p + 2) e × Spans s p (stmt_row (assign x e))
Stands s p (read x e) = Word s p 3 × Word s (p + 1) x × (x < s.variables) × ExprStands s (p + 2) e × Spans s p (stmt_row (read x e))
Stands s p (update c e f) = Word s p (change_code c) × EndsAt s (p + 1) × ExprStands s (p + 1) e × ExprStands s (end s (p + 1)) f × Spans s p (stmt_row (update c e f))
Stands s p (if e a b) = Word s p 6 × EndsAt s (p + 1) × ExprStands s (p + 1) e × EndsAt s (end s (p + 1)) × Stands s (end s (p + 1)) a × Stands s (end s (end s (p + 1))) b × Spans s p (stmt_row (if e a b))
Stands s p (while e a) = Word s p 7 × EndsAt s (p + 1) × ExprStands s (p + 1) e × Stands s (end s (p + 1)) a × Spans s p (stmt_row (while e a))
Stands s p wait = Word s p 8 × Spans s p (stmt_row wait)

-- whole heads: the words that are read of them lie in the rows
pub record ExprHead (s : Source) (p : ℕ) : Type 0 where
  pub within : p < length s.rows
  pub number : get_or s.rows p 0 ≡ 0 → p + 1 < length s.rows
  pub variable : get_or s.rows p 0 ≡ 1 → p + 1 < length s.rows
  pub operation : 3 < slice_index s.rows p → p + 1 < length s.rows

pub record StmtHead (s : Source) (p : ℕ) : Type 0 where
  pub within : p < length s.rows
  pub assign : get_or s.rows p 0 ≡ 2 → p + 1 < length s.rows
  pub read : get_or s.rows p 0 ≡ 3 → p + 1 < length s.rows

-- The heads, by their words: the first says which, the second is what the head holds.
abbrev pub operation_named : ℕ → Op
operation_named y = slice_index_or (Add ∷ Sub ∷ Mul ∷ Div ∷ Rem ∷ Less ∷ []) y Same

abbrev pub expression_of : ℕ → ℕ → Expression
expression_of x y = slice_index_or (Number y ∷ Variable y ∷ Me ∷ All ∷ []) x (Operation (operation_named y))

abbrev pub statement_of : ℕ → ℕ → Statement
statement_of x y = slice_index_or (Skip ∷ Seq ∷ Assign y ∷ Read y ∷ Write ∷ Increase ∷ If ∷ While ∷ []) x Wait

abbrev pub expression_at : Source → ℕ → Expression
expression_at s p = expression_of (slice_index s.rows p) (slice_index s.rows (p + 1))

abbrev pub statement_at : Source → ℕ → Statement
statement_at s p = statement_of (slice_index s.rows p) (slice_index s.rows (p + 1))
