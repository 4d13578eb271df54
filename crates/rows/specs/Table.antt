-- What is told of a text: the table of ends, and the number of its statements.
--
-- The table of ends has a number beside each word of the rows: where a statement or an expression begins,
-- the position behind it; beside any other word 0. `at` is the position of the first word.
use Rattle.std.specs.Prelude.{ℕ, ◌+◌, List, [], ◌∷◌, ◌++◌, length}
use Rattle.model.specs.Kernel.{Expr, num, var, me, all, op, Stmt, skip, seq, assign, read, update, if, while, wait, Kernel}
use Rattle.model.specs.Rows.{expr_row, stmt_row}

abbrev pub behind : ℕ → List ℕ → ℕ
behind at row = at + length row

abbrev pub expr_ends : ℕ → Expr → List ℕ
expr_ends at (num n) = (at + 2) ∷ 0 ∷ []
expr_ends at (var x) = (at + 2) ∷ 0 ∷ []
expr_ends at me = (at + 1) ∷ []
expr_ends at all = (at + 1) ∷ []
expr_ends at (op o a b) = behind at (expr_row (op o a b)) ∷ 0 ∷ (expr_ends (at + 2) a ++ expr_ends (behind (at + 2) (expr_row a)) b)

abbrev pub stmt_ends : ℕ → Stmt → List ℕ
stmt_ends at skip = (at + 1) ∷ []
stmt_ends at (seq s t) = behind at (stmt_row (seq s t)) ∷ (stmt_ends (at + 1) s ++ stmt_ends (behind (at + 1) (stmt_row s)) t)
stmt_ends at (assign x e) = behind at (stmt_row (assign x e)) ∷ 0 ∷ expr_ends (at + 2) e
stmt_ends at (read x e) = behind at (stmt_row (read x e)) ∷ 0 ∷ expr_ends (at + 2) e
stmt_ends at (update c e f) = behind at (stmt_row (update c e f)) ∷ (expr_ends (at + 1) e ++ expr_ends (behind (at + 1) (expr_row e)) f)
stmt_ends at (if e s t) =
    let p = behind (at + 1) (expr_row e) in
    behind at (stmt_row (if e s t)) ∷ (expr_ends (at + 1) e ++ (stmt_ends p s ++ stmt_ends (behind p (stmt_row s)) t))
stmt_ends at (while e s) = behind at (stmt_row (while e s)) ∷ (expr_ends (at + 1) e ++ stmt_ends (behind (at + 1) (expr_row e)) s)
stmt_ends at wait = (at + 1) ∷ []

-- beside the number of variables stands 0
abbrev pub kernel_ends : Kernel → List ℕ
kernel_ends k = 0 ∷ stmt_ends 1 k.body

-- how many statements stand in a statement, itself included
abbrev pub stmt_count : Stmt → ℕ
stmt_count skip = 1
stmt_count (seq s t) = 1 + (stmt_count s + stmt_count t)
stmt_count (assign x e) = 1
stmt_count (read x e) = 1
stmt_count (update c e f) = 1
stmt_count (if e s t) = 1 + (stmt_count s + stmt_count t)
stmt_count (while e s) = 1 + stmt_count s
stmt_count wait = 1
