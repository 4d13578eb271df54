-- Texts as rows of words, in prefix order.
use Rattle.std.specs.Prelude.{◌≡◌, ℕ, ◌+◌, ◌≤◌, max, Bool, true, ◌&&◌, List, [], ◌∷◌, ◌++◌, length, nat_lt}
use Rattle.model.specs.declared.Change.{Change}
use Rattle.model.specs.declared.Change.TheVariants.{Write as write, Add as add}
use Rattle.model.specs.declared.Op.{Op}
use Rattle.model.specs.declared.Op.TheVariants.{Add, Sub, Mul, Div, Rem, Less, Same}
use Rattle.model.specs.Kernel.{Expr, num, var, me, all, op, Stmt, skip, seq, assign, read, update, if, while, wait, Kernel}

abbrev pub op_code : Op → ℕ
op_code Add = 0
op_code Sub = 1
op_code Mul = 2
op_code Div = 3
op_code Rem = 4
op_code Less = 5
op_code Same = 6

abbrev pub expr_row : Expr → List ℕ
expr_row (num n) = 0 ∷ n ∷ []
expr_row (var x) = 1 ∷ x ∷ []
expr_row me = 2 ∷ []
expr_row all = 3 ∷ []
expr_row (op o a b) = 4 ∷ op_code o ∷ (expr_row a ++ expr_row b)

abbrev pub change_code : Change → ℕ
change_code write = 4
change_code add = 5

abbrev pub stmt_row : Stmt → List ℕ
stmt_row skip = 0 ∷ []
stmt_row (seq s t) = 1 ∷ (stmt_row s ++ stmt_row t)
stmt_row (assign x e) = 2 ∷ x ∷ expr_row e
stmt_row (read x e) = 3 ∷ x ∷ expr_row e
stmt_row (update c e f) = change_code c ∷ (expr_row e ++ expr_row f)
stmt_row (if e s t) = 6 ∷ (expr_row e ++ (stmt_row s ++ stmt_row t))
stmt_row (while e s) = 7 ∷ (expr_row e ++ stmt_row s)
stmt_row wait = 8 ∷ []

-- every variable is one of the text's k
abbrev pub expr_known : ℕ → Expr → Bool
expr_known k (num n) = true
expr_known k (var x) = nat_lt x k
expr_known k me = true
expr_known k all = true
expr_known k (op o a b) = expr_known k a && expr_known k b

abbrev pub stmt_known : ℕ → Stmt → Bool
stmt_known k skip = true
stmt_known k (seq s t) = stmt_known k s && stmt_known k t
stmt_known k (assign x e) = nat_lt x k && expr_known k e
stmt_known k (read x e) = nat_lt x k && expr_known k e
stmt_known k (update c e f) = expr_known k e && expr_known k f
stmt_known k (if e s t) = expr_known k e && (stmt_known k s && stmt_known k t)
stmt_known k (while e s) = expr_known k e && stmt_known k s
stmt_known k wait = true

-- how deep statements and expressions stand in one another
abbrev pub expr_depth : Expr → ℕ
expr_depth (num n) = 1
expr_depth (var x) = 1
expr_depth me = 1
expr_depth all = 1
expr_depth (op o a b) = 1 + max (expr_depth a) (expr_depth b)

abbrev pub stmt_depth : Stmt → ℕ
stmt_depth skip = 1
stmt_depth (seq s t) = 1 + max (stmt_depth s) (stmt_depth t)
stmt_depth (assign x e) = 1 + expr_depth e
stmt_depth (read x e) = 1 + expr_depth e
stmt_depth (update c e f) = 1 + max (expr_depth e) (expr_depth f)
stmt_depth (if e s t) = 1 + max (expr_depth e) (max (stmt_depth s) (stmt_depth t))
stmt_depth (while e s) = 1 + max (expr_depth e) (stmt_depth s)
stmt_depth wait = 1

-- The rows w say the kernel k: the number of variables and then the body, within the limits.
pub record Rows (w : List ℕ) (k : Kernel) : Type 0 where
  pub rows : w ≡ k.vars ∷ stmt_row k.body
  pub short : length w ≤ 65536
  pub few : k.vars ≤ 256
  pub shallow : stmt_depth k.body ≤ 256
  pub known : stmt_known k.vars k.body ≡ true

-- Rows say at most one text.
abbrev pub OneKernel : Type 0
OneKernel = (w : List ℕ) (k l : Kernel) → Rows w k → Rows w l → k ≡ l
