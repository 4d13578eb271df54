-- Kernels: one text that every thread runs.
use Rattle.std.specs.Prelude.{ℕ, zero, suc, ◌+◌, ◌-◌, ◌*◌, ◌/◌, ◌%◌, ◌^◌, Bool, true, false, List, ◌==◌, nat_lt, slice_index}
use Rattle.model.specs.declared.Op.{Op}
use Rattle.model.specs.declared.Op.TheVariants.{Add, Sub, Mul, Div, Rem, Less, Same}
use Rattle.model.specs.declared.Change.{Change}
use Rattle.model.specs.declared.Change.TheVariants.{Write as write, Add as add}

abbrev pub bit : Bool → ℕ
bit true = 1
bit false = 0

-- divided by 0, a word gives 0
abbrev pub quotient : ℕ → ℕ → ℕ
quotient x zero = 0
quotient x (suc y) = x / suc y

-- divided by 0, a word is what is left of it
abbrev pub remainder : ℕ → ℕ → ℕ
remainder x zero = x
remainder x (suc y) = x % suc y

-- Words have 32 bits: sums, differences and products wrap.
abbrev pub operate : Op → ℕ → ℕ → ℕ
operate Add x y = (x + y) % 2 ^ 32
operate Sub x y = (x + 2 ^ 32 - y) % 2 ^ 32
operate Mul x y = x * y % 2 ^ 32
operate Div x y = quotient x y
operate Rem x y = remainder x y
operate Less x y = bit (nat_lt x y)
operate Same x y = bit (x == y)

-- Expressions: a number, a variable of the thread, the thread's number, how many threads there are,
-- or an operation on two. None of them reads the memory.
pub data Expr : Type 0 where
  num : ℕ → Expr
  var : ℕ → Expr
  me : Expr
  all : Expr
  op : Op → Expr → Expr → Expr

-- what a change by the value v makes of the word w
abbrev pub changed : Change → ℕ → ℕ → ℕ
changed write w v = v
changed add w v = (w + v) % 2 ^ 32

-- whether changes of this kind can be made in either order
abbrev pub commutes : Change → Bool
commutes write = false
commutes add = true

-- Statements. `read` and `update` touch the memory, which all threads share; `wait` is for all threads.
pub data Stmt : Type 0 where
  skip : Stmt
  seq : Stmt → Stmt → Stmt
  assign : ℕ → Expr → Stmt
  read : ℕ → Expr → Stmt
  update : Change → Expr → Expr → Stmt
  if : Expr → Stmt → Stmt → Stmt
  while : Expr → Stmt → Stmt
  wait : Stmt

pub record Kernel : Type 0 where
  pub vars : ℕ
  pub body : Stmt

-- the value of an expression in thread i of n, whose variables are vs
abbrev pub value : ℕ → ℕ → List ℕ → Expr → ℕ
value i n vs (num k) = k
value i n vs (var x) = slice_index vs x
value i n vs me = i
value i n vs all = n
value i n vs (op o a b) = operate o (value i n vs a) (value i n vs b)

-- Any number names a place of the memory: it is taken modulo the number of words, and is 0 where there are none.
abbrev pub place : ℕ → ℕ → ℕ
place a zero = 0
place a (suc n) = a % suc n
