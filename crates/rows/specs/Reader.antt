-- Reading a text from the front of a list of words, as a function. The proofs show that it reads
-- exactly the texts; the code is held to it, to the place and reason of each refusal.
use Rattle.std.specs.Prelude.{ℕ, zero, suc, List}
use Rattle.model.specs.Kernel.{Expr, Stmt}
use Rattle.rows.specs.declared.head.Kind.{Kind}
use Rattle.rows.specs.declared.head.Kind.TheVariants.{Expression as AnExpression, Statement as AStatement}
use Rattle.rows.specs.declared.refusals.Fault.TheVariants.{TooDeep}
use Rattle.rows.specs.Heads.{Got, got, then, refuse, expression_at, statement_at}
use Rattle.rows.specs.Parts.{Many, Sort, many, exprs, stmts, sort, Of, HeadOf, row_of, exprs_in, stmts_in, Inner, of}
use Rattle.rows.specs.Table.{behind}

-- what reads an A from the words that begin at a position
abbrev pub Reader : Type 0 → Type 0
Reader A = ℕ → List ℕ → Got A

-- one behind the other
abbrev pub pair : {A B : Type 0} → Sort A → Reader A → Reader B → Reader (A × B)
pair S f g at s = then (f at s) (λ a s. then (g (behind at (S.row a)) s) (λ b s. got (a, b) s))

abbrev pub several : {A : Type 0} → Sort A → Reader A → (n : ℕ) → Reader (Many A n)
several S f zero = λ at s. got tt s
several S f (suc n) = pair (many S n) (several S f n) f

-- a head, and then what stands in it
abbrev pub headed : {H A : Type 0} {X : H → Type 0} → (H → List ℕ) → Reader H → ((h : H) → Reader (X h)) → ((h : H) → X h → A) → Reader A
headed row head inside of at s = then (head at s) (λ h s. then (inside h (behind at (row h)) s) (λ x s. got (of h x) s))

-- a head with no room below it
abbrev pub too_deep : {H A : Type 0} → Reader H → Reader A
too_deep head at s = then (head at s) (λ h s. refuse at TooDeep)

-- the head of an expression, or of a statement
abbrev pub head_at : (c : Kind) → ℕ → Reader (HeadOf c)
head_at AnExpression k = expression_at k
head_at AStatement k = statement_at k

-- what stands behind a head: expressions, and then statements
abbrev pub inside : Reader Expr → Reader Stmt → (c : Kind) (h : HeadOf c) → Reader (Inner c h)
inside f g c h = pair (many exprs (exprs_in c h)) (several exprs f (exprs_in c h)) (several stmts g (stmts_in c h))

-- an expression, or a statement, of a text with k variables, at most so deep
abbrev pub read_part : (c : Kind) → ℕ → ℕ → Reader (Of c)
read_part c zero k = too_deep (head_at c k)
read_part c (suc d) k = headed (row_of c) (head_at c k) (inside (read_part AnExpression d k) (read_part AStatement d k) c) (of c)

abbrev pub read_parts : (c : Kind) (n d k : ℕ) → Reader (Many (Of c) n)
read_parts c n d k = several (sort c) (read_part c d k) n
