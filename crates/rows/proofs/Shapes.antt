-- Each statement and expression is its head and its parts: the row, the depth, the variables and the
-- number of statements of the whole, by those of the parts. One clause for each head.
use Rattle.std.proofs.Common.{◌≡◌, ℕ, suc, ◌+◌, ◌-◌, Bool, true, ◌&&◌, ltb, ◌∷◌, ◌++◌, length, replicate, refl, ap, append-nil, add-zero, arith}
use Rattle.model.specs.Rows.{op_code}
use Rattle.rows.specs.declared.head.Expression.{Expression}
use Rattle.rows.specs.declared.head.Expression.TheVariants.{Number, Variable, Me, All, Operation}
use Rattle.rows.specs.declared.head.Statement.{Statement}
use Rattle.rows.specs.declared.head.Statement.TheVariants.{Skip, Seq, Assign, Read, Write, Increase, If, While, Wait}
use Rattle.rows.specs.Table.{behind}
use Rattle.rows.specs.declared.head.Kind.{Kind}
use Rattle.rows.specs.declared.head.Kind.TheVariants.{Expression as AnExpression, Statement as AStatement}
use Rattle.rows.specs.Parts.{HeadOf, row_of, own, Inner, of, sort, inner}

abbrev pub expression_known : ℕ → Expression → Bool
expression_known k (Number n) = true
expression_known k (Variable x) = ltb x k
expression_known k Me = true
expression_known k All = true
expression_known k (Operation o) = true

abbrev pub statement_known : ℕ → Statement → Bool
statement_known k Skip = true
statement_known k Seq = true
statement_known k (Assign x) = ltb x k
statement_known k (Read x) = ltb x k
statement_known k Write = true
statement_known k Increase = true
statement_known k If = true
statement_known k While = true
statement_known k Wait = true

abbrev pub known_of : (c : Kind) → ℕ → HeadOf c → Bool
known_of AnExpression k h = expression_known k h
known_of AStatement k h = statement_known k h

-- the whole that such a head is with x behind it
pub record Whole (c : Kind) (h : HeadOf c) (x : Inner c h) : Type 0 where
  pub row : (sort c).row (of c h x) ≡ row_of c h ++ (inner c h).row x
  pub deep : (sort c).depth (of c h x) ≡ suc ((inner c h).depth x)
  pub counts : (sort c).count (of c h x) ≡ own c + (inner c h).count x
  pub knows : (k : ℕ) → (sort c).known k (of c h x) ≡ (known_of c k h && (inner c h).known k x)
  pub ends : (at : ℕ) → (sort c).ends at (of c h x) ≡ behind at ((sort c).row (of c h x)) ∷ (replicate (length (row_of c h) - 1) 0 ++ (inner c h).ends (behind at (row_of c h)) x)

expr_whole : (h : Expression) (x : Inner AnExpression h) → Whole AnExpression h x
expr_whole (Number n) x = record { row = refl; deep = refl; counts = refl; knows = λ k. refl; ends = λ at. refl }
expr_whole (Variable v) x = record { row = refl; deep = refl; counts = refl; knows = λ k. grind arith; ends = λ at. refl }
expr_whole Me x = record { row = refl; deep = refl; counts = refl; knows = λ k. refl; ends = λ at. refl }
expr_whole All x = record { row = refl; deep = refl; counts = refl; knows = λ k. refl; ends = λ at. refl }
expr_whole (Operation o) x = record { row = ap (λ l. 4 ∷ op_code o ∷ l) (simp append-nil); deep = omega arith; counts = refl; knows = λ k. grind arith; ends = λ at. simp (append-nil, add-zero) }

stmt_whole : (h : Statement) (x : Inner AStatement h) → Whole AStatement h x
stmt_whole Skip x = record { row = refl; deep = refl; counts = refl; knows = λ k. refl; ends = λ at. refl }
stmt_whole Seq x = record { row = refl; deep = omega arith; counts = omega arith; knows = λ k. grind arith; ends = λ at. simp add-zero }
stmt_whole (Assign v) x = record { row = ap (λ l. 2 ∷ v ∷ l) (simp append-nil); deep = omega arith; counts = omega arith; knows = λ k. grind arith; ends = λ at. simp (append-nil, add-zero) }
stmt_whole (Read v) x = record { row = ap (λ l. 3 ∷ v ∷ l) (simp append-nil); deep = omega arith; counts = omega arith; knows = λ k. grind arith; ends = λ at. simp (append-nil, add-zero) }
stmt_whole Write x = record { row = ap (λ l. 4 ∷ l) (simp append-nil); deep = omega arith; counts = omega arith; knows = λ k. grind arith; ends = λ at. simp (append-nil, add-zero) }
stmt_whole Increase x = record { row = ap (λ l. 5 ∷ l) (simp append-nil); deep = omega arith; counts = omega arith; knows = λ k. grind arith; ends = λ at. simp (append-nil, add-zero) }
stmt_whole If x = record { row = refl; deep = omega arith; counts = omega arith; knows = λ k. grind arith; ends = λ at. simp add-zero }
stmt_whole While x = record { row = refl; deep = omega arith; counts = omega arith; knows = λ k. grind arith; ends = λ at. simp add-zero }
stmt_whole Wait x = record { row = refl; deep = refl; counts = refl; knows = λ k. refl; ends = λ at. refl }

pub whole : (c : Kind) (h : HeadOf c) (x : Inner c h) → Whole c h x
whole AnExpression h x = expr_whole h x
whole AStatement h x = stmt_whole h x
