-- Heads are read exactly: what is read stands at the front, and what stands there is read.
use Rattle.std.proofs.Common.{◌≡◌, ℕ, zero, suc, ◌+◌, ◌≤◌, Bool, true, cond, ltb, List, [], ◌∷◌, ◌++◌, IfOk, OnErr, Ok, Err, Result, sym, refl, ap, ◌∙◌, arith}
use Rattle.std.specs.Result.{result_or}
use Rattle.std.proofs.lemmas.List.{get_or_past}
use Rattle.model.specs.declared.Op.{Op}
use Rattle.model.specs.declared.Op.TheVariants.{Add, Sub, Mul, Div, Rem, Less, Same}
use Rattle.model.specs.Rows.{op_code}
use Rattle.model.specs.declared.NoOperation.{NoOperation as NoOp}
use Rattle.rows.specs.declared.refusals.Refusal.{Refusal}
use Rattle.rows.specs.declared.refusals.Fault.TheVariants.{NoOperation, NoVariable}
use Rattle.rows.specs.declared.head.Expression.{Expression}
use Rattle.rows.specs.declared.head.Expression.TheVariants.{Number, Variable, Me, All, Operation}
use Rattle.rows.specs.declared.head.Statement.{Statement}
use Rattle.rows.specs.declared.head.Statement.TheVariants.{Skip, Seq, Assign, Read, Write, Increase, If, While, Wait}
use Rattle.rows.specs.Heads.{got, then, refuse, answer, operations, operation_of, variable_of, expression_at, statement_at}
use Rattle.rows.specs.declared.head.Kind.{Kind}
use Rattle.rows.specs.declared.head.Kind.TheVariants.{Expression as AnExpression, Statement as AStatement}
use Rattle.rows.specs.Parts.{expression_row, statement_row, HeadOf, row_of}
use Rattle.rows.specs.Reader.{head_at}
use Rattle.rows.proofs.Answered.{then_came, got_came}
use Rattle.rows.proofs.Shapes.{expression_known, statement_known, known_of}

operation_read : (at : ℕ) (o : Op) (s : List ℕ) → operation_of at (op_code o) s ≡ got o s
operation_read at Add s = refl
operation_read at Sub s = refl
operation_read at Mul s = refl
operation_read at Div s = refl
operation_read at Rem s = refl
operation_read at Less s = refl
operation_read at Same s = refl

operation_none : (at x : ℕ) (s : List ℕ) → 7 ≤ x → operation_of at x s ≡ refuse at NoOperation
operation_none at x s h = ap (λ f. f s) (get_or_past operations x (λ s. refuse at NoOperation) h)

-- an operation's number, as the code reads it
pub operation_named : (at x : ℕ) (s : List ℕ) (r : Result Op NoOp) (y : Refusal) → IfOk r (λ o. x ≡ op_code o) × OnErr r (7 ≤ x) → y ≡ record { at = at; why = NoOperation } → result_or r (Err y) ≡ answer (λ o. o) (operation_of at x s)
operation_named at x s (Ok o) y named is = ap (answer (λ o. o)) (sym (ap (λ x. operation_of at x s) named.0 ∙ operation_read at o s))
operation_named at x s (Err e) y named is = ap Err is ∙ ap (answer (λ o. o)) (sym (operation_none at x s named.1))

variable_read : (k at x : ℕ) (s : List ℕ) → ltb x k ≡ true → variable_of k at x s ≡ got x s
variable_read k at x s e = ap (λ b. cond b (got x s) (refuse at NoVariable)) e

expression_read : (k at : ℕ) (h : Expression) (s : List ℕ) → expression_known k h ≡ true → expression_at k at (expression_row h ++ s) ≡ got h s
expression_read k at (Number n) s e = refl
expression_read k at (Variable x) s e = ap (λ g. then g (λ x s. got (Variable x) s)) (variable_read k (at + 1) x s e)
expression_read k at Me s e = refl
expression_read k at All s e = refl
expression_read k at (Operation o) s e = ap (λ g. then g (λ o s. got (Operation o) s)) (operation_read (at + 1) o s)

statement_read : (k at : ℕ) (h : Statement) (s : List ℕ) → statement_known k h ≡ true → statement_at k at (statement_row h ++ s) ≡ got h s
statement_read k at Skip s e = refl
statement_read k at Seq s e = refl
statement_read k at (Assign x) s e = ap (λ g. then g (λ x s. got (Assign x) s)) (variable_read k (at + 1) x s e)
statement_read k at (Read x) s e = ap (λ g. then g (λ x s. got (Read x) s)) (variable_read k (at + 1) x s e)
statement_read k at Write s e = refl
statement_read k at Increase s e = refl
statement_read k at If s e = refl
statement_read k at While s e = refl
statement_read k at Wait s e = refl

pub record Front (ws row s : List ℕ) (known : Bool) : Type 0 where
  pub row_is : ws ≡ row ++ s
  pub known_is : known ≡ true

operation_front : (at x : ℕ) (ws : List ℕ) (o : Op) (s : List ℕ) → operation_of at x ws ≡ got o s → (x ≡ op_code o) × (ws ≡ s)
operation_front at zero ws o s e = (cc, cc)
operation_front at (suc zero) ws o s e = (cc, cc)
operation_front at (suc (suc zero)) ws o s e = (cc, cc)
operation_front at (suc (suc (suc zero))) ws o s e = (cc, cc)
operation_front at (suc (suc (suc (suc zero)))) ws o s e = (cc, cc)
operation_front at (suc (suc (suc (suc (suc zero))))) ws o s e = (cc, cc)
operation_front at (suc (suc (suc (suc (suc (suc zero)))))) ws o s e = (cc, cc)
operation_front at (suc (suc (suc (suc (suc (suc (suc x))))))) ws o s e = (cc, cc)

expression_front : (k at : ℕ) (ws : List ℕ) (h : Expression) (s : List ℕ) → expression_at k at ws ≡ got h s → Front ws (expression_row h) s (expression_known k h)
expression_front k at [] h s e = record { row_is = cc; known_is = cc }
expression_front k at (zero ∷ []) h s e = record { row_is = cc; known_is = cc }
expression_front k at (zero ∷ n ∷ ws) h s e = record { row_is = cc; known_is = cc }
expression_front k at (suc zero ∷ []) h s e = record { row_is = cc; known_is = cc }
expression_front k at (suc zero ∷ x ∷ ws) h s e = record { row_is = grind arith; known_is = grind arith }
expression_front k at (suc (suc zero) ∷ ws) h s e = record { row_is = cc; known_is = cc }
expression_front k at (suc (suc (suc zero)) ∷ ws) h s e = record { row_is = cc; known_is = cc }
expression_front k at (suc (suc (suc (suc zero))) ∷ []) h s e = record { row_is = cc; known_is = cc }
expression_front k at (suc (suc (suc (suc zero))) ∷ x ∷ ws) h s e =
    then_came (λ h s. Front (4 ∷ x ∷ ws) (expression_row h) s (expression_known k h)) (operation_of (at + 1) x ws) (λ o s. got (Operation o) s)
    (λ o l is. let f = operation_front (at + 1) x ws o l is in
    got_came (λ h s. Front (4 ∷ x ∷ ws) (expression_row h) s (expression_known k h)) (Operation o) l (record { row_is = cc; known_is = refl }))
    h s e
expression_front k at (suc (suc (suc (suc (suc x)))) ∷ ws) h s e = record { row_is = cc; known_is = cc }

statement_front : (k at : ℕ) (ws : List ℕ) (h : Statement) (s : List ℕ) → statement_at k at ws ≡ got h s → Front ws (statement_row h) s (statement_known k h)
statement_front k at [] h s e = record { row_is = cc; known_is = cc }
statement_front k at (zero ∷ ws) h s e = record { row_is = cc; known_is = cc }
statement_front k at (suc zero ∷ ws) h s e = record { row_is = cc; known_is = cc }
statement_front k at (suc (suc zero) ∷ []) h s e = record { row_is = cc; known_is = cc }
statement_front k at (suc (suc zero) ∷ x ∷ ws) h s e = record { row_is = grind arith; known_is = grind arith }
statement_front k at (suc (suc (suc zero)) ∷ []) h s e = record { row_is = cc; known_is = cc }
statement_front k at (suc (suc (suc zero)) ∷ x ∷ ws) h s e = record { row_is = grind arith; known_is = grind arith }
statement_front k at (suc (suc (suc (suc zero))) ∷ ws) h s e = record { row_is = cc; known_is = cc }
statement_front k at (suc (suc (suc (suc (suc zero)))) ∷ ws) h s e = record { row_is = cc; known_is = cc }
statement_front k at (suc (suc (suc (suc (suc (suc zero))))) ∷ ws) h s e = record { row_is = cc; known_is = cc }
statement_front k at (suc (suc (suc (suc (suc (suc (suc zero)))))) ∷ ws) h s e = record { row_is = cc; known_is = cc }
statement_front k at (suc (suc (suc (suc (suc (suc (suc (suc zero))))))) ∷ ws) h s e = record { row_is = cc; known_is = cc }
statement_front k at (suc (suc (suc (suc (suc (suc (suc (suc (suc x)))))))) ∷ ws) h s e = record { row_is = cc; known_is = cc }

-- the same of both
pub head_read : (c : Kind) (k at : ℕ) (h : HeadOf c) (s : List ℕ) → known_of c k h ≡ true → head_at c k at (row_of c h ++ s) ≡ got h s
head_read AnExpression = expression_read
head_read AStatement = statement_read

pub head_front : (c : Kind) (k at : ℕ) (ws : List ℕ) (h : HeadOf c) (s : List ℕ) → head_at c k at ws ≡ got h s → Front ws (row_of c h) s (known_of c k h)
head_front AnExpression = expression_front
head_front AStatement = statement_front
