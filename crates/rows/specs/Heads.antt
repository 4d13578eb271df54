-- How a head, the first words of a statement or an expression, is read from the front of a list of
-- words. `at` is the position of the front in the rows, which a refusal tells.
use Rattle.std.specs.Prelude.{ℕ, ◌+◌, cond, List, [], ◌∷◌, Ok, Err, Result, nat_lt, slice_index_or}
use Rattle.model.specs.declared.Op.{Op}
use Rattle.model.specs.declared.Op.TheVariants.{Add, Sub, Mul, Div, Rem, Less, Same}
use Rattle.rows.specs.declared.refusals.Fault.{Fault}
use Rattle.rows.specs.declared.refusals.Fault.TheVariants.{EndsEarly, NoStatement, NoExpression, NoOperation, NoVariable}
use Rattle.rows.specs.declared.refusals.Refusal.{Refusal}
use Rattle.rows.specs.declared.head.Expression.{Expression}
use Rattle.rows.specs.declared.head.Expression.TheVariants.{Number, Variable, Me, All, Operation}
use Rattle.rows.specs.declared.head.Statement.{Statement}
use Rattle.rows.specs.declared.head.Statement.TheVariants.{Skip, Seq, Assign, Read, Write, Increase, If, While, Wait}

-- what is read from the front of a list, and the words behind it; or why and where there is no such thing
pub data Got (A : Type 0) : Type 0 where
  got : A → List ℕ → Got A
  bad : Refusal → Got A

abbrev pub then : {A B : Type 0} → Got A → (A → List ℕ → Got B) → Got B
then (got a s) f = f a s
then (bad x) f = bad x

-- as the code answers it, which finds the words behind by their position
abbrev pub answer : {A B : Type 0} → (A → B) → Got A → Result B Refusal
answer f (got a s) = Ok (f a)
answer f (bad x) = Err x

abbrev pub refuse : {A : Type 0} → ℕ → Fault → Got A
refuse at why = bad (record { at = at; why = why })

abbrev pub word_at : ℕ → List ℕ → Got ℕ
word_at at [] = refuse at EndsEarly
word_at at (x ∷ s) = got x s

abbrev pub variable_of : ℕ → ℕ → ℕ → List ℕ → Got ℕ
variable_of k at x s = cond (nat_lt x k) (got x s) (refuse at NoVariable)

abbrev pub variable_at : ℕ → ℕ → List ℕ → Got ℕ
variable_at k at s = then (word_at at s) (variable_of k at)

-- The forms of operations, expressions and statements, each at its code.
abbrev pub operations : List (List ℕ → Got Op)
operations = got Add ∷ got Sub ∷ got Mul ∷ got Div ∷ got Rem ∷ got Less ∷ got Same ∷ []

abbrev pub operation_of : ℕ → ℕ → List ℕ → Got Op
operation_of at x = slice_index_or operations x (λ s. refuse at NoOperation)

abbrev pub operation_at : ℕ → List ℕ → Got Op
operation_at at s = then (word_at at s) (operation_of at)

abbrev pub expressions : ℕ → ℕ → List (List ℕ → Got Expression)
expressions k at =
    (λ s. then (word_at (at + 1) s) (λ n s. got (Number n) s))
    ∷ (λ s. then (variable_at k (at + 1) s) (λ x s. got (Variable x) s))
    ∷ got Me
    ∷ got All
    ∷ (λ s. then (operation_at (at + 1) s) (λ o s. got (Operation o) s))
    ∷ []

abbrev pub expression_of : ℕ → ℕ → ℕ → List ℕ → Got Expression
expression_of k at x = slice_index_or (expressions k at) x (λ s. refuse at NoExpression)

abbrev pub expression_at : ℕ → ℕ → List ℕ → Got Expression
expression_at k at s = then (word_at at s) (expression_of k at)

abbrev pub statements : ℕ → ℕ → List (List ℕ → Got Statement)
statements k at =
    got Skip
    ∷ got Seq
    ∷ (λ s. then (variable_at k (at + 1) s) (λ x s. got (Assign x) s))
    ∷ (λ s. then (variable_at k (at + 1) s) (λ x s. got (Read x) s))
    ∷ got Write
    ∷ got Increase
    ∷ got If
    ∷ got While
    ∷ got Wait
    ∷ []

abbrev pub statement_of : ℕ → ℕ → ℕ → List ℕ → Got Statement
statement_of k at x = slice_index_or (statements k at) x (λ s. refuse at NoStatement)

abbrev pub statement_at : ℕ → ℕ → List ℕ → Got Statement
statement_at k at s = then (word_at at s) (statement_of k at)
