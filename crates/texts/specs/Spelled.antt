-- The words that expressions and statements begin with, and how many parts are in them, as docs/KERNELS.md lists them.
use Rattle.std.specs.Prelude.{ℕ, List, [], ◌∷◌, ◌++◌}
use Rattle.model.specs.declared.Op.{Op}
use Rattle.model.specs.Rows.{op_code, change_code}
use Rattle.texts.specs.declared.spell.Leaf.{Leaf}
use Rattle.texts.specs.declared.spell.Leaf.TheVariants.{Number, Variable, Me, All, Nothing, Wait}
use Rattle.texts.specs.declared.spell.Head.{Head}
use Rattle.texts.specs.declared.spell.Head.TheVariants.{Operation, Two, Set, Read, Update, If, While}

-- all the words of a leaf
abbrev pub leaf_row : Leaf → List ℕ
leaf_row (Number n) = 0 ∷ n ∷ []
leaf_row (Variable x) = 1 ∷ x ∷ []
leaf_row Me = 2 ∷ []
leaf_row All = 3 ∷ []
leaf_row Nothing = 0 ∷ []
leaf_row Wait = 8 ∷ []

-- the words before the parts in it
abbrev pub head_row : Head → List ℕ
head_row (Operation o) = 4 ∷ op_code o ∷ []
head_row Two = 1 ∷ []
head_row (Set x) = 2 ∷ x ∷ []
head_row (Read x) = 3 ∷ x ∷ []
head_row (Update c) = change_code c ∷ []
head_row If = 6 ∷ []
head_row While = 7 ∷ []

-- how many parts are in it
abbrev pub parts_in : Head → ℕ
parts_in (Operation o) = 2
parts_in Two = 2
parts_in (Set x) = 1
parts_in (Read x) = 1
parts_in (Update c) = 2
parts_in If = 3
parts_in While = 2

-- what stands in its place where a page has no room for it
abbrev pub instead_of : Head → Leaf
instead_of (Operation o) = Me
instead_of Two = Nothing
instead_of (Set x) = Nothing
instead_of (Read x) = Nothing
instead_of (Update c) = Nothing
instead_of If = Nothing
instead_of While = Nothing

-- an operation on two leaves
abbrev pub operation_row : Op → Leaf → Leaf → List ℕ
operation_row o a b = head_row (Operation o) ++ (leaf_row a ++ leaf_row b)
