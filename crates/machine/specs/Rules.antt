-- What a step does to the words, by the head of the statement that it takes: a rule for each head.
use Rattle.std.specs.Prelude.{◌≡◌, ℕ, ◌+◌, ◌-◌, ◌<◌, ◌≤◌, cond, List, [], ◌∷◌, length, take, ◌==◌, slice_index, slice_index_or, slice_set, Some, None, Option}
use Rattle.model.specs.declared.Change.{Change}
use Rattle.model.specs.declared.Change.TheVariants.{Write as write, Add as add}
use Rattle.model.specs.declared.Access.TheVariants.{Reading as reading, Changing as changing}
use Rattle.model.specs.Kernel.{Expr, changed, value, place}
use Rattle.model.specs.Rows.{expr_depth}
use Rattle.model.specs.Steps.{Touch as ModelTouch}
use Rattle.rows.specs.declared.head.Statement.{Statement}
use Rattle.rows.specs.declared.head.Statement.TheVariants.{Skip, Seq, Assign, Read, Write, Increase, If, While, Wait}
use Rattle.machine.specs.declared.touched.Touch.{Touch}
use Rattle.machine.specs.declared.touched.Who.{Who}
use Rattle.machine.specs.Stands.{Source, ExprStands, EndsAt, end}
use Rattle.machine.specs.Words.{popped, pushed}

-- the touches that a thread then has in mind, one at most
abbrev pub touches : Option Touch → List ModelTouch
touches None = []
touches (Some t) = record { at = t.place.0; how = t.access } ∷ []

-- some expression stands at p
pub record SomeExpr (s : Source) (p : ℕ) : Type 0 where
  pub expr : Expr
  pub stands : ExprStands s p expr
  pub deep : expr_depth expr ≤ 256

-- the words of a thread that has something to do, which stands at p
pub record Busy (s : Source) (w : List ℕ) (p : ℕ) : Type 0 where
  pub size : length w ≡ 1024
  pub few : s.variables ≤ 256
  pub filled : 0 < slice_index w 258
  pub low : slice_index_or w 258 0 ≤ 256
  pub near : p < 65536

-- what a head says of the words behind it
abbrev pub Asks : Source → ℕ → Statement → Type 0
Asks s p Skip = Unit {0}
Asks s p Seq = EndsAt s (p + 1)
Asks s p (Assign x) = (x < s.variables) × SomeExpr s (p + 2)
Asks s p (Read x) = (x < s.variables) × SomeExpr s (p + 2)
Asks s p Write = EndsAt s (p + 1) × SomeExpr s (p + 1) × SomeExpr s (end s (p + 1))
Asks s p Increase = EndsAt s (p + 1) × SomeExpr s (p + 1) × SomeExpr s (end s (p + 1))
Asks s p If = EndsAt s (p + 1) × SomeExpr s (p + 1) × EndsAt s (end s (p + 1))
Asks s p While = EndsAt s (p + 1) × SomeExpr s (p + 1)
Asks s p Wait = Unit {0}

-- v is the value of whatever stands at p, to a thread whose words are w
pub record ValueOf (s : Source) (w : List ℕ) (who : Who) (p v : ℕ) : Type 0 where
  pub is : (e : Expr) → ExprStands s p e → v ≡ value who.me.0 who.all (take s.variables w) e

module _ (s : Source) (who : Who) (p : ℕ) (w w' : List ℕ) where
  pub record Assigned (x : ℕ) : Type 0 where
    pub v : ℕ
    pub is_value : ValueOf s w who (p + 2) v
    pub words_are : w' ≡ popped (slice_set w x v)

  pub record HasRead (m : List ℕ) (x : ℕ) (r : Option Touch) : Type 0 where
    pub a : ℕ
    pub is_place : ValueOf s w who (p + 2) a
    pub words_are : w' ≡ popped (slice_set w x (slice_index m (place a (length m))))
    pub touched : touches r ≡ record { at = place a (length m); how = reading } ∷ []

  pub record HasChanged (m m' : List ℕ) (c : Change) (r : Option Touch) : Type 0 where
    pub a : ℕ
    pub v : ℕ
    pub is_place : ValueOf s w who (p + 1) a
    pub is_value : ValueOf s w who (end s (p + 1)) v
    pub words_are : w' ≡ popped w
    pub memory_is : m' ≡ slice_set m (place a (length m)) (changed c (slice_index m (place a (length m))) v)
    pub touched : touches r ≡ record { at = place a (length m); how = changing c } ∷ []

  -- with test 0 the second part is to be done next, and otherwise the first
  pub record Chosen : Type 0 where
    pub test : ℕ
    pub is_test : ValueOf s w who (p + 1) test
    pub words_are : w' ≡ pushed (popped w) (cond (test == 0) (end s (end s (p + 1))) (end s (p + 1)))

  -- with test 0 the loop is done; otherwise its body stands above it, for a turn, if there is one left
  pub record Turned : Type 0 where
    pub test : ℕ
    pub is_test : ValueOf s w who (p + 1) test
    pub words_are : w' ≡ cond (test == 0) (popped w) (cond (slice_index w 256 == 0) (slice_set w 257 3) (pushed (slice_set w 256 (slice_index w 256 - 1)) (end s (p + 1))))

-- the words and the memory after a step by the statement at p, and what it touched
abbrev pub Rule : Source → Who → ℕ → List ℕ → List ℕ → List ℕ → List ℕ → Option Touch → Statement → Type 0
Rule s who p w w' m m' r Skip = (w' ≡ popped w) × (m' ≡ m) × (r ≡ None)
Rule s who p w w' m m' r Seq = (w' ≡ pushed (pushed (popped w) (end s (p + 1))) (p + 1)) × (m' ≡ m) × (r ≡ None)
Rule s who p w w' m m' r (Assign x) = Assigned s who p w w' x × (m' ≡ m) × (r ≡ None)
Rule s who p w w' m m' r (Read x) = HasRead s who p w w' m x r × (m' ≡ m)
Rule s who p w w' m m' r Write = HasChanged s who p w w' m m' write r
Rule s who p w w' m m' r Increase = HasChanged s who p w w' m m' add r
Rule s who p w w' m m' r If = Chosen s who p w w' × (m' ≡ m) × (r ≡ None)
Rule s who p w w' m m' r While = Turned s who p w w' × (m' ≡ m) × (r ≡ None)
Rule s who p w w' m m' r Wait = (w' ≡ slice_set (popped w) 257 1) × (m' ≡ m) × (r ≡ None)
