-- The flags of one mark: read back from its words, set, and compared with a touch.
use Rattle.std.proofs.Common.{◌≡◌, true, false, ◌⊎◌, inl, inr, arith}
use Rattle.std.proofs.lemmas.Bool.{and_cases}
use Rattle.model.specs.declared.Change.TheVariants.{Write as write, Add as add}
use Rattle.model.specs.declared.Access.{Access}
use Rattle.model.specs.declared.Access.TheVariants.{Reading as reading, Changing as changing}
use Rattle.model.specs.Races.{together}
use Rattle.ledger.specs.declared.mark.Mark.{Mark}
use Rattle.ledger.specs.Marks.{tag, untag, has, flagged, shared_mark, goes_with, admits}

-- a mark is read back from its words
pub untag_tag : (m : Mark) → untag m.first.0 (tag m) ≡ m
untag_tag m = grind arith

pub same_way : (h k : Access) → together h k ≡ true → h ≡ k
same_way h k e = grind arith

-- m' is m with the flag h
pub record With (m m' : Mark) (h : Access) : Type 0 where
  pub first : m'.first.0 ≡ m.first.0
  pub stamp : m'.stamp ≡ m.stamp
  pub shared : m'.shared ≡ m.shared
  pub adds : has m' h ≡ true
  pub keeps : (k : Access) → has m k ≡ true → has m' k ≡ true
  pub only : (k : Access) → has m' k ≡ true → (has m k ≡ true) ⊎ (k ≡ h)

pub with_flag : (m : Mark) (h : Access) → With m (flagged m h) h
with_flag m h = record { first = grind arith; stamp = grind arith; shared = grind arith; adds = grind arith; keeps = λ k e. grind arith; only = λ k e. grind arith }

pub shared_has : (m : Mark) (h : Access) → has (shared_mark m) h ≡ has m h
shared_has m h = grind arith

module _ (m : Mark) (h : Access) where
  -- a touch that a mark admits goes with every touch that the mark tells
  pub admitted : admits m h ≡ true → (k : Access) → has m k ≡ true → together k h ≡ true
  admitted e k f = grind arith

  -- .. and one that it does not admit clashes with one of them
  pub refused : admits m h ≡ false → (k : Access) × (has m k ≡ true) × (together k h ≡ false)
  refused e = elim (and_cases (goes_with m reading h) _ e) [
    | inl r ↦ (reading, grind arith, grind arith)
    | inr rest ↦ elim (and_cases (goes_with m (changing write) h) (goes_with m (changing add) h) rest) [
      | inl w ↦ (changing write, grind arith, grind arith)
      | inr a ↦ (changing add, grind arith, grind arith)
    ]
  ]
