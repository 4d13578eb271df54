-- When two threads clash.
use Rattle.std.specs.Prelude.{◌≡◌, ℕ, Bool, true, false, ◌&&◌, List, ◌∷◌, Some}
use Rattle.std.specs.List.{slice_get}
use Rattle.model.specs.declared.Change.{Change}
use Rattle.model.specs.declared.Change.TheVariants.{Write as write, Add as add}
use Rattle.model.specs.declared.Access.{Access}
use Rattle.model.specs.declared.Access.TheVariants.{Reading as reading, Changing as changing}
use Rattle.model.specs.Kernel.{commutes, Kernel}
use Rattle.model.specs.Steps.{Touch, Thread, State, Reaches, begin}

abbrev pub same_change : Change → Change → Bool
same_change write write = true
same_change write add = false
same_change add write = false
same_change add add = true

-- Two touches of a place go together if both read, or if both change the word in one way that commutes.
-- So a write clashes with everything, and a read with an add.
abbrev pub together : Access → Access → Bool
together reading reading = true
together reading (changing d) = false
together (changing c) reading = false
together (changing c) (changing d) = same_change c d && commutes c

pub data In (t : Touch) : List Touch → Type 0 where
  here : {ts : List Touch} → In t (t ∷ ts)
  there : {u : Touch} {ts : List Touch} → In t ts → In t (u ∷ ts)

-- Threads i and j clash at place a: since all last went on, each has touched it, in ways that don't go together.
pub record Race (s : State) (i j a : ℕ) : Type 0 where
  pub differ : i ≡ j → ⊥
  pub t : Thread
  pub u : Thread
  pub is_t : slice_get s.threads i ≡ Some t
  pub is_u : slice_get s.threads j ≡ Some u
  pub how_t : Access
  pub how_u : Access
  pub by_t : In (record { at = a; how = how_t }) t.touched
  pub by_u : In (record { at = a; how = how_u }) u.touched
  pub apart : together how_t how_u ≡ false

-- some order of steps leads to a clash
abbrev pub Racy : Kernel → ℕ → ℕ → List ℕ → Type 0
Racy k n turns m = (s : State) × (i : ℕ) × (j : ℕ) × (a : ℕ) × Reaches (begin k n turns m) s × Race s i j a
