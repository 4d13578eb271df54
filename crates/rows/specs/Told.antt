-- What a function of the reader promises: its answer, the table, and the plain bounds that follow.
use Rattle.std.specs.Prelude.{◌≡◌, ℕ, zero, suc, ◌+◌, ◌≤◌, List, [], ◌∷◌, length, drop, IfOk, Result, slice_set}
use Rattle.rows.specs.declared.head.Words.{Words}
use Rattle.rows.specs.declared.part.Part.{Part}
use Rattle.rows.specs.declared.refusals.Refusal.{Refusal}
use Rattle.rows.specs.Heads.{Got, got, bad, answer}
use Rattle.rows.specs.Parts.{Sort, part_of}
use Rattle.rows.specs.Reader.{Reader}

-- A table with some of these ends written into it from `at` on: 0 leaves what stands there.
abbrev pub entered : List ℕ → ℕ → ℕ → List ℕ
entered t at zero = t
entered t at (suc x) = slice_set t at (suc x)

abbrev pub marked : List ℕ → ℕ → List ℕ → List ℕ
marked t at [] = t
marked t at (x ∷ xs) = marked (entered t at x) (at + 1) xs

-- once a part that begins at `at` is read, its ends stand in the table; of a refusal nothing is said
abbrev pub Marked : {A : Type 0} → Sort A → Got A → ℕ → List ℕ → List ℕ → Type 0
Marked S (got a s) at t t' = t' ≡ marked t at (S.ends at a)
Marked S (bad x) at t t' = Unit {0}

-- a part that begins at `at` in n words, at most d deep
pub record Within (n d at : ℕ) (p : Part) : Type 0 where
  pub begins : at + p.statements ≤ p.end
  pub ends : p.end ≤ n
  pub shallow : p.deep ≤ d

pub record Told {A : Type 0} (S : Sort A) (g : Got A) (n d at : ℕ) (t t' : List ℕ) (r : Result Part Refusal) : Type 0 where
  pub value : r ≡ answer (part_of S at) g
  pub table : Marked S g at t t'
  pub within : IfOk r (Within n d at)

-- the same of what is read from the words of a text, by its number of variables
abbrev pub ToldOf : {A : Type 0} → Sort A → (ℕ → Reader A) → Words → ℕ → ℕ → List ℕ → List ℕ → Result Part Refusal → Type 0
ToldOf S f text d at t t' r = Told S (f text.variables at (drop at text.rows.now)) (length text.rows.now) d at t t' r
