-- The call `run` over numbers: its answer and its clash.
use Rattle.std.specs.Prelude.{◌≡◌, List, [], ◌∷◌, ℕ}
use Rattle.kernel.specs.declared.outcome.Ran.{Ran}
use Rattle.kernel.specs.declared.outcome.Ran.TheVariants.{Even, Uneven, NoKernel, Few}
use Rattle.kernel.specs.Says.{Clash, RanPost}

abbrev pub number : Ran → ℕ
number Even = 0
number (Uneven x) = 1
number NoKernel = 2
number Few = 3

-- the two threads and the place in the first three numbers, where there are three
abbrev pub with_clash : Clash → List ℕ → List ℕ
with_clash x [] = []
with_clash x (a ∷ []) = a ∷ []
with_clash x (a ∷ (b ∷ [])) = a ∷ b ∷ []
with_clash x (a ∷ (b ∷ (c ∷ rest))) = x.first.0 ∷ x.second.0 ∷ x.place.0 ∷ rest

-- what is told of an answer: a clash, and nothing of any other
abbrev pub told : Ran → List ℕ → List ℕ
told Even l = l
told (Uneven x) l = with_clash x l
told NoKernel l = l
told Few l = l

-- `answer` and the numbers told', which were l before, are those of what `run` answers.
pub record Exported (r : List ℕ) (n turns : ℕ) (m m' o o' : List ℕ) (w : ℕ) (l l' : List ℕ) (answer : ℕ) : Type 0 where
  pub ran : Ran
  pub post : RanPost r n turns m m' o o' w ran
  pub answer_is : answer ≡ number ran
  pub clash_is : l' ≡ told ran l
