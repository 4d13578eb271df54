-- Words as they are written into a file, and that they are read back.
use Rattle.std.specs.Prelude.{◌≡◌, ℕ, ◌<◌, List, [], ◌∷◌, ◌++◌, Some, decimal}
use Rattle.words.specs.Scan.{numeral, scanned}
use Rattle.words.specs.declared.scan.Mode.TheVariants.{Between}

abbrev pub AllWords : List ℕ → Type 0
AllWords [] = Unit {0}
AllWords (w ∷ ws) = (w < 4294967296) × AllWords ws

-- Words in decimal, one to a line.
abbrev pub listing : List ℕ → List ℕ
listing [] = []
listing (w ∷ ws) = decimal w ++ (10 ∷ listing ws)

-- What is written as a list of words is read as these words.
abbrev pub ListingsReadBack : Type 0
ListingsReadBack = (ws : List ℕ) → AllWords ws → scanned Between [] (listing ws) ≡ (Between, ws)

-- A word written as the value of an option is read as this word.
abbrev pub NumeralsReadBack : Type 0
NumeralsReadBack = (w : ℕ) → w < 4294967296 → numeral (decimal w) ≡ Some w
