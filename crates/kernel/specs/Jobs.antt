-- When a job is run, and when it is refused.
use Rattle.std.specs.Prelude.{ℕ, ◌*◌, ◌≤◌, List, length}
use Rattle.model.specs.Kernel.{Kernel}
use Rattle.model.specs.Rows.{Rows}
use Rattle.rows.specs.declared.decoder.Text.{Text}
use Rattle.ledger.specs.Runs.{ledger_words}
use Rattle.kernel.specs.declared.job.Lent.{Lent}
use Rattle.kernel.specs.declared.job.Sizes.{Sizes}
use Rattle.kernel.specs.declared.job.Refused.{Refused}
use Rattle.kernel.specs.declared.job.Refused.TheVariants.{Few, NoText}
use Rattle.kernel.specs.Ran.{SomeText}

abbrev pub sizes_of : Lent → ℕ → Sizes
sizes_of l states = record { ends = length l.ends.now; states = states; work = length l.work.now; marks = length l.marks.now }

-- enough for so many words of rows and of memory, and n threads
abbrev pub Enough : ℕ → ℕ → ℕ → Sizes → Type 0
Enough rows memory n l = (rows ≤ l.ends) × (n ≤ l.states) × (1024 * n ≤ l.work) × (ledger_words memory ≤ l.marks)

-- enough is lent for the rows, which are a text with the table t
pub record Readied (w : List ℕ) (memory n : ℕ) (l : Sizes) (t : List ℕ) (x : Text) : Type 0 where
  pub enough : Enough (length w) memory n l
  pub text : SomeText (record { rows = w; ends = t; variables = x.variables })

-- too little is lent, or the rows are no text
abbrev pub Refuses : List ℕ → ℕ → ℕ → Sizes → Refused → Type 0
Refuses w memory n l Few = Enough (length w) memory n l → ⊥
Refuses w memory n l (NoText x) = (k : Kernel) → Rows w k → ⊥
