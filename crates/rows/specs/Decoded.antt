-- What `decode` promises.
use Rattle.std.specs.Prelude.{◌≡◌, ℕ, ◌<◌, ◌≤◌, List, ◌++◌, length, drop, Result, MatchResult, ◌≢◌, slice_index}
use Rattle.model.specs.Kernel.{Kernel}
use Rattle.model.specs.Rows.{Rows, stmt_depth, OneKernel}
use Rattle.rows.specs.declared.refusals.Fault.{Fault}
use Rattle.rows.specs.declared.refusals.Fault.TheVariants.{EndsEarly, NoStatement, NoExpression, NoOperation, NoVariable, TooDeep, AfterEnd, TooManyWords, TooManyVariables, ShortTable}
use Rattle.rows.specs.declared.refusals.Refusal.{Refusal}
use Rattle.rows.specs.declared.decoder.Text.{Text}
use Rattle.rows.specs.Table.{kernel_ends, stmt_count}

-- The rows w say the kernel k. The table was t and now is t': the kernel's ends, and past the rows what
-- it was. The sizes told are the kernel's.
pub record Decoded (w t t' : List ℕ) (x : Text) (k : Kernel) : Type 0 where
  pub says : Rows w k
  pub table : t' ≡ kernel_ends k ++ drop (length w) t
  pub variables : x.variables ≡ k.vars
  pub statements : x.statements ≡ stmt_count k.body
  pub words : x.words ≡ length w
  pub deep : x.deep ≡ stmt_depth k.body

-- What a refusal's reason says of the rows at its place; `room` is the length of the table.
abbrev pub Reason : List ℕ → ℕ → ℕ → Fault → Type 0
Reason w room at EndsEarly = at ≡ length w
Reason w room at NoStatement = (at < length w) × (8 < slice_index w at)
Reason w room at NoExpression = (at < length w) × (4 < slice_index w at)
Reason w room at NoOperation = (at < length w) × (6 < slice_index w at)
Reason w room at NoVariable = (at < length w) × (slice_index w 0 ≤ slice_index w at)
Reason w room at TooDeep = at < length w
Reason w room at AfterEnd = at < length w
Reason w room at TooManyWords = (at ≡ 65536) × (at < length w)
Reason w room at TooManyVariables = (at ≡ 0) × (at < length w) × (256 < slice_index w at)
Reason w room at ShortTable = (at ≡ room) × (at < length w)

-- Rows that are refused are no text, unless it was said that the table is too short for them.
pub record Refused (w : List ℕ) (room : ℕ) (x : Refusal) : Type 0 where
  pub no_text : (x.why ≢ ShortTable) → (k : Kernel) → Rows w k → ⊥
  pub reason : Reason w room x.at x.why

pub record DecodePost (w t t' : List ℕ) (r : Result Text Refusal) : Type 0 where
  pub says : MatchResult r (λ x. (k : Kernel) × Decoded w t t' x k) (Refused w (length t))
  pub one_kernel : OneKernel
