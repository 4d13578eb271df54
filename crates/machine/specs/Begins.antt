-- How threads begin: from a text that was decoded to words that hold its threads.
use Rattle.std.specs.Prelude.{◌≡◌, ℕ, ◌≤◌, List, [], ◌∷◌, length, replicate}
use Rattle.model.specs.declared.Status.TheVariants.{Going as going}
use Rattle.model.specs.Kernel.{Stmt, Kernel}
use Rattle.model.specs.Rows.{stmt_depth}
use Rattle.model.specs.Steps.{Thread}
use Rattle.rows.specs.declared.decoder.Text.{Text}
use Rattle.rows.specs.Decoded.{Decoded}
use Rattle.machine.specs.declared.script.Script.{Script}
use Rattle.machine.specs.Stands.{Source, source, Stands}
use Rattle.machine.specs.Words.{Held}
use Rattle.machine.specs.All.{AllHeld}

-- the body of a text stands in the rows, within the limits
pub record TextStands (s : Source) (body : Stmt) : Type 0 where
  pub few : s.variables ≤ 256
  pub short : length s.rows ≤ 65536
  pub stands : Stands s 1 body
  pub shallow : stmt_depth body ≤ 256

-- the rows and the table are what `decode` left of some text, which has so many variables
pub record TextOf (rows ends : List ℕ) (variables : ℕ) : Type 0 where
  pub table : List ℕ
  pub text : Text
  pub kernel : Kernel
  pub decoded : Decoded rows table ends text kernel
  pub counts : variables ≡ text.variables

-- the script of these rows, of this table and of so many variables; where they are of a text, it stands there
pub record Scripted (rows ends : List ℕ) (variables : ℕ) (r : Script) : Type 0 where
  pub is : source r ≡ record { rows = rows; ends = ends; variables = variables }
  pub each : (t : List ℕ) (x : Text) (k : Kernel) → Decoded rows t ends x k → variables ≡ x.variables → TextStands (source r) k.body

-- the words hold a thread that begins, whatever text it runs
pub record Begun (w : List ℕ) (turns : ℕ) : Type 0 where
  pub size : length w ≡ 1024
  pub each : (s : Source) (body : Stmt) → TextStands s body → Held s w (body ∷ []) (replicate s.variables 0) turns going

-- a thread that begins, as in the definitions
abbrev pub fresh : Source → Stmt → ℕ → Thread
fresh s body turns = record { todo = body ∷ []; vars = replicate s.variables 0; left = turns; touched = []; status = going }

-- the words hold so many threads that begin, whatever text they run
pub record AllBegun (work : List ℕ) (n turns : ℕ) : Type 0 where
  pub each : (s : Source) (body : Stmt) → TextStands s body → AllHeld s work (replicate n (fresh s body turns))
