-- How a thread lies in its 1,024 words.
use Rattle.std.specs.Prelude.{◌≡◌, ℕ, ◌+◌, ◌-◌, ◌*◌, ◌≤◌, List, [], ◌∷◌, length, take, drop, slice_index, slice_index_or, slice_set}
use Rattle.model.specs.declared.Status.{Status}
use Rattle.model.specs.declared.Status.TheVariants.{Going as going, Waiting as waiting, Ended as ended, OutOfTurns as out_of_turns}
use Rattle.model.specs.Kernel.{Stmt}
use Rattle.model.specs.Steps.{Thread}
use Rattle.model.specs.Rows.{stmt_depth}
use Rattle.machine.specs.Stands.{Source, Stands}

-- the number that stands for what a thread is at
abbrev pub status_code : Status → ℕ
status_code going = 0
status_code waiting = 1
status_code ended = 2
status_code out_of_turns = 3

abbrev pub status_of : ℕ → Status
status_of x = slice_index_or (going ∷ waiting ∷ ended ∷ []) x out_of_turns

-- the stack: the next position, without it, and with another one above it
abbrev pub top_of : List ℕ → ℕ
top_of w = slice_index w (512 + slice_index w 258 - 1)

abbrev pub popped : List ℕ → List ℕ
popped w = slice_set w 258 (slice_index w 258 - 1)

abbrev pub pushed : List ℕ → ℕ → List ℕ
pushed w p = slice_set (slice_set w (512 + slice_index w 258) p) 258 (slice_index w 258 + 1)

-- From 512 on stand the positions of the statements, the next one last. Each is shallow enough for what
-- lies below it, so that the stack stays within 256 words.
abbrev pub Stack : Source → List ℕ → List Stmt → Type 0
Stack s w [] = Unit {0}
Stack s w (a ∷ rest) = Stands s (slice_index w (512 + length rest)) a × (stmt_depth a + length rest ≤ 256) × Stack s w rest

-- The words hold a thread's statements, variables, turns and status. What it touched is not kept here.
pub record Held (s : Source) (w : List ℕ) (todo : List Stmt) (vars : List ℕ) (left : ℕ) (status : Status) : Type 0 where
  pub size : length w ≡ 1024
  pub few : s.variables ≤ 256
  pub short : length s.rows ≤ 65536
  pub vars_are : vars ≡ take s.variables w
  pub left_is : left ≡ slice_index w 256
  pub status_is : status_code status ≡ slice_index w 257
  pub height_is : length todo ≡ slice_index w 258
  pub stack : Stack s w todo

abbrev pub Holds : Source → List ℕ → Thread → Type 0
Holds s w t = Held s w t.todo t.vars t.left t.status

-- the words of thread j, among those of all
abbrev pub part : ℕ → List ℕ → List ℕ
part j work = take 1024 (drop (1024 * j) work)
