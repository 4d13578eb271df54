-- What threads do, one step at a time and in any order.
use Rattle.std.specs.Prelude.{◌≡◌, ℕ, zero, suc, Bool, true, false, cond, not, ◌&&◌, ◌||◌, List, [], ◌∷◌, ◌++◌, length, replicate, Some, ◌==◌, slice_index, slice_set}
use Rattle.std.specs.List.{slice_get}
use Rattle.model.specs.declared.Change.{Change}
use Rattle.model.specs.Chains.{Chain}
use Rattle.model.specs.declared.Access.{Access}
use Rattle.model.specs.declared.Access.TheVariants.{Reading as reading, Changing as changing}
use Rattle.model.specs.declared.Status.{Status}
use Rattle.model.specs.declared.Status.TheVariants.{Going as going, Waiting as waiting, Ended as ended, OutOfTurns as out_of_turns}
use Rattle.model.specs.Kernel.{changed, Expr, Stmt, skip, seq, assign, read, update, if, while, wait, Kernel, value, place}

pub record Touch : Type 0 where
  pub at : ℕ
  pub how : Access

abbrev pub is_going : Status → Bool
is_going going = true
is_going waiting = false
is_going ended = false
is_going out_of_turns = false

abbrev pub is_waiting : Status → Bool
is_waiting going = false
is_waiting waiting = true
is_waiting ended = false
is_waiting out_of_turns = false

-- todo: the statements still to do, the next one first; left: the turns that loops may still take;
-- touched: every touch of the memory since all last went on, the first one first
pub record Thread : Type 0 where
  pub todo : List Stmt
  pub vars : List ℕ
  pub left : ℕ
  pub touched : List Touch
  pub status : Status

pub record State : Type 0 where
  pub memory : List ℕ
  pub threads : List Thread

-- the thread goes on with other things to do, other variables and other turns left
abbrev pub goes : Thread → List Stmt → List ℕ → ℕ → Thread
goes t todo vars left = record { todo = todo; vars = vars; left = left; touched = t.touched; status = going }

abbrev pub stops : Thread → List Stmt → Status → Thread
stops t todo status = record { todo = todo; vars = t.vars; left = t.left; touched = t.touched; status = status }

-- a loop whose test holds: one turn less, or the thread stops, with the loop still to do
abbrev pub turn : Thread → Expr → Stmt → List Stmt → ℕ → Thread
turn t e p ss zero = stops t (while e p ∷ ss) out_of_turns
turn t e p ss (suc left) = goes t (p ∷ while e p ∷ ss) t.vars left

-- What a step does: to the thread alone; or it reads a place, and the thread goes on with the word
-- found there; or it changes a place by a value.
pub data Effect : Type 0 where
  own : Thread → Effect
  reads : ℕ → (ℕ → Thread) → Effect
  changes : Change → ℕ → ℕ → Thread → Effect

-- The table of effects: thread t, number i of n, on a memory of `words` words, does the statement and
-- then has ss to do.
abbrev pub effect : ℕ → ℕ → ℕ → Thread → Stmt → List Stmt → Effect
effect i n words t skip ss = own (goes t ss t.vars t.left)
effect i n words t (seq p q) ss = own (goes t (p ∷ q ∷ ss) t.vars t.left)
effect i n words t (assign x e) ss = own (goes t ss (slice_set t.vars x (value i n t.vars e)) t.left)
effect i n words t (read x e) ss = reads (place (value i n t.vars e) words) (λ w. goes t ss (slice_set t.vars x w) t.left)
effect i n words t (update c e f) ss = changes c (place (value i n t.vars e) words) (value i n t.vars f) (goes t ss t.vars t.left)
effect i n words t (if e p q) ss = own (goes t (cond (value i n t.vars e == 0) q p ∷ ss) t.vars t.left)
effect i n words t (while e p) ss = own (cond (value i n t.vars e == 0) (goes t ss t.vars t.left) (turn t e p ss t.left))
effect i n words t wait ss = own (stops t ss waiting)

-- with nothing left to do, the step ends the thread
abbrev pub next_effect : ℕ → ℕ → ℕ → Thread → List Stmt → Effect
next_effect i n words t [] = own (stops t [] ended)
next_effect i n words t (s ∷ ss) = effect i n words t s ss

abbrev pub touching : Thread → ℕ → Access → Thread
touching t a h = record { todo = t.todo; vars = t.vars; left = t.left; touched = t.touched ++ (record { at = a; how = h } ∷ []); status = t.status }

-- What an effect leaves of the thread, and of the memory m: a touch is kept in mind, whatever it finds or changes.
abbrev pub thread_after : Effect → List ℕ → Thread
thread_after (own t) m = t
thread_after (reads a t) m = touching (t (slice_index m a)) a reading
thread_after (changes c a v t) m = touching t a (changing c)

abbrev pub memory_after : Effect → List ℕ → List ℕ
memory_after (own t) m = m
memory_after (reads a t) m = m
memory_after (changes c a v t) m = slice_set m a (changed c (slice_index m a) v)

-- the state after thread i, which is t, has taken a step
abbrev pub stepped : State → ℕ → Thread → State
stepped s i t =
    let e = next_effect i (length s.threads) (length s.memory) t t.todo in
    record { memory = memory_after e s.memory; threads = slice_set s.threads i (thread_after e s.memory) }

abbrev pub none_going : List Thread → Bool
none_going [] = true
none_going (t ∷ ts) = not (is_going t.status) && none_going ts

abbrev pub some_waiting : List Thread → Bool
some_waiting [] = false
some_waiting (t ∷ ts) = is_waiting t.status || some_waiting ts

-- all that wait go on, and every thread forgets what it touched
abbrev pub released : Status → Status
released going = going
released waiting = going
released ended = ended
released out_of_turns = out_of_turns

abbrev pub all_released : List Thread → List Thread
all_released [] = []
all_released (t ∷ ts) = record { todo = t.todo; vars = t.vars; left = t.left; touched = []; status = released t.status } ∷ all_released ts

abbrev pub resumed : State → State
resumed s = record { memory = s.memory; threads = all_released s.threads }

-- One step: of any thread that is going, or, where none is going and some wait, of all that wait.
pub data Step (s : State) : State → Type 0 where
  one : (i : ℕ) (t : Thread) → slice_get s.threads i ≡ Some t → t.status ≡ going → Step s (stepped s i t)
  together : none_going s.threads ≡ true → some_waiting s.threads ≡ true → Step s (resumed s)

-- from s to u in so many steps
abbrev pub Steps : ℕ → State → State → Type 0
Steps = Chain Step

abbrev pub Reaches : State → State → Type 0
Reaches s u = (c : ℕ) × Steps c s u

-- An end: nobody is going, and nobody waits.
abbrev pub Ended : State → Type 0
Ended s = (none_going s.threads ≡ true) × (some_waiting s.threads ≡ false)

-- n threads begin the kernel on the memory m
abbrev pub begin : Kernel → ℕ → ℕ → List ℕ → State
begin k n turns m = record { memory = m; threads = replicate n (record { todo = k.body ∷ []; vars = replicate k.vars 0; left = turns; touched = []; status = going }) }
