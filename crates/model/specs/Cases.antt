-- Worked cases: what the definitions come to on small kernels.
use Rattle.std.specs.Prelude.{◌≡◌, ℕ, zero, suc, true, false, List, [], ◌∷◌, length, Some, None, Option}
use Rattle.std.specs.List.{slice_get}
use Rattle.model.specs.declared.Change.TheVariants.{Write as write, Add as add}
use Rattle.model.specs.declared.Access.TheVariants.{Reading as reading, Changing as changing}
use Rattle.model.specs.declared.Status.{Status}
use Rattle.model.specs.declared.Status.TheVariants.{Going as going, Waiting as waiting, Ended as ended, OutOfTurns as out_of_turns}
use Rattle.model.specs.declared.Op.TheVariants.{Add, Sub, Mul, Div, Rem, Less, Same}
use Rattle.model.specs.Kernel.{operate, num, var, me, all, skip, seq, assign, read, update, if, while, wait, Kernel, place}
use Rattle.model.specs.Steps.{Touch, Thread, State, stepped, Step, begin}
use Rattle.model.specs.Races.{together, Race}
use Rattle.model.specs.Rows.{stmt_row}
use Rattle.model.specs.Orders.{after}

-- each thread reads its own word, waits, and adds it to word 0
abbrev pub sum : Kernel
sum = record { vars = 1; body = seq (read 0 me) (seq wait (update add (num 0) (var 0))) }

abbrev pub summed : ℕ → Thread
summed v = record { todo = []; vars = v ∷ []; left = 9; touched = record { at = 0; how = changing add } ∷ []; status = ended }

abbrev pub sum_without_wait : Kernel
sum_without_wait = record { vars = 1; body = seq (read 0 me) (update add (num 0) (var 0)) }

-- each thread adds 1 to word 0 as often as it may
abbrev pub count : Kernel
count = record { vars = 0; body = while (num 1) (update add (num 0) (num 1)) }

abbrev pub counted : Thread
counted = record { todo = count.body ∷ []; vars = []; left = 0; touched = record { at = 0; how = changing add } ∷ []; status = out_of_turns }

-- so many steps of thread i alone
abbrev pub step_of : State → ℕ → Option Thread → State
step_of s i None = s
step_of s i (Some t) = stepped s i t

abbrev pub alone : ℕ → ℕ → State → State
alone i zero s = s
alone i (suc c) s = alone i c (step_of s i (slice_get s.threads i))

abbrev pub touch : Touch
touch = record { at = 0; how = reading }

-- a thread that is at a status, with these touches in mind, and two such
abbrev pub at : Status → List Touch → Thread
at status touched = record { todo = skip ∷ []; vars = []; left = 0; touched = touched; status = status }

abbrev pub two : Thread → Thread → State
two t u = record { memory = []; threads = t ∷ u ∷ [] }

pub record Cases : Type 0 where
  pub add_wraps : operate Add 4294967295 2 ≡ 1
  pub sub_wraps : operate Sub 0 1 ≡ 4294967295
  pub mul_wraps : operate Mul 65537 65537 ≡ 131073
  pub div_rounds : operate Div 9 2 ≡ 4
  pub div_by_zero : operate Div 9 0 ≡ 0
  pub rem_rests : operate Rem 9 4 ≡ 1
  pub rem_by_zero : operate Rem 9 0 ≡ 9
  pub less_has_no_sign : operate Less 1 4294967295 ≡ 1
  pub less_is_strict : operate Less 3 3 ≡ 0
  pub same_tells : operate Same 3 3 ≡ 1
  pub same_tells_apart : operate Same 3 4 ≡ 0
  pub place_modulo : place 7 5 ≡ 2
  pub place_of_none : place 7 0 ≡ 0
  pub sum_rows : length (stmt_row sum.body) ≡ 11
  -- thread 1 of the sum on 5, 7: it reads its word, and then waits
  pub sum_reads : slice_get (alone 1 2 (begin sum 2 9 (5 ∷ 7 ∷ []))).threads 1 ≡ Some (record { todo = seq wait (update add (num 0) (var 0)) ∷ []; vars = 7 ∷ []; left = 9; touched = record { at = 1; how = reading } ∷ []; status = going })
  pub sum_waits : slice_get (alone 1 4 (begin sum 2 9 (5 ∷ 7 ∷ []))).threads 1 ≡ Some (record { todo = update add (num 0) (var 0) ∷ []; vars = 7 ∷ []; left = 9; touched = record { at = 1; how = reading } ∷ []; status = waiting })
  -- .. and one thread after the other, to the end; without the wait, thread 0 reads what thread 1 adds to
  pub sum_ends : after 13 (begin sum 2 9 (5 ∷ 7 ∷ [])) ≡ record { memory = 17 ∷ 7 ∷ []; threads = summed 5 ∷ summed 7 ∷ [] }
  pub sum_clashes : Race (after 7 (begin sum_without_wait 2 9 (5 ∷ 7 ∷ []))) 0 1 0
  -- a thread knows its number and how many there are, and its variables begin at 0
  pub writes : (alone 1 1 (begin (record { vars = 1; body = update write me all }) 2 0 (5 ∷ 6 ∷ []))).memory ≡ 5 ∷ 2 ∷ []
  pub writes_a_variable : (alone 0 1 (begin (record { vars = 1; body = update write (num 1) (var 0) }) 2 0 (5 ∷ 6 ∷ []))).memory ≡ 5 ∷ 0 ∷ []
  pub assigns : slice_get (alone 0 1 (begin (record { vars = 2; body = assign 1 (num 8) }) 1 0 [])).threads 0 ≡ Some (record { todo = []; vars = 0 ∷ 8 ∷ []; left = 0; touched = []; status = going })
  -- the first part of an `if` is for what is not 0, and a loop whose test is 0 is done
  pub if_not_zero : slice_get (alone 0 1 (begin (record { vars = 0; body = if (num 2) wait skip }) 1 0 [])).threads 0 ≡ Some (record { todo = wait ∷ []; vars = []; left = 0; touched = []; status = going })
  pub if_zero : slice_get (alone 0 1 (begin (record { vars = 0; body = if (num 0) wait skip }) 1 0 [])).threads 0 ≡ Some (record { todo = skip ∷ []; vars = []; left = 0; touched = []; status = going })
  pub while_zero : slice_get (alone 0 1 (begin (record { vars = 0; body = while (num 0) skip }) 1 3 [])).threads 0 ≡ Some (record { todo = []; vars = []; left = 3; touched = []; status = going })
  -- which touches go together
  pub reads_together : together reading reading ≡ true
  pub adds_together : together (changing add) (changing add) ≡ true
  pub add_and_read : together (changing add) reading ≡ false
  pub read_and_add : together reading (changing add) ≡ false
  pub write_and_write : together (changing write) (changing write) ≡ false
  pub write_and_add : together (changing write) (changing add) ≡ false
  pub add_and_write : together (changing add) (changing write) ≡ false
  pub write_and_read : together (changing write) reading ≡ false
  pub read_and_write : together reading (changing write) ≡ false
  -- a touch is of the place modulo the number of words, and is told where there are no words at all
  pub touch_modulo : slice_get (alone 0 1 (begin (record { vars = 1; body = read 0 (num 7) }) 1 0 (0 ∷ 0 ∷ 6 ∷ 0 ∷ 0 ∷ []))).threads 0 ≡ Some (record { todo = []; vars = 6 ∷ []; left = 0; touched = record { at = 2; how = reading } ∷ []; status = going })
  pub touch_of_none : Race (after 3 (begin (record { vars = 0; body = update write (num 7) me }) 2 0 [])) 0 1 0
  -- while a thread is going nothing is forgotten; a thread that has stopped is not waited for, and then all is
  pub not_yet : (u : State) → Step (two (at waiting (touch ∷ [])) (at going [])) u → slice_get u.threads 0 ≡ Some (at waiting (touch ∷ []))
  pub none_waits_for_ended : Step (two (at waiting (touch ∷ [])) (at ended (touch ∷ []))) (two (at going []) (at ended []))
  pub none_waits_for_stopped : Step (two (at out_of_turns (touch ∷ [])) (at waiting (touch ∷ []))) (two (at out_of_turns []) (at going []))
  -- with one turn each, both threads add once, and then stand at their loops
  pub own_turns : after 6 (begin count 2 1 (0 ∷ [])) ≡ record { memory = 2 ∷ []; threads = counted ∷ counted ∷ [] }
