-- Every step makes a state cheaper, so that no order goes on for ever.
use Rattle.std.proofs.Common.{◌≡◌, ℕ, zero, suc, ◌+◌, ◌*◌, ◌<◌, ◌≤◌, Bool, true, false, cond, ◌||◌, eqb, List, [], ◌∷◌, length, set, Some, sym, refl, ap, subst, mul-le-mul_left, arith}
use Rattle.std.specs.List.{slice_get}
use Rattle.model.specs.declared.Status.{Status}
use Rattle.model.specs.declared.Status.TheVariants.{Going as going, Waiting as waiting, Ended as ended, OutOfTurns as out_of_turns}
use Rattle.model.specs.Kernel.{bit, Expr, Stmt, skip, seq, assign, read, update, if, while, wait, value}
use Rattle.model.specs.Steps.{is_waiting, Thread, State, goes, turn, next_effect, thread_after, some_waiting, released, all_released, Step, one, together, Steps}
use Rattle.model.specs.Orders.{Ends}

-- no statement takes more steps, with so many turns left
abbrev cost : ℕ → Stmt → ℕ
cost left skip = 1
cost left (seq p q) = 1 + (cost left p + cost left q)
cost left (assign x e) = 1
cost left (read x e) = 1
cost left (update c e f) = 1
cost left (if e p q) = 1 + (cost left p + cost left q)
cost left (while e p) = 1 + left * (1 + cost left p)
cost left wait = 2

abbrev costs : ℕ → List Stmt → ℕ
costs left [] = 0
costs left (p ∷ ps) = cost left p + costs left ps

abbrev status_cost : Status → ℕ
status_cost going = 1
status_cost waiting = 2
status_cost ended = 0
status_cost out_of_turns = 0

abbrev thread_cost : Thread → ℕ
thread_cost t = costs t.left t.todo + status_cost t.status

abbrev threads_cost : List Thread → ℕ
threads_cost [] = 0
threads_cost (t ∷ ts) = thread_cost t + threads_cost ts

abbrev pub state_cost : State → ℕ
state_cost s = threads_cost s.threads

cost_falls : (left : ℕ) (p : Stmt) → cost left p ≤ cost (suc left) p
cost_falls left skip = omega arith
cost_falls left (seq p q) = omega (arith, cost_falls left p, cost_falls left q)
cost_falls left (assign x e) = omega arith
cost_falls left (read x e) = omega arith
cost_falls left (update c e f) = omega arith
cost_falls left (if e p q) = omega (arith, cost_falls left p, cost_falls left q)
cost_falls left (while e p) = omega (arith, mul-le-mul_left left (cost_falls left p))
cost_falls left wait = omega arith

costs_fall : (left : ℕ) (ps : List Stmt) → costs left ps ≤ costs (suc left) ps
costs_fall left [] = omega arith
costs_fall left (p ∷ ps) = omega (arith, cost_falls left p, costs_fall left ps)

chosen_cheaper : (b : Bool) (left : ℕ) (p q : Stmt) → cost left (cond b q p) ≤ cost left p + cost left q
chosen_cheaper true left p q = omega arith
chosen_cheaper false left p q = omega arith

turn_cheaper : (t : Thread) (e : Expr) (p : Stmt) (ss : List Stmt) (left : ℕ) → t.left ≡ left → thread_cost (turn t e p ss left) < costs left (while e p ∷ ss) + 1
turn_cheaper t e p ss zero is = subst (λ l. costs l (while e p ∷ ss) + 0 < costs 0 (while e p ∷ ss) + 1) (sym is) (omega arith)
turn_cheaper t e p ss (suc left) is = omega (arith, cost_falls left p, mul-le-mul_left left (cost_falls left p), costs_fall left ss)

loop_cheaper : (b : Bool) (t : Thread) (e : Expr) (p : Stmt) (ss : List Stmt) → thread_cost (cond b (goes t ss t.vars t.left) (turn t e p ss t.left)) < costs t.left (while e p ∷ ss) + 1
loop_cheaper true t e p ss = omega arith
loop_cheaper false t e p ss = turn_cheaper t e p ss t.left refl

step_cheaper : (i n words : ℕ) (t : Thread) (ss : List Stmt) (m : List ℕ) → thread_cost (thread_after (next_effect i n words t ss) m) < costs t.left ss + 1
step_cheaper i n words t [] m = omega arith
step_cheaper i n words t (skip ∷ ss) m = omega arith
step_cheaper i n words t (seq p q ∷ ss) m = omega arith
step_cheaper i n words t (assign x e ∷ ss) m = omega arith
step_cheaper i n words t (read x e ∷ ss) m = omega arith
step_cheaper i n words t (update c e f ∷ ss) m = omega arith
step_cheaper i n words t (if e p q ∷ ss) m = omega (arith, chosen_cheaper (eqb (value i n t.vars e) 0) t.left p q)
step_cheaper i n words t (while e p ∷ ss) m = loop_cheaper (eqb (value i n t.vars e) 0) t e p ss
step_cheaper i n words t (wait ∷ ss) m = omega arith

set_cheaper : (ts : List Thread) (i : ℕ) (t u : Thread) → slice_get ts i ≡ Some t → thread_cost u < thread_cost t → threads_cost (set ts i u) < threads_cost ts
set_cheaper [] i t u is h = let z : ◌≡◌ {A = ℕ} 0 1 = cc in omega arith
set_cheaper (v ∷ ts) zero t u is h = let e : v ≡ t = cc in omega (arith, ap thread_cost e)
set_cheaper (v ∷ ts) (suc i) t u is h = omega (arith, set_cheaper ts i t u is h)

released_cheaper : (st : Status) → status_cost (released st) + bit (is_waiting st) ≤ status_cost st
released_cheaper going = omega arith
released_cheaper waiting = omega arith
released_cheaper ended = omega arith
released_cheaper out_of_turns = omega arith

bit_or : (a b : Bool) → bit (a || b) ≤ bit a + bit b
bit_or true b = omega arith
bit_or false b = omega arith

all_released_cheaper : (ts : List Thread) → threads_cost (all_released ts) + bit (some_waiting ts) ≤ threads_cost ts
all_released_cheaper [] = omega arith
all_released_cheaper (t ∷ ts) = omega (arith, released_cheaper t.status, bit_or (is_waiting t.status) (some_waiting ts), all_released_cheaper ts)

pub cheaper : {s u : State} → Step s u → state_cost u < state_cost s
cheaper {s} (one i t is g) = set_cheaper s.threads i t _ is (omega (arith, step_cheaper i (length s.threads) (length s.memory) t t.todo s.memory, ap status_cost g))
cheaper {s} (together none some) = omega (arith, all_released_cheaper s.threads, ap bit some)

few_steps : (c : ℕ) (s u : State) → Steps c s u → c + state_cost u ≤ state_cost s
few_steps zero s u p = omega (arith, ap state_cost p)
few_steps (suc c) s u p = omega (arith, cheaper p.1, few_steps c p.0 u p.2)

pub ends : Ends
ends s = (state_cost s, λ c u p. omega (arith, few_steps c s u p))
