-- Each rule on the words is the rule of the definitions, for every thread that the words hold.
use Rattle.std.proofs.Common.{◌≡◌, ℕ, zero, suc, ◌+◌, ◌-◌, ◌<◌, ◌≤◌, max, Bool, true, false, cond, eqb, List, [], ◌∷◌, ◌++◌, length, get_or, set, sym, refl, ap, ◌∙◌, subst, ap₂, append-nil, arith, Option, None}
use Rattle.std.proofs.lemmas.Bool.{eq-eqb, ne_eqb, cond-true, cond-false}
use Rattle.model.specs.declared.Change.{Change}
use Rattle.model.specs.declared.Change.TheVariants.{Write as write, Add as add}
use Rattle.model.specs.declared.Access.TheVariants.{Changing as changing, Reading as reading}
use Rattle.model.specs.declared.Status.TheVariants.{Going as going, Waiting as waiting, Ended as ended, OutOfTurns as out_of_turns}
use Rattle.model.specs.Kernel.{Expr, changed, Stmt, skip, seq, assign, read, update, if, while, wait, value, place}
use Rattle.model.specs.Rows.{expr_depth, stmt_depth}
use Rattle.model.specs.Steps.{Effect, own, Thread, goes, stops, turn, effect, next_effect}
use Rattle.rows.specs.declared.head.Statement.{Statement}
use Rattle.machine.specs.declared.touched.Touch.{Touch}
use Rattle.machine.specs.declared.touched.Who.{Who}
use Rattle.machine.specs.Stands.{Source, ExprStands, Stands, end, StmtHead, statement_at}
use Rattle.machine.specs.Words.{Held, Holds, popped, pushed, top_of}
use Rattle.machine.specs.Rules.{touches, SomeExpr, Busy, Asks, ValueOf, HasChanged, Rule}
use Rattle.machine.specs.Stepped.{CanStep, Done, Stepped}
use Rattle.machine.proofs.Heads.{stmt_head, stmt_head_of, stmt_says}
use Rattle.machine.proofs.Held.{height_low, top_stands, set_left, set_status, set_variable, pops, pushes}

some_expr : (s : Source) (p : ℕ) (e : Expr) → ExprStands s p e → expr_depth e ≤ 256 → SomeExpr s p
some_expr s p e stands deep = record { expr = e; stands = stands; deep = deep }

-- what stands somewhere has behind its head what the rule asks for
pub asked : (s : Source) (p : ℕ) (a : Stmt) → Stands s p a → stmt_depth a ≤ 256 → Asks s p (stmt_head_of a)
asked s p skip h deep = tt
asked s p (seq a b) h deep = h.1
asked s p (assign x e) h deep = (h.2, some_expr s (p + 2) e h.3 (omega arith))
asked s p (read x e) h deep = (h.2, some_expr s (p + 2) e h.3 (omega arith))
asked s p (update write e f) h deep = (h.1, some_expr s (p + 1) e h.2 (omega arith), some_expr s (end s (p + 1)) f h.3 (omega arith))
asked s p (update add e f) h deep = (h.1, some_expr s (p + 1) e h.2 (omega arith), some_expr s (end s (p + 1)) f h.3 (omega arith))
asked s p (if e a b) h deep = (h.1, some_expr s (p + 1) e h.2 (omega arith), h.3)
asked s p (while e a) h deep = (h.1, some_expr s (p + 1) e h.2 (omega arith))
asked s p wait h deep = tt

-- one of two parts stands where it was chosen
chosen_stands : (s : Source) (b : Bool) (p q : ℕ) (x y : Stmt) → Stands s p x → Stands s q y → Stands s (cond b p q) (cond b x y)
chosen_stands s true p q x y h k = h
chosen_stands s false p q x y h k = k

chosen_deep : (b : Bool) (x y : Stmt) → stmt_depth (cond b x y) ≤ max (stmt_depth x) (stmt_depth y)
chosen_deep true x y = omega arith
chosen_deep false x y = omega arith

module _ (s : Source) (who : Who) (w w' m m' : List ℕ) (r : Option Touch) (t : Thread) where
  abbrev Value : Expr → ℕ
  Value e = value who.me.0 who.all t.vars e

  abbrev Does : Effect → Type 0
  Does e = Done s w' m m' r t e

  -- a step that touches nothing
  own_done : {w'' : List ℕ} (u : Thread) → u.touched ≡ t.touched → w' ≡ w'' → (m' ≡ m) → (r ≡ None) → Holds s w'' u → Does (own u)
  own_done u same words memory nothing h = record {
    holds = subst (λ w. Holds s w u) (sym words) h;
    memory_is = memory;
    touched = same ∙ sym (append-nil t.touched) ∙ ap (λ r. t.touched ++ touches r) (sym nothing);
  }

  -- the value that the code found, to the thread that the words hold
  valued : {todo : List Stmt} {p v : ℕ} (e : Expr) → Held s w todo t.vars t.left going → ValueOf s w who p v → ExprStands s p e → v ≡ Value e
  valued e h is stands = is.is e stands ∙ ap (λ vs. value who.me.0 who.all vs e) (sym h.vars_are)

  -- the words of a loop whose test holds: one turn less, or none
  abbrev again : ℕ → List ℕ
  again q = cond (eqb (get_or w 256 0) 0) (set w 257 3) (pushed (set w 256 (get_or w 256 0 - 1)) q)

  turned : (e : Expr) (a : Stmt) (ss : List Stmt) (q left : ℕ) → t.left ≡ left → Stands s q a → Held s w (while e a ∷ ss) t.vars t.left going → Holds s (again q) (turn t e a ss left)
  turned e a ss q zero is stands h = subst (λ w. Held s w (while e a ∷ ss) t.vars t.left out_of_turns) (sym (cond-true (eqb (get_or w 256 0) 0) _ _ (eq-eqb (get_or w 256 0) 0 (sym h.left_is ∙ is)))) (set_status out_of_turns h)
  turned e a ss q (suc left) is stands h =
      subst (λ w. Held s w (a ∷ while e a ∷ ss) t.vars left going) (sym (cond-false (eqb (get_or w 256 0) 0) _ _ (ne_eqb (get_or w 256 0) 0 (λ e. omega (arith, h.left_is)))))
      (pushes q a stands (omega (arith, h.stack.1)) (subst (λ l. Held s (set w 256 (get_or w 256 0 - 1)) (while e a ∷ ss) t.vars l going) (omega (arith, h.left_is)) (set_left (get_or w 256 0 - 1) h)))

  module _ (p : ℕ) (ss : List Stmt) where
    did : (st : Stmt) → Stands s p st → Held s w (st ∷ ss) t.vars t.left going → Rule s who p w w' m m' r (stmt_head_of st) → Does (effect who.me.0 who.all (length m) t st ss)
    did skip at h rule = own_done (goes t ss t.vars t.left) refl rule.0 rule.1 rule.2 (pops h)
    did (seq a b) at h rule =
        own_done (goes t (a ∷ b ∷ ss) t.vars t.left) refl rule.0 rule.1 rule.2
        (pushes (p + 1) a at.2 (omega (arith, h.stack.1)) (pushes (end s (p + 1)) b at.3 (omega (arith, h.stack.1)) (pops h)))
    did (assign x e) at h rule =
        let v_is = valued e h rule.0.is_value at.3 in
        own_done (goes t ss (set t.vars x (Value e)) t.left) refl (rule.0.words_are ∙ ap (λ v. popped (set w x v)) v_is) rule.1 rule.2 (pops (set_variable x (Value e) at.2 h))
    did (read x e) at h rule =
        let place_is = ap (λ a. place a (length m)) (valued e h rule.0.is_place at.3) in
        let found = get_or m (place (Value e) (length m)) 0 in
        record {
          holds = subst (λ w. Held s w ss (set t.vars x found) t.left going) (sym (rule.0.words_are ∙ ap (λ a. popped (set w x (get_or m a 0))) place_is)) (pops (set_variable x found at.2 h));
          memory_is = rule.1;
          touched = ap (λ l. t.touched ++ l) (sym (rule.0.touched ∙ ap (λ a. record { at = a; how = reading } ∷ []) place_is));
        }
    did (update c e f) at h rule = updated c (change_rule c rule)
      where
        change_rule : (c : Change) → Rule s who p w w' m m' r (stmt_head_of (update c e f)) → HasChanged s who p w w' m m' c r
        change_rule write rule = rule
        change_rule add rule = rule

        updated : (c : Change) → HasChanged s who p w w' m m' c r → Does (effect who.me.0 who.all (length m) t (update c e f) ss)
        updated c rule =
            let place_is = ap (λ a. place a (length m)) (valued e h rule.is_place at.2) in
            let v_is = valued f h rule.is_value at.3 in
            record {
              holds = subst (λ w. Held s w ss t.vars t.left going) (sym rule.words_are) (pops h);
              memory_is = rule.memory_is ∙ ap₂ (λ a v. set m a (changed c (get_or m a 0) v)) place_is v_is;
              touched = ap (λ l. t.touched ++ l) (sym (rule.touched ∙ ap (λ a. record { at = a; how = changing c } ∷ []) place_is));
            }
    did (if e a b) at h rule =
        let test_is = ap (λ v. eqb v 0) (valued e h rule.0.is_test at.2) in
        let z = eqb (Value e) 0 in
        let first = end s (p + 1) in
        let second = end s (end s (p + 1)) in
        own_done (goes t (cond z b a ∷ ss) t.vars t.left) refl (rule.0.words_are ∙ ap (λ z. pushed (popped w) (cond z second first)) test_is) rule.1 rule.2
        (pushes (cond z second first) (cond z b a) (chosen_stands s z second first b a at.5 at.4) (omega (arith, h.stack.1, chosen_deep z b a)) (pops h))
    did (while e a) at h rule =
        let test_is = ap (λ v. eqb v 0) (valued e h rule.0.is_test at.2) in
        own_done (cond (eqb (Value e) 0) (goes t ss t.vars t.left) (turn t e a ss t.left)) (looped (eqb (Value e) 0) t.left) (rule.0.words_are ∙ ap (λ z. cond z (popped w) (again (end s (p + 1)))) test_is) rule.1 rule.2
        (loop_holds (eqb (Value e) 0))
      where
        turn_touched : (left : ℕ) → (turn t e a ss left).touched ≡ t.touched
        turn_touched zero = refl
        turn_touched (suc left) = refl

        looped : (z : Bool) (left : ℕ) → (cond z (goes t ss t.vars t.left) (turn t e a ss left)).touched ≡ t.touched
        looped true left = refl
        looped false left = turn_touched left

        loop_holds : (z : Bool) → Holds s (cond z (popped w) (again (end s (p + 1)))) (cond z (goes t ss t.vars t.left) (turn t e a ss t.left))
        loop_holds true = pops h
        loop_holds false = turned e a ss (end s (p + 1)) t.left refl at.3 h
    did wait at h rule = own_done (stops t ss waiting) refl rule.0 rule.1 rule.2 (set_status waiting (pops h))

-- what the words of a thread that can take a step are known to be
module _ {s : Source} {w : List ℕ} (can : CanStep s w) where
  pub sized : length w ≡ 1024
  sized = can.holds.size

  pub height_small : get_or w 258 0 ≤ 256
  height_small = height_low can.holds

  -- the next statement
  record Next (p : ℕ) : Type 0 where
    stmt : Stmt
    stands : Stands s p stmt
    deep : stmt_depth stmt ≤ 256

  next : {p : ℕ} → p ≡ top_of w → 0 < get_or w 258 0 → Next p
  next {p} top some = go can.thread.todo can.holds
    where
      go : (todo : List Stmt) → Held s w todo can.thread.vars can.thread.left can.thread.status → Next p
      go [] h = absurd (omega (arith, h.height_is))
      go (st ∷ ss) h = record { stmt = st; stands = subst (λ p. Stands s p st) (sym top) (top_stands h); deep = omega (arith, h.stack.1) }

  pub has_head : {p : ℕ} → p ≡ top_of w → 0 < get_or w 258 0 → StmtHead s p
  has_head {p} top some = let n = next top some in stmt_head s p n.stmt n.stands

  pub ready : {p : ℕ} (h : Statement) → h ≡ statement_at s p → p ≡ top_of w → 0 < get_or w 258 0 → record { busy : Busy s w p; asks : Asks s p h }
  ready {p} h is top some =
      let n = next top some in
      record {
        busy = record { size = sized; few = can.holds.few; filled = some; low = height_small; near = omega (arith, (has_head top some).within, can.holds.short) };
        asks = subst (Asks s p) (sym (is ∙ stmt_says s p n.stmt n.stands)) (asked s p n.stmt n.stands n.deep);
      }

module _ {s : Source} {who : Who} {w w' m m' : List ℕ} {r : Option Touch} where
  pub stepped : {p : ℕ} (h : Statement) → h ≡ statement_at s p → p ≡ top_of w → 0 < get_or w 258 0 → Rule s who p w w' m m' r h → Stepped s who.me.0 who.all w w' m m' r
  stepped {p} h is top some rule = record { each = λ t holds g. go t t.todo (subst (Held s w t.todo t.vars t.left) g holds) }
    where
      go : (t : Thread) (todo : List Stmt) → Held s w todo t.vars t.left going → Done s w' m m' r t (next_effect who.me.0 who.all (length m) t todo)
      go t [] h = absurd (omega (arith, h.height_is))
      go t (st ∷ ss) held =
          let at = subst (λ p. Stands s p st) (sym top) (top_stands held) in
          did s who w w' m m' r t p ss st at held (subst (Rule s who p w w' m m' r) (is ∙ stmt_says s p st at) rule)

-- with nothing left to do
pub ended_stepped : {s : Source} {w w' m m' : List ℕ} {r : Option Touch} (who : Who) → get_or w 258 0 ≡ 0 → w' ≡ set w 257 2 → m' ≡ m → r ≡ None → Stepped s who.me.0 who.all w w' m m' r
ended_stepped {s} {w} {w'} {m} {m'} {r} who none words memory nothing = record { each = λ t holds g. go t t.todo holds }
  where
    go : (t : Thread) (todo : List Stmt) → Held s w todo t.vars t.left t.status → Done s w' m m' r t (next_effect who.me.0 who.all (length m) t todo)
    go t [] h = own_done s who w w' m m' r t (stops t [] ended) refl words memory nothing (set_status ended h)
    go t (st ∷ ss) h = absurd (omega (arith, h.height_is))
