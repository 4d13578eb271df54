-- In rows that say a kernel, with its ends beside them, the body stands at 1.
use Rattle.std.proofs.Common.{◌≡◌, ℕ, ◌+◌, ◌<◌, ◌≤◌, true, ◌&&◌, ltb, List, [], ◌∷◌, ◌++◌, length, get_or, drop, sym, refl, ap, ◌∙◌, subst, append_assoc, append-nil, arith, length-append, length-drop}
use Rattle.std.proofs.lemmas.List.{drop_at, drop-drop, get_or-drop}
use Rattle.std.proofs.lemmas.Bool.{and_parts, ltb-true}
use Rattle.model.specs.Kernel.{Expr, num, var, me, all, op, Stmt, skip, seq, assign, read, update, if, while, wait, Kernel}
use Rattle.model.specs.Rows.{expr_row, stmt_row, expr_known, stmt_known}
use Rattle.rows.specs.Decoded.{Decoded}
use Rattle.rows.specs.declared.decoder.Text.{Text}
use Rattle.rows.specs.Table.{behind, expr_ends, stmt_ends}
use Rattle.rows.proofs.Marks.{expr_beside, stmt_beside}
use Rattle.machine.proofs.Held.{some}
use Rattle.machine.specs.Stands.{Source, Word, EndsAt, end, Spans, ExprStands, Stands}

-- a list begins with a row at p, and goes on with others behind it
pub record At (l : List ℕ) (p : ℕ) (row : List ℕ) : Type 0 where
  pub rest : List ℕ
  pub is : drop p l ≡ row ++ rest

at_within : {l row : List ℕ} {p x : ℕ} → At l p (x ∷ row) → p < length l
at_within {l} {row} {p} {x} h = omega (arith, ap length h.is, length-drop p l)

at_fits : {l : List ℕ} (row : List ℕ) (p : ℕ) → 0 < length row → At l p row → p + length row ≤ length l
at_fits {l} row p some h = omega (arith, ap length h.is, length-append row h.rest, length-drop p l)

at_word : {l row : List ℕ} {p x : ℕ} → At l p (x ∷ row) → get_or l p 0 ≡ x
at_word {l} {row} {p} {x} h = ap (λ q. get_or l q 0) (omega arith) ∙ sym (get_or-drop p l 0 0) ∙ ap (λ d. get_or d 0 0) h.is

-- the second of two rows stands behind the first
at_second : (l a b : List ℕ) (p q : ℕ) → q ≡ p + length a → At l p (a ++ b) → At l q b
at_second l a b p q e h = record {
  rest = h.rest;
  is = ap (λ q. drop q l) e ∙ sym (drop-drop (length a) p l) ∙ ap (drop (length a)) (h.is ∙ append_assoc a b h.rest) ∙ drop_at a (b ++ h.rest) (length a) refl;
}

at_first : (l a b : List ℕ) (p : ℕ) → At l p (a ++ b) → At l p a
at_first l a b p h = record { rest = b ++ h.rest; is = h.is ∙ append_assoc a b h.rest }

at_next : {l row : List ℕ} {p x : ℕ} → At l p (x ∷ row) → At l (p + 1) row
at_next {l} {row} {p} {x} h = at_second l (x ∷ []) row p (p + 1) refl h

at_third : {l row : List ℕ} {p x y : ℕ} → At l p (x ∷ y ∷ row) → At l (p + 2) row
at_third {l} {row} {p} {x} {y} h = at_second l (x ∷ y ∷ []) row p (p + 2) refl h

module _ (s : Source) where
  at_is : {row : List ℕ} {p x : ℕ} → At s.rows p (x ∷ row) → Word s p x
  at_is h = (at_within h, at_word h)

  -- beside the first word of an expression, or of a statement, stands the position behind it
  expr_end : (e : Expr) (p : ℕ) → At s.ends p (expr_ends p e) → EndsAt s p × (end s p ≡ behind p (expr_row e))
  expr_end (num n) p h = (at_within h, at_word h)
  expr_end (var x) p h = (at_within h, at_word h)
  expr_end me p h = (at_within h, at_word h)
  expr_end all p h = (at_within h, at_word h)
  expr_end (op o a b) p h = (at_within h, at_word h)

  stmt_end : (a : Stmt) (p : ℕ) → At s.ends p (stmt_ends p a) → EndsAt s p × (end s p ≡ behind p (stmt_row a))
  stmt_end skip p h = (at_within h, at_word h)
  stmt_end (seq a b) p h = (at_within h, at_word h)
  stmt_end (assign x e) p h = (at_within h, at_word h)
  stmt_end (read x e) p h = (at_within h, at_word h)
  stmt_end (update c e f) p h = (at_within h, at_word h)
  stmt_end (if e a b) p h = (at_within h, at_word h)
  stmt_end (while e a) p h = (at_within h, at_word h)
  stmt_end wait p h = (at_within h, at_word h)

  -- a row stands at p, with ends beside it
  record Beside (p : ℕ) (row ends : List ℕ) : Type 0 where
    rows_are : At s.rows p row
    ends_are : At s.ends p ends

  beside_next : {p x y : ℕ} {row ends : List ℕ} → Beside p (x ∷ row) (y ∷ ends) → Beside (p + 1) row ends
  beside_next h = record { rows_are = at_next h.rows_are; ends_are = at_next h.ends_are }

  beside_third : {p x x' y y' : ℕ} {row ends : List ℕ} → Beside p (x ∷ x' ∷ row) (y ∷ y' ∷ ends) → Beside (p + 2) row ends
  beside_third h = record { rows_are = at_third h.rows_are; ends_are = at_third h.ends_are }

  -- a row and its ends, and another row behind it
  apart : {p : ℕ} (row ends row' ends' : List ℕ) → length ends ≡ length row → Beside p (row ++ row') (ends ++ ends') → Beside p row ends × Beside (behind p row) row' ends'
  apart {p} row ends row' ends' same h = (
    record { rows_are = at_first s.rows row row' p h.rows_are; ends_are = at_first s.ends ends ends' p h.ends_are },
    record { rows_are = at_second s.rows row row' p (behind p row) refl h.rows_are; ends_are = at_second s.ends ends ends' p (behind p row) (omega arith) h.ends_are },
  )

  abbrev ExprBeside : ℕ → Expr → Type 0
  ExprBeside p e = Beside p (expr_row e) (expr_ends p e)

  abbrev StmtBeside : ℕ → Stmt → Type 0
  StmtBeside p a = Beside p (stmt_row a) (stmt_ends p a)

  -- a row at p, and another one behind it, at the end that stands beside p
  record Then (p : ℕ) (first first_ends row ends : List ℕ) : Type 0 where
    begins : Beside p first first_ends
    has_end : EndsAt s p
    end_is : end s p ≡ behind p first
    goes_on : Beside (behind p first) row ends

  then_row : (p : ℕ) (first first_ends row ends : List ℕ) → length first_ends ≡ length first → (At s.ends p first_ends → EndsAt s p × (end s p ≡ behind p first)) → Beside p (first ++ row) (first_ends ++ ends) → Then p first first_ends row ends
  then_row p first first_ends row ends same end_at h =
      let parts = apart first first_ends row ends same h in
      let ends = end_at parts.0.ends_are in
      record { begins = parts.0; has_end = ends.0; end_is = ends.1; goes_on = parts.1 }

  then_expr : (p : ℕ) (e : Expr) (row ends : List ℕ) → Beside p (expr_row e ++ row) (expr_ends p e ++ ends) → Then p (expr_row e) (expr_ends p e) row ends
  then_expr p e row ends = then_row p (expr_row e) (expr_ends p e) row ends (expr_beside e p) (expr_end e p)

  then_stmt : (p : ℕ) (a : Stmt) (row ends : List ℕ) → Beside p (stmt_row a ++ row) (stmt_ends p a ++ ends) → Then p (stmt_row a) (stmt_ends p a) row ends
  then_stmt p a row ends = then_row p (stmt_row a) (stmt_ends p a) row ends (stmt_beside a p) (stmt_end a p)

  expr_moved : (e : Expr) {p q : ℕ} → p ≡ q → ExprStands s q e → ExprStands s p e
  expr_moved e is h = subst (λ p. ExprStands s p e) (sym is) h

  stmt_moved : (a : Stmt) {p q : ℕ} → p ≡ q → Stands s q a → Stands s p a
  stmt_moved a is h = subst (λ p. Stands s p a) (sym is) h

  expr_stands : (e : Expr) (p : ℕ) → ExprBeside p e → expr_known s.variables e ≡ true → ExprStands s p e
  expr_stands (num n) p h known = (at_is h.rows_are, at_is (at_next h.rows_are))
  expr_stands (var x) p h known = (at_is h.rows_are, at_is (at_next h.rows_are), ltb-true x s.variables known)
  expr_stands me p h known = at_is h.rows_are
  expr_stands all p h known = at_is h.rows_are
  expr_stands (op o a b) p h known =
      let t = then_expr (p + 2) a (expr_row b) (expr_ends (behind (p + 2) (expr_row a)) b) (beside_third h) in
      let k = and_parts (expr_known s.variables a) (expr_known s.variables b) known in
      (at_is h.rows_are, at_is (at_next h.rows_are), t.has_end, expr_stands a (p + 2) t.begins k.0, expr_moved b t.end_is (expr_stands b (behind (p + 2) (expr_row a)) t.goes_on k.1))

  spans : (a : Stmt) (p : ℕ) → StmtBeside p a → Spans s p (stmt_row a)
  spans a p h = ((stmt_end a p h.ends_are).1, at_fits (stmt_row a) p (some a).1 h.rows_are)

  stands : (a : Stmt) (p : ℕ) → StmtBeside p a → stmt_known s.variables a ≡ true → Stands s p a
  stands skip p h known = (at_is h.rows_are, spans skip p h)
  stands (seq a b) p h known =
      let t = then_stmt (p + 1) a (stmt_row b) (stmt_ends (behind (p + 1) (stmt_row a)) b) (beside_next h) in
      let k = and_parts (stmt_known s.variables a) (stmt_known s.variables b) known in
      (at_is h.rows_are, t.has_end, stands a (p + 1) t.begins k.0, stmt_moved b t.end_is (stands b (behind (p + 1) (stmt_row a)) t.goes_on k.1), spans (seq a b) p h)
  stands (assign x e) p h known =
      let k = and_parts (ltb x s.variables) (expr_known s.variables e) known in
      (at_is h.rows_are, at_is (at_next h.rows_are), ltb-true x s.variables k.0, expr_stands e (p + 2) (beside_third h) k.1, spans (assign x e) p h)
  stands (read x e) p h known =
      let k = and_parts (ltb x s.variables) (expr_known s.variables e) known in
      (at_is h.rows_are, at_is (at_next h.rows_are), ltb-true x s.variables k.0, expr_stands e (p + 2) (beside_third h) k.1, spans (read x e) p h)
  stands (update c e f) p h known =
      let t = then_expr (p + 1) e (expr_row f) (expr_ends (behind (p + 1) (expr_row e)) f) (beside_next h) in
      let k = and_parts (expr_known s.variables e) (expr_known s.variables f) known in
      (at_is h.rows_are, t.has_end, expr_stands e (p + 1) t.begins k.0, expr_moved f t.end_is (expr_stands f (behind (p + 1) (expr_row e)) t.goes_on k.1), spans (update c e f) p h)
  stands (if e a b) p h known =
      let q = behind (p + 1) (expr_row e) in
      let t = then_expr (p + 1) e (stmt_row a ++ stmt_row b) (stmt_ends q a ++ stmt_ends (behind q (stmt_row a)) b) (beside_next h) in
      let u = then_stmt q a (stmt_row b) (stmt_ends (behind q (stmt_row a)) b) t.goes_on in
      let k = and_parts (expr_known s.variables e) (stmt_known s.variables a && stmt_known s.variables b) known in
      let l = and_parts (stmt_known s.variables a) (stmt_known s.variables b) k.1 in
      (at_is h.rows_are, t.has_end, expr_stands e (p + 1) t.begins k.0, subst (EndsAt s) (sym t.end_is) u.has_end, stmt_moved a t.end_is (stands a q u.begins l.0), stmt_moved b (ap (end s) t.end_is ∙ u.end_is) (stands b (behind q (stmt_row a)) u.goes_on l.1), spans (if e a b) p h)
  stands (while e a) p h known =
      let t = then_expr (p + 1) e (stmt_row a) (stmt_ends (behind (p + 1) (expr_row e)) a) (beside_next h) in
      let k = and_parts (expr_known s.variables e) (stmt_known s.variables a) known in
      (at_is h.rows_are, t.has_end, expr_stands e (p + 1) t.begins k.0, stmt_moved a t.end_is (stands a (behind (p + 1) (expr_row e)) t.goes_on k.1), spans (while e a) p h)
  stands wait p h known = (at_is h.rows_are, spans wait p h)

-- what `decode` found stands in the rows, with the table that it left
pub decoded_stands : {w t t' : List ℕ} {x : Text} {k : Kernel} → Decoded w t t' x k → Stands (record { rows = w; ends = t'; variables = x.variables }) 1 k.body
decoded_stands {w} {t} {t'} {x} {k} d =
    stands (record { rows = w; ends = t'; variables = x.variables }) k.body 1
    (record {
      rows_are = at_next {p = 0} (record { rest = []; is = d.says.rows ∙ sym (append-nil (k.vars ∷ stmt_row k.body)) });
      ends_are = at_next {p = 0} (record { rest = drop (length w) t; is = d.table });
    })
    (ap (λ v. stmt_known v k.body) d.variables ∙ d.says.known)
