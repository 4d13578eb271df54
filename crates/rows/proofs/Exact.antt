-- The reader reads exactly the texts: what it reads stands there, and what stands there it reads.
use Rattle.std.proofs.Common.{◌≡◌, ℕ, zero, suc, ◌<◌, ◌≤◌, true, List, ◌++◌, sym, refl, ap, ◌∙◌, append_assoc, arith}
use Rattle.model.specs.declared.Change.TheVariants.{Write as write, Add as add}
use Rattle.model.specs.Kernel.{Expr, num, var, me, all, op, Stmt, skip, seq, assign, read, update, if, while, wait}
use Rattle.rows.specs.declared.refusals.Refusal.{Refusal}
use Rattle.rows.specs.declared.head.Expression.{Expression}
use Rattle.rows.specs.declared.head.Expression.TheVariants.{Number, Variable, Me, All, Operation}
use Rattle.rows.specs.declared.head.Statement.{Statement}
use Rattle.rows.specs.declared.head.Statement.TheVariants.{Skip, Seq, Assign, Read, Write, Increase, If, While, Wait}
use Rattle.rows.specs.declared.head.Kind.{Kind}
use Rattle.rows.specs.declared.head.Kind.TheVariants.{Expression as AnExpression, Statement as AStatement}
use Rattle.rows.specs.Heads.{Got, got, bad, then}
use Rattle.rows.specs.Parts.{Sort, many, both, exprs, stmts, Of, HeadOf, row_of, exprs_in, stmts_in, Inner, of, sort, inner}
use Rattle.rows.specs.Reader.{Reader, pair, several, headed, head_at, inside, read_part}
use Rattle.rows.specs.Table.{behind}
use Rattle.rows.proofs.Answered.{then_came, got_came, then_read}
use Rattle.rows.proofs.Shapes.{whole}
use Rattle.rows.proofs.HeadsExact.{head_read, head_front}

-- a stands at the front of ws, with s behind it, and keeps the limits
pub record Stands {A : Type 0} (S : Sort A) (d k : ℕ) (ws : List ℕ) (a : A) (s : List ℕ) : Type 0 where
  pub row : ws ≡ S.row a ++ s
  pub shallow : S.depth a ≤ d
  pub known : S.known k a ≡ true

abbrev pub Sound : {A : Type 0} → Sort A → ℕ → ℕ → Reader A → Type 0
Sound {A} S d k f = (at : ℕ) (ws : List ℕ) (a : A) (s : List ℕ) → f at ws ≡ got a s → Stands S d k ws a s

abbrev pub Complete : {A : Type 0} → Sort A → ℕ → ℕ → Reader A → Type 0
Complete {A} S d k f = (at : ℕ) (ws : List ℕ) (a : A) (s : List ℕ) → Stands S d k ws a s → f at ws ≡ got a s

-- One behind the other.
module _ {A B : Type 0} (S : Sort A) (T : Sort B) (d k : ℕ) (f : Reader A) (g : Reader B) where
  pub pair_sound : Sound S d k f → Sound T d k g → Sound (both S T) d k (pair S f g)
  pair_sound sound sound' at ws =
      let P : A × B → List ℕ → Type 0 = λ x s. Stands (both S T) d k ws x s in
      then_came P (f at ws) _
      (λ a l is. then_came P (g (behind at (S.row a)) l) _
      (λ b m is'. let one = sound at ws a l is in let two = sound' (behind at (S.row a)) l b m is' in
      got_came P (a, b) m (record { row = one.row ∙ ap (λ x. S.row a ++ x) two.row ∙ sym (append_assoc (S.row a) (T.row b) m); shallow = omega arith; known = grind arith })))

  pub pair_complete : Complete S d k f → Complete T d k g → Complete (both S T) d k (pair S f g)
  pair_complete complete complete' at ws x s h =
      let rest = T.row x.1 ++ s in
      let one : Stands S d k ws x.0 rest = record { row = h.row ∙ append_assoc (S.row x.0) (T.row x.1) s; shallow = omega arith; known = grind arith } in
      let two : Stands T d k rest x.1 s = record { row = refl; shallow = omega arith; known = grind arith } in
      then_read _ (complete at ws x.0 rest one) ∙ then_read _ (complete' (behind at (S.row x.0)) rest x.1 s two)

module _ {A : Type 0} (S : Sort A) (d k : ℕ) (f : Reader A) where
  pub several_sound : Sound S d k f → (n : ℕ) → Sound (many S n) d k (several S f n)
  several_sound sound zero = λ at ws. got_came (λ x s. Stands (many S 0) d k ws x s) tt ws (record { row = refl; shallow = omega arith; known = refl })
  several_sound sound (suc n) = pair_sound (many S n) S d k (several S f n) f (several_sound sound n) sound

  pub several_complete : Complete S d k f → (n : ℕ) → Complete (many S n) d k (several S f n)
  several_complete complete zero = λ at ws x s h. ap (λ l. got tt l) h.row
  several_complete complete (suc n) = pair_complete (many S n) S d k (several S f n) f (several_complete complete n) complete

-- every expression, and every statement, is a head with its parts
expr_taken : (e : Expr) → (h : Expression) × (x : Inner AnExpression h) × (e ≡ of AnExpression h x)
expr_taken (num n) = (Number n, (tt, tt), refl)
expr_taken (var v) = (Variable v, (tt, tt), refl)
expr_taken me = (Me, (tt, tt), refl)
expr_taken all = (All, (tt, tt), refl)
expr_taken (op o a b) = (Operation o, (((tt, a), b), tt), refl)

stmt_taken : (s : Stmt) → (h : Statement) × (x : Inner AStatement h) × (s ≡ of AStatement h x)
stmt_taken skip = (Skip, (tt, tt), refl)
stmt_taken (seq p q) = (Seq, (tt, ((tt, p), q)), refl)
stmt_taken (assign v e) = (Assign v, ((tt, e), tt), refl)
stmt_taken (read v e) = (Read v, ((tt, e), tt), refl)
stmt_taken (update write e f) = (Write, (((tt, e), f), tt), refl)
stmt_taken (update add e f) = (Increase, (((tt, e), f), tt), refl)
stmt_taken (if e p q) = (If, ((tt, e), ((tt, p), q)), refl)
stmt_taken (while e p) = (While, ((tt, e), (tt, p)), refl)
stmt_taken wait = (Wait, (tt, tt), refl)

taken : (c : Kind) (a : Of c) → (h : HeadOf c) × (x : Inner c h) × (a ≡ of c h x)
taken AnExpression a = expr_taken a
taken AStatement a = stmt_taken a

some_depth : (c : Kind) (a : Of c) → 0 < (sort c).depth a
some_depth c a = let t = taken c a in omega (arith, ap (sort c).depth t.2, (whole c t.0 t.1).deep)

-- A head, and then what stands behind it.
module _ (c : Kind) (d k : ℕ) (f : (h : HeadOf c) → Reader (Inner c h)) where
  headed_sound : ((h : HeadOf c) → Sound (inner c h) d k (f h)) → Sound (sort c) (suc d) k (headed (row_of c) (head_at c k) f (of c))
  headed_sound sound at ws =
      let P : Of c → List ℕ → Type 0 = λ a s. Stands (sort c) (suc d) k ws a s in
      then_came P (head_at c k at ws) _
      (λ h l is. then_came P (f h (behind at (row_of c h)) l) _
      (λ x m is'. let front = head_front c k at ws h l is in let rest = sound h (behind at (row_of c h)) l x m is' in let w = whole c h x in
      got_came P (of c h x) m (record {
        row = front.row_is ∙ ap (λ l. row_of c h ++ l) rest.row ∙ sym (append_assoc (row_of c h) ((inner c h).row x) m) ∙ ap (λ l. l ++ m) (sym w.row);
        shallow = omega (arith, w.deep);
        known = w.knows k ∙ grind arith;
      })))

  headed_complete : ((h : HeadOf c) → Complete (inner c h) d k (f h)) → Complete (sort c) (suc d) k (headed (row_of c) (head_at c k) f (of c))
  headed_complete complete at ws a s stands =
      let (h, x, is) = taken c a in
      let w = whole c h x in
      let e = sym (w.knows k) ∙ ap ((sort c).known k) (sym is) ∙ stands.known in
      let front = stands.row ∙ ap (λ b. (sort c).row b ++ s) is ∙ ap (λ l. l ++ s) w.row ∙ append_assoc (row_of c h) ((inner c h).row x) s in
      then_read _ (ap (head_at c k at) front ∙ head_read c k at h ((inner c h).row x ++ s) (grind arith))
      ∙ then_read _ (complete h (behind at (row_of c h)) ((inner c h).row x ++ s) x s (record { row = refl; shallow = omega (arith, w.deep, ap (sort c).depth is, stands.shallow); known = grind arith }))
      ∙ ap (λ b. got b s) (sym is)

-- nothing is read where there is no room left
no_room : {H A : Type 0} (P : A → List ℕ → Type 0) (g : Got H) (x : Refusal) (a : A) (s : List ℕ) → then g (λ h l. bad x) ≡ got a s → P a s
no_room P (got h l) x a s e = absurd (cc)
no_room P (bad y) x a s e = absurd (cc)

module _ (d k : ℕ) (f : Reader Expr) (g : Reader Stmt) (c : Kind) (h : HeadOf c) where
  inside_sound : Sound exprs d k f → Sound stmts d k g → Sound (inner c h) d k (inside f g c h)
  inside_sound one two = pair_sound (many exprs (exprs_in c h)) (many stmts (stmts_in c h)) d k _ _ (several_sound exprs d k f one (exprs_in c h)) (several_sound stmts d k g two (stmts_in c h))

  inside_complete : Complete exprs d k f → Complete stmts d k g → Complete (inner c h) d k (inside f g c h)
  inside_complete one two = pair_complete (many exprs (exprs_in c h)) (many stmts (stmts_in c h)) d k _ _ (several_complete exprs d k f one (exprs_in c h)) (several_complete stmts d k g two (stmts_in c h))

pub part_sound : (c : Kind) (d k : ℕ) → Sound (sort c) d k (read_part c d k)
part_sound c zero k = λ at ws. no_room _ (head_at c k at ws) _
part_sound c (suc d) k = headed_sound c d k _ (λ h. inside_sound d k _ _ c h (part_sound AnExpression d k) (part_sound AStatement d k))

pub part_complete : (c : Kind) (d k : ℕ) → Complete (sort c) d k (read_part c d k)
part_complete c zero k = λ at ws a s h. absurd (omega (arith, some_depth c a, h.shallow))
part_complete c (suc d) k = headed_complete c d k _ (λ h. inside_complete d k _ _ c h (part_complete AnExpression d k) (part_complete AStatement d k))
