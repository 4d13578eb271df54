-- What the exits of `part` owe: a head, with what stands behind it.
use Rattle.std.proofs.Common.{◌≡◌, ℕ, zero, suc, ◌+◌, ◌-◌, ◌<◌, ◌≤◌, max, List, ◌∷◌, ◌++◌, length, drop, set, replicate, Ok, Err, Result, refl, sym, ap, ◌∙◌, arith, length-append, length-drop}
use Rattle.model.specs.Kernel.{Expr, Stmt}
use Rattle.rows.specs.declared.head.Expression.{Expression}
use Rattle.rows.specs.declared.head.Expression.TheVariants.{Number, Variable, Me, All, Operation}
use Rattle.rows.specs.declared.head.Statement.{Statement}
use Rattle.rows.specs.declared.head.Statement.TheVariants.{Skip, Seq, Assign, Read, Write, Increase, If, While, Wait}
use Rattle.rows.specs.declared.head.Kind.{Kind}
use Rattle.rows.specs.declared.head.Kind.TheVariants.{Expression as AnExpression, Statement as AStatement}
use Rattle.rows.specs.declared.head.Head.{Head}
use Rattle.rows.specs.declared.part.Part.{Part}
use Rattle.rows.specs.declared.refusals.Refusal.{Refusal}
use Rattle.rows.specs.declared.refusals.Fault.TheVariants.{TooDeep}
use Rattle.rows.specs.Heads.{Got, got, bad, then, answer}
use Rattle.rows.specs.Parts.{Many, Sort, exprs, stmts, many, expression_row, statement_row, HeadOf, row_of, exprs_in, stmts_in, own, head_of, Inner, of, sort, inner}
use Rattle.rows.specs.Table.{behind}
use Rattle.rows.specs.Told.{marked, Told}
use Rattle.rows.specs.Reader.{Reader, several, head_at, inside, read_part}
use Rattle.rows.proofs.Answered.{Found, found, then_read, then_bad}
use Rattle.rows.proofs.Shapes.{whole}
use Rattle.rows.proofs.HeadsExact.{head_front}
use Rattle.rows.proofs.Exact.{Sound, several_sound, part_sound}
use Rattle.rows.proofs.Marks.{Beside, head_marked, many_beside, expr_beside}
use Rattle.rows.proofs.Exits.{part, same_part, held, missed, refused, accepted, rest_at, recounted, pair_first, pair_rest, pair_all}

expression_words : (h : Expression) → 0 < length (expression_row h)
expression_words (Number n) = omega arith
expression_words (Variable x) = omega arith
expression_words Me = omega arith
expression_words All = omega arith
expression_words (Operation o) = omega arith

statement_words : (h : Statement) → 0 < length (statement_row h)
statement_words Skip = omega arith
statement_words Seq = omega arith
statement_words (Assign x) = omega arith
statement_words (Read x) = omega arith
statement_words Write = omega arith
statement_words Increase = omega arith
statement_words If = omega arith
statement_words While = omega arith
statement_words Wait = omega arith

head_words : (c : Kind) (h : HeadOf c) → 0 < length (row_of c h)
head_words AnExpression = expression_words
head_words AStatement = statement_words

owns : (c : Kind) → own c ≤ 1
owns AnExpression = omega arith
owns AStatement = omega arith

no_head : {H : Type 0} (f : H → Head) (g : Got H) (x : Refusal) → Err x ≡ answer f g → g ≡ bad x
no_head f (got h s) x e = absurd (cc)
no_head f (bad y) x e = cc

module _ (c : Kind) (w : List ℕ) (k at : ℕ) where
  pub head_refused : (n : ℕ) (t : List ℕ) (x : Refusal) → Err x ≡ answer (head_of c) (head_at c k at (drop at w)) → Told (sort c) (read_part c n k at (drop at w)) (length w) n at t t (Err x)
  head_refused zero t x e = refused (then_bad _ (no_head (head_of c) (head_at c k at (drop at w)) x e))
  head_refused (suc n) t x e = refused (then_bad _ (no_head (head_of c) (head_at c k at (drop at w)) x e))

  module _ (h : Head) (is : Ok h ≡ answer (head_of c) (head_at c k at (drop at w))) where
    stands : Found (head_of c) (head_at c k at (drop at w)) h
    stands = found (head_of c) (head_at c k at (drop at w)) h is

    abbrev head : HeadOf c
    head = stands.value

    abbrev next : ℕ
    next = behind at (row_of c head)

    front : drop at w ≡ row_of c head ++ stands.rest
    front = (head_front c k at (drop at w) head stands.rest stands.is).row_is

    words_are : h.words ≡ length (row_of c head)
    words_are = ap (λ h. h.words) stands.told

    next_is : at + h.words ≡ next
    next_is = ap (λ n. at + n) words_are

    pub head_within : at + h.words ≤ length w
    head_within = omega (arith, words_are, ap length front, length-append (row_of c head) stands.rest, length-drop at w, head_words c head)

    expressions_are : h.expressions ≡ exprs_in c head
    expressions_are = ap (λ h. h.expressions) stands.told

    statements_are : h.statements ≡ stmts_in c head
    statements_are = ap (λ h. h.statements) stands.told

    pub no_room : (n : ℕ) (t : List ℕ) → n ≡ 0 → Told (sort c) (read_part c n k at (drop at w)) (length w) n at t t (Err (record { at = at; why = TooDeep }))
    no_room zero t e = refused (then_read _ stands.is)
    no_room (suc n) t e = absurd (omega arith)

    -- with room below the head
    module _ (n : ℕ) (some : n ≡ 0 → ⊥) where
      abbrev Reads : List ℕ → List ℕ → Result Part Refusal → Type 0
      Reads t t' r = Told (sort c) (read_part c n k at (drop at w)) (length w) n at t t' r

      abbrev behind_head : Reader (Inner c head)
      behind_head = inside (read_part AnExpression (n - 1) k) (read_part AStatement (n - 1) k) c head

      goes_in : read_part c n k at (drop at w) ≡ then (behind_head next (drop next w)) (λ x s. got (of c head x) s)
      goes_in =
          let is_suc : n ≡ suc (n - 1) = omega arith in
          ap (λ n. read_part c n k at (drop at w)) is_suc
          ∙ then_read _ stands.is
          ∙ ap (λ l. then (behind_head next l) (λ x s. got (of c head x) s)) (rest_at w (row_of c head) stands.rest at front)

      inside_refused : (t t' : List ℕ) (x : Refusal) → Told (inner c head) (behind_head next (drop next w)) (length w) (n - 1) next t t' (Err x) → Reads t t' (Err x)
      inside_refused t t' x r = refused (goes_in ∙ then_bad _ (missed (behind_head next (drop next w)) r))

      all_read : (t t' : List ℕ) (q : Part) → Told (inner c head) (behind_head next (drop next w)) (length w) (n - 1) next t t' (Ok q) → Reads t (set t' at q.end) (Ok (part q.end (own c + q.statements) (suc q.deep)))
      all_read t t' q r =
          let read = held (behind_head next (drop next w)) r in
          let a = of c head read.value in
          let ends = (inner c head).ends next read.value in
          let rest = length (row_of c head) - 1 in
          let all = whole c head read.value in
          let some_words = head_words c head in
          let own_words = owns c in
          let end_is : q.end ≡ behind at ((sort c).row a) = omega (arith, ap (λ q. q.end) read.told, ap length all.row, length-append (row_of c head) ((inner c head).row read.value)) in
          accepted (goes_in ∙ then_read _ read.is)
          (same_part end_is
          (omega (arith, all.counts, ap (λ q. q.statements) read.told))
          (omega (arith, all.deep, ap (λ q. q.deep) read.told)))
          (ap (λ t. set t at q.end) read.marks
          ∙ ap (λ p. set (marked t p ends) at q.end) (omega arith)
          ∙ head_marked rest q.end ends t at (omega (arith, r.within))
          ∙ ap (λ v. marked t at (v ∷ (replicate rest 0 ++ ends))) end_is
          ∙ ap (marked t at) (sym (all.ends at)))
          (record { begins = omega (arith, r.within); ends = r.within.ends; shallow = omega (arith, r.within) })

      -- Expressions are read behind the head, and then statements, as many as the head says.
      abbrev es : Reader (Many Expr (exprs_in c head))
      es = several exprs (read_part AnExpression (n - 1) k) (exprs_in c head)

      abbrev ss : Reader (Many Stmt (stmts_in c head))
      ss = several stmts (read_part AStatement (n - 1) k) (stmts_in c head)

      es_sound : Sound (many exprs (exprs_in c head)) (n - 1) k es
      es_sound = several_sound exprs (n - 1) k (read_part AnExpression (n - 1) k) (part_sound AnExpression (n - 1) k) (exprs_in c head)

      es_beside : Beside (many exprs (exprs_in c head))
      es_beside = many_beside exprs expr_beside (exprs_in c head)

      abbrev Several : {A : Type 0} → Sort A → Reader A → ℕ → ℕ → List ℕ → List ℕ → Result Part Refusal → Type 0
      Several S f m p t t' r = Told (many S m) (several S f m p (drop p w)) (length w) (n - 1) p t t' r

      module _ (t t₁ : List ℕ) where
        pub front_refused : (x : Refusal) → Several exprs (read_part AnExpression (n - 1) k) h.expressions (at + h.words) t t₁ (Err x) → Reads t t₁ (Err x)
        front_refused x r =
            inside_refused t t₁ x (pair_first (many exprs (exprs_in c head)) (many stmts (stmts_in c head)) (n - 1) k es ss es_sound es_beside w next t t₁ x (recounted exprs (read_part AnExpression (n - 1) k) w _ expressions_are next_is r))

        module _ (p : Part) (front_read : Several exprs (read_part AnExpression (n - 1) k) h.expressions (at + h.words) t t₁ (Ok p)) (t₂ : List ℕ) where
          pub back_refused : (x : Refusal) → Several stmts (read_part AStatement (n - 1) k) h.statements p.end t₁ t₂ (Err x) → Reads t t₂ (Err x)
          back_refused x r =
              inside_refused t t₂ x (pair_rest (many exprs (exprs_in c head)) (many stmts (stmts_in c head)) (n - 1) k es ss es_sound es_beside w next t t₁ p
              (recounted exprs (read_part AnExpression (n - 1) k) w _ expressions_are next_is front_read) t₂ x (recounted stmts (read_part AStatement (n - 1) k) w _ statements_are refl r))

          pub both_read : (q : Part) → Several stmts (read_part AStatement (n - 1) k) h.statements p.end t₁ t₂ (Ok q) → Reads t (set t₂ at q.end) (Ok (part q.end (own c + (p.statements + q.statements)) (suc (max p.deep q.deep))))
          both_read q r =
              all_read t t₂ _ (pair_all (many exprs (exprs_in c head)) (many stmts (stmts_in c head)) (n - 1) k es ss es_sound es_beside w next t t₁ p
              (recounted exprs (read_part AnExpression (n - 1) k) w _ expressions_are next_is front_read) t₂ q (recounted stmts (read_part AStatement (n - 1) k) w _ statements_are refl r))
