-- Rows that say a text are read as that text, so they say no other; and what each exit of `decode` owes.
use Rattle.std.proofs.Common.{◌≡◌, ℕ, suc, ◌+◌, ◌<◌, ◌≤◌, List, [], ◌∷◌, ◌++◌, length, get_or, drop, replicate, IsErrAnd, Ok, Err, Result, sym, refl, ap, ◌∙◌, subst, append-nil, arith, length-append}
use Rattle.std.proofs.lemmas.List.{nil_from_length}
use Rattle.model.specs.Kernel.{Kernel}
use Rattle.model.specs.Rows.{Rows, stmt_row, OneKernel}
use Rattle.rows.specs.declared.decoder.Text.{Text}
use Rattle.rows.specs.declared.part.Part.{Part}
use Rattle.rows.specs.declared.refusals.Refusal.{Refusal}
use Rattle.rows.specs.declared.refusals.Fault.TheVariants.{EndsEarly, AfterEnd, TooManyWords, TooManyVariables, ShortTable}
use Rattle.rows.specs.declared.head.Kind.TheVariants.{Statement as AStatement}
use Rattle.rows.specs.Decoded.{Refused, DecodePost}
use Rattle.rows.specs.Heads.{got, answer, word_at}
use Rattle.rows.specs.Parts.{stmts}
use Rattle.rows.specs.Reader.{read_part}
use Rattle.rows.specs.Table.{stmt_ends}
use Rattle.rows.specs.Told.{marked, Told}
use Rattle.rows.proofs.Answered.{passed_on}
use Rattle.rows.proofs.Exact.{part_sound, part_complete}
use Rattle.rows.proofs.Exits.{held, missed}
use Rattle.rows.proofs.Marks.{marked_all, stmt_beside}
use Rattle.rows.proofs.Reasons.{part_fair}

body_read : (w : List ℕ) (k : Kernel) → Rows w k → read_part AStatement 256 k.vars 1 (drop 1 w) ≡ got k.body []
body_read w k r = part_complete AStatement 256 k.vars 1 (drop 1 w) k.body [] (record { row = ap (drop 1) r.rows ∙ sym (append-nil (stmt_row k.body)); shallow = r.shallow; known = r.known })

pub one_kernel : OneKernel
one_kernel w k l r s =
    let v = r.rows in
    let v' = s.rows in
    let vars : k.vars ≡ l.vars = cc in
    let read = sym (body_read w k r) ∙ ap (λ n. read_part AStatement 256 n 1 (drop 1 w)) vars ∙ body_read w l s in
    let body : k.body ≡ l.body = cc in
    λ i. record { vars = vars i; body = body i }

module _ (w t : List ℕ) where
  refuses : (t' : List ℕ) (x : Refusal) → Refused w (length t) x → DecodePost w t t' (Err x)
  refuses t' x h = record { says = h; one_kernel = one_kernel }

  refuses_as : (t' : List ℕ) {x y : Refusal} → x ≡ y → Refused w (length t) y → DecodePost w t t' (Err x)
  refuses_as t' {x} e h = refuses t' x (subst (Refused w (length t)) (sym e) h)

  pub broken : (t' : List ℕ) (r : Result Text Refusal) (x : Refusal) → IsErrAnd r (λ y. y ≡ x) → DecodePost w t t' (Err x) → DecodePost w t t' r
  broken t' = passed_on (DecodePost w t t')

  pub short_table : (t' : List ℕ) (x : Refusal) → x ≡ record { at = length t; why = ShortTable } → length t < length w → DecodePost w t t' (Err x)
  short_table t' x e h = refuses_as t' e (record { no_text = λ other k r. absurd (other refl); reason = (refl, h) })

  pub too_many_words : (t' : List ℕ) (x : Refusal) → x ≡ record { at = 65536; why = TooManyWords } → 65536 < length w → DecodePost w t t' (Err x)
  too_many_words t' x e h = refuses_as t' e (record { no_text = λ other k r. omega (arith, r.short); reason = (refl, h) })

  pub no_words : (t' : List ℕ) (x : Refusal) → Err x ≡ answer (λ x. x) (word_at 0 w) → DecodePost w t t' (Err x)
  no_words t' x e = refuses t' x (go w e)
    where
      go : (w : List ℕ) → Err x ≡ answer (λ x. x) (word_at 0 w) → Refused w (length t) x
      go [] e =
          let none : Refusal = record { at = 0; why = EndsEarly } in
          let same : none ≡ x = cc in
          subst (Refused [] (length t)) same (record { no_text = λ other k r. let e' = r.rows in absurd (cc); reason = refl })
      go (y ∷ s) e = absurd (cc)

  module _ (v : ℕ) (front : w ≡ v ∷ drop 1 w) where
    some_words : 0 < length w
    some_words = omega (arith, ap length front)

    first_is : v ≡ get_or w 0 0
    first_is = sym (ap (λ l. get_or l 0 0) front)

    vars_is : (k : Kernel) → Rows w k → k.vars ≡ v
    vars_is k r = let e = r.rows in cc

    pub too_many_variables : (t' : List ℕ) (x : Refusal) → x ≡ record { at = 0; why = TooManyVariables } → 256 < v → DecodePost w t t' (Err x)
    too_many_variables t' x e h = refuses_as t' e (record { no_text = λ other k r. omega (arith, r.few, vars_is k r); reason = (refl, some_words, omega (arith, first_is)) })

    reads_as : (k : Kernel) → Rows w k → read_part AStatement 256 v 1 (drop 1 w) ≡ got k.body []
    reads_as k r = ap (λ n. read_part AStatement 256 n 1 (drop 1 w)) (sym (vars_is k r)) ∙ body_read w k r

    pub no_body : (t₁ t₂ t' : List ℕ) (x : Refusal) → Told stmts (read_part AStatement 256 v 1 (drop 1 w)) (length w) 256 1 t₁ t₂ (Err x) → DecodePost w t t' (Err x)
    no_body t₁ t₂ t' x h =
        let e = missed (read_part AStatement 256 v 1 (drop 1 w)) h in
        refuses t' x (record {
          no_text = λ other k r. let e' = reads_as k r in absurd (cc);
          reason = part_fair w (length t) v first_is AStatement 256 1 (omega (arith, some_words)) x e;
        })

    module _ (t₁ t₂ : List ℕ) (p : Part) (h : Told stmts (read_part AStatement 256 v 1 (drop 1 w)) (length w) 256 1 t₁ t₂ (Ok p)) (t' : List ℕ) where
      pub words_after : (x : Refusal) → x ≡ record { at = p.end; why = AfterEnd } → p.end < length w → DecodePost w t t' (Err x)
      words_after x e' more =
          let read = held (read_part AStatement 256 v 1 (drop 1 w)) h in
          refuses_as t' e' (record {
            no_text = λ other k r.
                let e = sym read.is ∙ reads_as k r in
                let same : read.value ≡ k.body = cc in
                omega (arith, ap (λ p. p.end) read.told, ap (λ s. length (stmt_row s)) same, ap length r.rows);
            reason = more;
          })

      pub decoded : t' ≡ t₂ → length w ≤ 65536 → v ≤ 256 → t₁ ≡ replicate (length w) 0 ++ drop (length w) t → length w ≤ p.end → DecodePost w t t' (Ok (record { variables = v; statements = p.statements; words = length w; deep = p.deep }))
      decoded ended short few cleared whole =
          let read = held (read_part AStatement 256 v 1 (drop 1 w)) h in
          let s = read.value in
          let stands = part_sound AStatement 256 v 1 (drop 1 w) s read.rest read.is in
          let row_is = ap (λ l. v ∷ l) stands.row in
          let long : length w ≡ 1 + (length (stmt_row s) + length read.rest) = omega (arith, ap length (front ∙ row_is), length-append (stmt_row s) read.rest) in
          let none : length read.rest ≡ 0 = omega (arith, ap (λ p. p.end) read.told) in
          let all : w ≡ v ∷ stmt_row s = front ∙ row_is ∙ ap (λ l. v ∷ (stmt_row s ++ l)) (nil_from_length read.rest none) ∙ ap (λ l. v ∷ l) (append-nil (stmt_row s)) in
          let beside : length w ≡ suc (length (stmt_ends 1 s)) = omega (arith, stmt_beside s 1) in
          record {
            says = (
              record { vars = v; body = s },
              record {
                says = record { rows = all; short = short; few = few; shallow = stands.shallow; known = stands.known };
                table = ended ∙ read.marks ∙ ap (λ t. marked t 1 (stmt_ends 1 s)) (cleared ∙ ap (λ n. replicate n 0 ++ drop (length w) t) beside) ∙ marked_all (stmt_ends 1 s) (0 ∷ []) (drop (length w) t) 1 refl;
                variables = refl;
                statements = ap (λ p. p.statements) read.told;
                words = refl;
                deep = ap (λ p. p.deep) read.told;
              },
            );
            one_kernel = one_kernel;
          }
