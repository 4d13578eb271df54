-- The reason of a refusal is true of the rows at its place.
use Rattle.std.proofs.Common.{◌≡◌, ℕ, zero, suc, ◌+◌, ◌<◌, ◌≤◌, Bool, true, false, cond, ltb, List, ◌++◌, length, get_or, drop, sym, refl, ap, ◌∙◌, subst, ⊎_elim, arith, length-append, length-drop}
use borrow.Author.Tests.{false-ltb}
use Rattle.std.proofs.lemmas.List.{drop_more, drop_all}
use Rattle.std.proofs.str.Laws.{order}
use Rattle.rows.specs.declared.refusals.Refusal.{Refusal}
use Rattle.rows.specs.declared.refusals.Fault.TheVariants.{EndsEarly, NoStatement, NoExpression, NoOperation, NoVariable, TooDeep}
use Rattle.model.specs.declared.Op.TheVariants.{Add, Sub, Mul, Div, Rem, Less, Same}
use Rattle.rows.specs.declared.head.Expression.TheVariants.{Number, Variable, Me, All, Operation}
use Rattle.rows.specs.declared.head.Statement.TheVariants.{Skip, Seq, Assign, Read, Write, Increase, If, While, Wait}
use Rattle.rows.specs.Decoded.{Reason}
use Rattle.rows.specs.declared.head.Kind.{Kind}
use Rattle.rows.specs.declared.head.Kind.TheVariants.{Expression as AnExpression, Statement as AStatement}
use Rattle.rows.specs.Heads.{Got, got, bad, then, refuse, word_at, variable_of, variable_at, operation_of, operation_at, expression_of, statement_of}
use Rattle.rows.specs.Parts.{Sort, exprs, stmts, many, HeadOf, row_of, exprs_in, stmts_in, Inner, of}
use Rattle.rows.specs.Reader.{Reader, pair, several, headed, too_deep, head_at, inside, read_part}
use Rattle.rows.specs.Table.{behind}
use Rattle.rows.proofs.Exact.{Sound, several_sound, part_sound}
use Rattle.rows.proofs.Exits.{rest_at}
use Rattle.rows.proofs.HeadsExact.{head_front}

-- where a reading in steps failed
then_failed : {A B : Type 0} (P : Refusal → Type 0) (g : Got A) (f : A → List ℕ → Got B) → ((x : Refusal) → g ≡ bad x → P x) → ((a : A) (l : List ℕ) → g ≡ got a l → (x : Refusal) → f a l ≡ bad x → P x) → (x : Refusal) → then g f ≡ bad x → P x
then_failed P (got a l) f first second x e = second a l refl x e
then_failed P (bad y) f first second x e = first x (ap bad (cc))

failed : {A : Type 0} (P : Refusal → Type 0) (y : Refusal) → P y → (x : Refusal) → ◌≡◌ {A = Got A} (bad y) (bad x) → P x
failed P y p x e = subst P (cc) p

succeeded : {A : Type 0} (P : Refusal → Type 0) (a : A) (l : List ℕ) (x : Refusal) → got a l ≡ bad x → P x
succeeded P a l x e = absurd (cc)

module _ (w : List ℕ) (room k : ℕ) (variables : k ≡ get_or w 0 0) where
  abbrev True : Refusal → Type 0
  True x = Reason w room x.at x.why

  abbrev Fair : {A : Type 0} → Reader A → Type 0
  Fair f = (at : ℕ) → at ≤ length w → (x : Refusal) → f at (drop at w) ≡ bad x → True x

  -- a word, and what is read by it
  by_word : {A : Type 0} (f : ℕ → ℕ → List ℕ → Got A) → ((at x : ℕ) → at < length w → x ≡ get_or w at 0 → (y : Refusal) → f at x (drop (at + 1) w) ≡ bad y → True y) → Fair (λ at s. then (word_at at s) (f at))
  by_word f fair at fits x e =
      ⊎_elim
      (λ within. fair at (get_or w at 0) within refl x (sym (ap (λ l. then (word_at at l) (f at)) (drop_more w at 0 within)) ∙ e))
      (λ past. failed True (record { at = at; why = EndsEarly }) (omega arith) x (sym (ap (λ l. then (word_at at l) (f at)) (drop_all at w past)) ∙ e))
      (order at (length w))

  number_fair : Fair word_at
  number_fair at fits x e = by_word (λ at x s. got x s) (λ at x within is. succeeded True x (drop (at + 1) w)) at fits x (sym (word_then (word_at at (drop at w))) ∙ e)
    where
      word_then : (g : Got ℕ) → g ≡ then g (λ x s. got x s)
      word_then (got a s) = refl
      word_then (bad y) = refl

  variable_fair : Fair (variable_at k)
  variable_fair = by_word (variable_of k) (λ at x within is. go at x within is (ltb x k) refl)
    where
      go : (at x : ℕ) → at < length w → x ≡ get_or w at 0 → (b : Bool) → ltb x k ≡ b → (y : Refusal) → cond b (got x (drop (at + 1) w)) (refuse at NoVariable) ≡ bad y → True y
      go at x within is true t = succeeded True x (drop (at + 1) w)
      go at x within is false t = failed True (record { at = at; why = NoVariable }) (within, omega (arith, false-ltb x k (sym t)))

  operation_failed : (at x : ℕ) → at < length w → x ≡ get_or w at 0 → (y : Refusal) → operation_of at x (drop (at + 1) w) ≡ bad y → True y
  operation_failed at zero within is = succeeded True Add (drop (at + 1) w)
  operation_failed at (suc zero) within is = succeeded True Sub (drop (at + 1) w)
  operation_failed at (suc (suc zero)) within is = succeeded True Mul (drop (at + 1) w)
  operation_failed at (suc (suc (suc zero))) within is = succeeded True Div (drop (at + 1) w)
  operation_failed at (suc (suc (suc (suc zero)))) within is = succeeded True Rem (drop (at + 1) w)
  operation_failed at (suc (suc (suc (suc (suc zero))))) within is = succeeded True Less (drop (at + 1) w)
  operation_failed at (suc (suc (suc (suc (suc (suc zero)))))) within is = succeeded True Same (drop (at + 1) w)
  operation_failed at (suc (suc (suc (suc (suc (suc (suc x))))))) within is = failed True (record { at = at; why = NoOperation }) (within, omega arith)

  operation_fair : Fair operation_at
  operation_fair = by_word operation_of operation_failed

  -- what stands behind the first word of a head
  second : {A B : Type 0} (f : Reader A) (h : A → B) → Fair f → (at : ℕ) → at < length w → (y : Refusal) → then (f (at + 1) (drop (at + 1) w)) (λ a s. got (h a) s) ≡ bad y → True y
  second f h fair at within = then_failed True (f (at + 1) (drop (at + 1) w)) _ (fair (at + 1) (omega arith)) (λ a l is. succeeded True (h a) l)

  expression_failed : (at x : ℕ) → at < length w → x ≡ get_or w at 0 → (y : Refusal) → expression_of k at x (drop (at + 1) w) ≡ bad y → True y
  expression_failed at zero within is = second word_at Number number_fair at within
  expression_failed at (suc zero) within is = second (variable_at k) Variable variable_fair at within
  expression_failed at (suc (suc zero)) within is = succeeded True Me (drop (at + 1) w)
  expression_failed at (suc (suc (suc zero))) within is = succeeded True All (drop (at + 1) w)
  expression_failed at (suc (suc (suc (suc zero)))) within is = second operation_at Operation operation_fair at within
  expression_failed at (suc (suc (suc (suc (suc x))))) within is = failed True (record { at = at; why = NoExpression }) (within, omega arith)

  statement_failed : (at x : ℕ) → at < length w → x ≡ get_or w at 0 → (y : Refusal) → statement_of k at x (drop (at + 1) w) ≡ bad y → True y
  statement_failed at zero within is = succeeded True Skip (drop (at + 1) w)
  statement_failed at (suc zero) within is = succeeded True Seq (drop (at + 1) w)
  statement_failed at (suc (suc zero)) within is = second (variable_at k) Assign variable_fair at within
  statement_failed at (suc (suc (suc zero))) within is = second (variable_at k) Read variable_fair at within
  statement_failed at (suc (suc (suc (suc zero)))) within is = succeeded True Write (drop (at + 1) w)
  statement_failed at (suc (suc (suc (suc (suc zero))))) within is = succeeded True Increase (drop (at + 1) w)
  statement_failed at (suc (suc (suc (suc (suc (suc zero)))))) within is = succeeded True If (drop (at + 1) w)
  statement_failed at (suc (suc (suc (suc (suc (suc (suc zero))))))) within is = succeeded True While (drop (at + 1) w)
  statement_failed at (suc (suc (suc (suc (suc (suc (suc (suc zero)))))))) within is = succeeded True Wait (drop (at + 1) w)
  statement_failed at (suc (suc (suc (suc (suc (suc (suc (suc (suc x))))))))) within is = failed True (record { at = at; why = NoStatement }) (within, omega arith)

  -- the position behind what was read lies within the rows
  lands : (row s : List ℕ) (at : ℕ) → at ≤ length w → drop at w ≡ row ++ s → behind at row ≤ length w
  lands row s at fits e = omega (arith, ap length e, length-append row s, length-drop at w)

  pair_fair : {A B : Type 0} (S : Sort A) (d : ℕ) (f : Reader A) (g : Reader B) → Sound S d k f → Fair f → Fair g → Fair (pair S f g)
  pair_fair {A} {B} S d f g sound fair fair' at fits =
      then_failed True (f at (drop at w)) _ (fair at fits)
      (λ a l is.
      let e = (sound at (drop at w) a l is).row in
      subst (λ l. (x : Refusal) → then {B = A × B} (g (behind at (S.row a)) l) (λ b s. got (a, b) s) ≡ bad x → True x) (sym (rest_at w (S.row a) l at e))
      (then_failed True (g (behind at (S.row a)) (drop (behind at (S.row a)) w)) _ (fair' (behind at (S.row a)) (lands (S.row a) l at fits e)) (λ b m is'. succeeded True (a, b) m)))

  several_fair : {A : Type 0} (S : Sort A) (d : ℕ) (f : Reader A) → Sound S d k f → Fair f → (n : ℕ) → Fair (several S f n)
  several_fair S d f sound fair zero = λ at fits. succeeded True tt (drop at w)
  several_fair S d f sound fair (suc n) = pair_fair (many S n) d (several S f n) f (several_sound S d k f sound n) (several_fair S d f sound fair n) fair

  headed_fair : (c : Kind) (f : (h : HeadOf c) → Reader (Inner c h)) → Fair (head_at c k) → ((h : HeadOf c) → Fair (f h)) → Fair (headed (row_of c) (head_at c k) f (of c))
  headed_fair c f fair fair' at fits =
      then_failed True (head_at c k at (drop at w)) _ (fair at fits)
      (λ h l is.
      let e = (head_front c k at (drop at w) h l is).row_is in
      subst (λ l. (x : Refusal) → then (f h (behind at (row_of c h)) l) (λ b s. got (of c h b) s) ≡ bad x → True x) (sym (rest_at w (row_of c h) l at e))
      (then_failed True (f h (behind at (row_of c h)) (drop (behind at (row_of c h)) w)) _ (fair' h (behind at (row_of c h)) (lands (row_of c h) l at fits e)) (λ b m is'. succeeded True (of c h b) m)))

  too_deep_fair : {H A : Type 0} (head : Reader H) → Fair head → ((at : ℕ) → at ≤ length w → (h : H) (s : List ℕ) → head at (drop at w) ≡ got h s → at < length w) → Fair (too_deep {A = A} head)
  too_deep_fair head fair within at fits = then_failed True (head at (drop at w)) _ (fair at fits) (λ h l is. failed True (record { at = at; why = TooDeep }) (within at fits h l is))

  -- a head has a word
  filled : {A : Type 0} (f : ℕ → ℕ → List ℕ → Got A) (at : ℕ) → at ≤ length w → (a : A) (s : List ℕ) → then (word_at at (drop at w)) (f at) ≡ got a s → at < length w
  filled f at fits a s e =
      ⊎_elim (λ within. within)
      (λ past. let e' = sym (ap (λ l. then (word_at at l) (f at)) (drop_all at w past)) ∙ e in absurd (cc))
      (order at (length w))

  head_fair : (c : Kind) → Fair (head_at c k)
  head_fair AnExpression = by_word (expression_of k) expression_failed
  head_fair AStatement = by_word (statement_of k) statement_failed

  head_filled : (c : Kind) (at : ℕ) → at ≤ length w → (h : HeadOf c) (s : List ℕ) → head_at c k at (drop at w) ≡ got h s → at < length w
  head_filled AnExpression = filled (expression_of k)
  head_filled AStatement = filled (statement_of k)

  pub part_fair : (c : Kind) (d : ℕ) → Fair (read_part c d k)
  part_fair c zero = too_deep_fair (head_at c k) (head_fair c) (head_filled c)
  part_fair c (suc d) =
      headed_fair c (inside (read_part AnExpression d k) (read_part AStatement d k) c) (head_fair c)
      (λ h. pair_fair (many exprs (exprs_in c h)) d (several exprs (read_part AnExpression d k) (exprs_in c h)) (several stmts (read_part AStatement d k) (stmts_in c h))
      (several_sound exprs d k (read_part AnExpression d k) (part_sound AnExpression d k) (exprs_in c h))
      (several_fair exprs d (read_part AnExpression d k) (part_sound AnExpression d k) (part_fair AnExpression d) (exprs_in c h))
      (several_fair stmts d (read_part AStatement d k) (part_sound AStatement d k) (part_fair AStatement d) (stmts_in c h)))
