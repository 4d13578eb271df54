-- Writing ends into a table, part by part and the head last, leaves the ends of the whole.
use Rattle.std.proofs.Common.{◌≡◌, ℕ, zero, suc, ◌+◌, ◌<◌, List, [], ◌∷◌, ◌++◌, length, set, replicate, sym, refl, ap, ◌∙◌, append_assoc, add-zero, arith, length-append}
use Rattle.std.proofs.lemmas.List.{set_comm, set_at}
use Rattle.model.specs.Kernel.{num, var, me, all, op, skip, seq, assign, read, update, if, while, wait}
use Rattle.rows.specs.declared.head.Kind.{Kind}
use Rattle.rows.specs.declared.head.Kind.TheVariants.{Expression as AnExpression, Statement as AStatement}
use Rattle.rows.specs.Parts.{Sort, exprs, stmts, sort, both, many}
use Rattle.rows.specs.Table.{expr_ends, stmt_ends}
use Rattle.rows.specs.Told.{entered, marked}

entered_set : (t : List ℕ) (at x : ℕ) → 0 < x → entered t at x ≡ set t at x
entered_set t at zero h = absurd (omega arith)
entered_set t at (suc x) h = refl

set_entered : (t : List ℕ) (p x at v : ℕ) → at < p → set (entered t p x) at v ≡ entered (set t at v) p x
set_entered t p zero at v h = refl
set_entered t p (suc x) at v h = set_comm t p at (suc x) v (omega arith)

set_marked : (xs t : List ℕ) (p at v : ℕ) → at < p → set (marked t p xs) at v ≡ marked (set t at v) p xs
set_marked [] t p at v h = refl
set_marked (x ∷ xs) t p at v h = set_marked xs (entered t p x) (p + 1) at v (omega arith) ∙ ap (λ t. marked t (p + 1) xs) (set_entered t p x at v h)

pub marked_append : (xs ys t : List ℕ) (at : ℕ) → marked t at (xs ++ ys) ≡ marked (marked t at xs) (at + length xs) ys
marked_append [] ys t at = ap (λ p. marked t p ys) (sym (add-zero at))
marked_append (x ∷ xs) ys t at = marked_append xs ys (entered t at x) (at + 1) ∙ ap (λ p. marked (marked (entered t at x) (at + 1) xs) p ys) (omega arith)

marked_zeros : (n : ℕ) (xs t : List ℕ) (at : ℕ) → marked t at (replicate n 0 ++ xs) ≡ marked t (at + n) xs
marked_zeros zero xs t at = ap (λ p. marked t p xs) (sym (add-zero at))
marked_zeros (suc n) xs t at = marked_zeros n xs t (at + 1) ∙ ap (λ p. marked t p xs) (omega arith)

-- the end beside the first word of a head, written last
pub head_marked : (n v : ℕ) (xs t : List ℕ) (at : ℕ) → 0 < v → set (marked t (at + 1 + n) xs) at v ≡ marked t at (v ∷ (replicate n 0 ++ xs))
head_marked n v xs t at h =
    set_marked xs t (at + 1 + n) at v (omega arith) ∙ sym (marked_zeros n xs (set t at v) (at + 1)) ∙ ap (λ t. marked t (at + 1) (replicate n 0 ++ xs)) (sym (entered_set t at v h))

entered_front : (p q : List ℕ) (x : ℕ) → entered (p ++ 0 ∷ q) (length p) x ≡ p ++ x ∷ q
entered_front p q zero = refl
entered_front p q (suc x) = set_at p 0 q (suc x) (length p) refl

-- a table that was 0 holds the ends, and what it held around them
pub marked_all : (xs p q : List ℕ) (at : ℕ) → at ≡ length p → marked (p ++ (replicate (length xs) 0 ++ q)) at xs ≡ p ++ (xs ++ q)
marked_all [] p q at e = refl
marked_all (x ∷ xs) p q at e =
    let r = replicate (length xs) 0 ++ q in
    ap (λ at. marked (entered (p ++ 0 ∷ r) at x) (at + 1) xs) e
    ∙ ap (λ t. marked t (length p + 1) xs) (entered_front p r x ∙ sym (append_assoc p (x ∷ []) r))
    ∙ marked_all xs (p ++ x ∷ []) q (length p + 1) (omega (arith, length-append p (x ∷ [])))
    ∙ append_assoc p (x ∷ []) (xs ++ q)

-- There are as many ends as words.
abbrev pub Beside : {A : Type 0} → Sort A → Type 0
Beside {A} S = (a : A) (at : ℕ) → length (S.ends at a) ≡ length (S.row a)

appended : (xs xs' ys ys' : List ℕ) → length xs ≡ length xs' → length ys ≡ length ys' → length (xs ++ ys) ≡ length (xs' ++ ys')
appended xs xs' ys ys' e f = omega (arith, length-append xs ys, length-append xs' ys')

pub both_beside : {A B : Type 0} (S : Sort A) (T : Sort B) → Beside S → Beside T → Beside (both S T)
both_beside S T s t x at = appended (S.ends at x.0) _ (T.ends _ x.1) _ (s x.0 at) (t x.1 _)

pub many_beside : {A : Type 0} (S : Sort A) → Beside S → (n : ℕ) → Beside (many S n)
many_beside S s zero = λ x at. refl
many_beside S s (suc n) = both_beside (many S n) S (many_beside S s n) s

pub expr_beside : Beside exprs
expr_beside (num n) at = refl
expr_beside (var x) at = refl
expr_beside me at = refl
expr_beside all at = refl
expr_beside (op o a b) at = ap (λ n. suc (suc n)) (appended (expr_ends _ a) _ (expr_ends _ b) _ (expr_beside a _) (expr_beside b _))

pub stmt_beside : Beside stmts
stmt_beside skip at = refl
stmt_beside (seq p q) at = ap suc (appended (stmt_ends _ p) _ (stmt_ends _ q) _ (stmt_beside p _) (stmt_beside q _))
stmt_beside (assign x e) at = ap (λ n. suc (suc n)) (expr_beside e (at + 2))
stmt_beside (read x e) at = ap (λ n. suc (suc n)) (expr_beside e (at + 2))
stmt_beside (update c e f) at = ap suc (appended (expr_ends _ e) _ (expr_ends _ f) _ (expr_beside e _) (expr_beside f _))
stmt_beside (if e p q) at = ap suc (appended (expr_ends _ e) _ (stmt_ends _ p ++ stmt_ends _ q) _ (expr_beside e _) (appended (stmt_ends _ p) _ (stmt_ends _ q) _ (stmt_beside p _) (stmt_beside q _)))
stmt_beside (while e p) at = ap suc (appended (expr_ends _ e) _ (stmt_ends _ p) _ (expr_beside e _) (stmt_beside p _))
stmt_beside wait at = refl

pub part_beside : (c : Kind) → Beside (sort c)
part_beside AnExpression = expr_beside
part_beside AStatement = stmt_beside
