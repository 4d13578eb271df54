-- The words of each thread among those of all: what is written to one thread's words leaves the others.
use Rattle.std.proofs.Common.{◌≡◌, ℕ, zero, suc, ◌+◌, ◌-◌, ◌*◌, ◌/◌, ◌<◌, ◌≤◌, List, [], ◌∷◌, length, get_or, take, drop, set, Some, sym, refl, ap, ◌∙◌, ⊎_elim, arith, length-append, length-drop, length-take}
use borrow.Rule.Slice.PartMut.{put_mid}
use Rattle.std.specs.List.{slice_get}
use Rattle.std.specs.Simd.{first_chunks}
use Rattle.std.proofs.lemmas.List.{drop-drop, drop-set-lt, drop-set-add, drop-take, take-set-le, get_or-take, get_or-drop}
use Rattle.std.proofs.lemmas.Slice.{take-put_mid_below, drop-put_mid, between-put_mid}
use Rattle.std.proofs.lemmas.Bool.{cases_lt}
use Rattle.machine.specs.Words.{part}
use Rattle.machine.specs.Together.{status_at}

-- the library's lemma, by the name that the crate above cites
pub nth_some : {A : Type 0} (xs : List A) (j : ℕ) → j < length xs → (x : A) × (slice_get xs j ≡ Some x)
nth_some [] j l = absurd (omega arith)
nth_some (y ∷ xs) zero l = (y, refl)
nth_some (y ∷ xs) (suc j) l = nth_some xs j (omega arith)

-- what is set lies in the first words, or behind them
pub set_take : (w : List ℕ) (k x v : ℕ) → set (take k w) x v ≡ take k (set w x v)
set_take [] zero x v = refl
set_take [] (suc k) x v = refl
set_take (y ∷ w) zero zero v = refl
set_take (y ∷ w) zero (suc x) v = refl
set_take (y ∷ w) (suc k) zero v = refl
set_take (y ∷ w) (suc k) (suc x) v = ap (λ l. y ∷ l) (set_take w k x v)

pub part_set_same : (j i v : ℕ) (work : List ℕ) → part j (set work (1024 * j + i) v) ≡ set (part j work) i v
part_set_same j i v work = ap (take 1024) (drop-set-add (1024 * j) work i v) ∙ sym (set_take (drop (1024 * j) work) 1024 i v)

pub part_set_other : (k j i v : ℕ) (work : List ℕ) → i < 1024 → (j ≡ k → ⊥) → part j (set work (1024 * k + i) v) ≡ part j work
part_set_other k j i v work small apart =
    ⊎_elim
    (λ below.
    let n = 1024 * (k - j) + i in
    ap (λ at. part j (set work at v)) (omega arith) ∙ ap (take 1024) (drop-set-add (1024 * j) work n v) ∙ take-set-le 1024 (drop (1024 * j) work) n v (omega arith))
    (λ above. ap (take 1024) (drop-set-lt (1024 * j) work (1024 * k + i) v (omega arith)))
    (cases_lt j k)

-- a slice that is cut into pieces of that many words has them
pub chunk_at : (k j : ℕ) (work : List ℕ) → j < k → get_or (first_chunks 1024 k work) j [] ≡ part j work
chunk_at zero j work l = absurd (omega arith)
chunk_at (suc k) zero work l = refl
chunk_at (suc k) (suc j) work l = chunk_at k j (drop 1024 work) (omega arith) ∙ ap (take 1024) (drop-drop (1024 * j) 1024 work ∙ ap (λ i. drop i work) (omega arith))

-- the status word of a thread is that of its words
pub status_part : (j : ℕ) (work : List ℕ) → get_or (part j work) 257 0 ≡ status_at work j
status_part j work = get_or-take 1024 (drop (1024 * j) work) 257 0 (omega arith) ∙ get_or-drop (1024 * j) work 257 0

pub chunk_status : (work : List ℕ) {chunks : List (List ℕ)} (n j : ℕ) → chunks ≡ first_chunks 1024 (length work / 1024) work → j < n → n ≤ length work / 1024 → get_or (get_or (take n chunks) j []) 257 0 ≡ status_at work j
chunk_status work {chunks} n j is l room = ap (λ c. get_or c 257 0) (get_or-take n chunks j [] l ∙ ap (λ c. get_or c j []) is ∙ chunk_at (length work / 1024) j work (omega arith)) ∙ status_part j work

-- the code's part, from the first word up to the word behind the last
pub lent_size : (j : ℕ) → 1024 * j + 1024 - 1024 * j ≡ 1024
lent_size j = omega arith

pub lent : (j : ℕ) (work : List ℕ) → take (1024 * j + 1024 - 1024 * j) (drop (1024 * j) work) ≡ part j work
lent j work = ap (λ n. take n (drop (1024 * j) work)) (lent_size j)

-- words of thread j that were lent, and given back as ys
module _ (j size : ℕ) (work ys : List ℕ) (size_is : size ≡ 1024) (room : 1024 * j + 1024 ≤ length work) (same : length ys ≡ 1024) where
  pub part_put_same : part j (put_mid (1024 * j) size work ys) ≡ ys
  part_put_same =
      sym (lent j (put_mid (1024 * j) size work ys)) ∙ between-put_mid (1024 * j) size work ys (1024 * j + 1024) (omega arith) (omega arith)

  pub part_put_other : (k : ℕ) → (k ≡ j → ⊥) → part k (put_mid (1024 * j) size work ys) ≡ part k work
  part_put_other k apart =
      ⊎_elim
      (λ below.
      let n = 1024 * k + 1024 in
      sym (drop-take (1024 * k) 1024 (put_mid (1024 * j) size work ys)) ∙ ap (drop (1024 * k)) (take-put_mid_below (1024 * j) size work ys n (omega arith) (omega arith)) ∙ drop-take (1024 * k) 1024 work)
      (λ above. ap (take 1024) (drop-put_mid (1024 * j) size work ys (1024 * k) (omega arith) (omega arith) (omega arith)))
      (cases_lt k j)

  pub length_put : length (put_mid (1024 * j) size work ys) ≡ length work
  length_put = simp (length-append, length-take, length-drop) (omega arith)
