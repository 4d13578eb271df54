-- Words that are written in decimal are read back.
use Rattle.std.proofs.Common.{◌≡◌, ℕ, ◌+◌, ◌*◌, ◌/◌, ◌%◌, ◌<◌, List, [], ◌∷◌, ◌++◌, decimal, fold, sym, ap, ◌∙◌, append_assoc, append-nil, arith}
use native.Mathlib.Nat.{div-add-mod}
use Rattle.std.proofs.lemmas.Fmt.{decimal_by_steps}
use Rattle.std.proofs.lemmas.List.Sums.{fold-append, fold_push}
use Rattle.std.proofs.lemmas.Bool.Decides.{nat_tests}
use Rattle.std.specs.Option.{option_to_list}
use Rattle.words.specs.Listing.{AllWords, listing, ListingsReadBack, NumeralsReadBack}
use Rattle.words.specs.Scan.{kind, longer, next, read, digit_only, ended, took, scanned}
use Rattle.words.specs.declared.scan.Kind.{Kind}
use Rattle.words.specs.declared.scan.Kind.TheVariants.{Digit}
use Rattle.words.specs.declared.scan.Mode.{Mode}
use Rattle.words.specs.declared.scan.Mode.TheVariants.{Between, Number}

kind_digit : (d : ℕ) → d < 10 → kind (48 + d) ≡ Digit d
kind_digit d h = grind (arith, nat_tests)

longer_fits : (n d : ℕ) → 10 * n + d < 4294967296 → longer (Number n) d ≡ Number (10 * n + d)
longer_fits n d h = grind (arith, nat_tests)

-- A step g over states reads digits, with the state N n after those of n.
record ReadsDigits {S : Type 0} (g : S → ℕ → S) (start : S) (N : ℕ → S) : Type 0 where
  one : (d : ℕ) → d < 10 → g start (48 + d) ≡ N d
  more : (n d : ℕ) → d < 10 → 10 * n + d < 4294967296 → g (N n) (48 + d) ≡ N (10 * n + d)

reads_decimal : {S : Type 0} (g : S → ℕ → S) (start : S) (N : ℕ → S) → ReadsDigits g start N → (n : ℕ) → n < 4294967296 → fold g start (decimal n) ≡ N n
reads_decimal g start N reads n h =
    decimal_by_steps
    (λ m ds. m < 4294967296 → fold g start ds ≡ N m)
    (λ m small _. reads.one m small)
    (λ m ds _ before fits.
    let whole : 10 * (m / 10) + m % 10 ≡ m = div-add-mod m 10 in
    let digit : m % 10 < 10 = omega arith in
    let front : m / 10 < 4294967296 = omega arith in
    let sum : 10 * (m / 10) + m % 10 < 4294967296 = omega arith in
    fold_push g start ds (48 + m % 10) ∙ ap (λ s. g s (48 + m % 10)) (before front) ∙ reads.more (m / 10) (m % 10) digit sum ∙ ap N whole)
    n (omega arith) h

pub numerals_read_back : NumeralsReadBack
numerals_read_back w h =
    ap read
    (reads_decimal (λ m b. digit_only m (kind b)) Between Number
    (record {
      one = λ d small. ap (digit_only Between) (kind_digit d small);
      more = λ n d small fits. ap (digit_only (Number n)) (kind_digit d small) ∙ longer_fits n d fits;
    })
    w h)

abbrev scans_one : Mode → List ℕ → Kind → Mode × List ℕ
scans_one m ws k = (next m k, ws ++ option_to_list (ended m (next m k)))

-- A word's digits leave the scanner in that word, with no word more.
scans_decimal : (ws : List ℕ) (w : ℕ) → w < 4294967296 → scanned Between ws (decimal w) ≡ (Number w, ws)
scans_decimal ws w h =
    reads_decimal took (Between, ws) (λ n. (Number n, ws))
    (record {
      one = λ d small. ap (λ (k : Kind). scans_one Between ws k) (kind_digit d small) ∙ ap (λ (vs : List ℕ). (Number d, vs)) (append-nil ws);
      more = λ n d small fits.
          ap (λ (k : Kind). scans_one (Number n) ws k) (kind_digit d small)
          ∙ ap (λ (m : Mode). (m, ws ++ option_to_list (ended (Number n) m))) (longer_fits n d fits)
          ∙ ap (λ (vs : List ℕ). (Number (10 * n + d), vs)) (append-nil ws);
    })
    w h

-- The line feed behind it ends the word.
scans_listing : (ws vs : List ℕ) → AllWords vs → scanned Between ws (listing vs) ≡ (Between, ws ++ vs)
scans_listing ws [] _ = ap (λ (us : List ℕ). (Between, us)) (sym (append-nil ws))
scans_listing ws (v ∷ vs) (h, hs) =
    fold-append took (Between, ws) (decimal v) (10 ∷ listing vs)
    ∙ ap (λ (s : Mode × List ℕ). fold took s (10 ∷ listing vs)) (scans_decimal ws v h)
    ∙ scans_listing (ws ++ (v ∷ [])) vs hs
    ∙ ap (λ (us : List ℕ). (Between, us)) (append_assoc ws (v ∷ []) vs)

pub listings_read_back : ListingsReadBack
listings_read_back ws all = scans_listing [] ws all
