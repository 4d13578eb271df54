-- What a byte does to a scanner: how words, white space and comments are told apart.
use Rattle.std.specs.Prelude.{ℕ, ◌+◌, ◌-◌, ◌*◌, Bool, true, false, cond, List, ◌++◌, Some, None, fold, Option, ◌==◌, nat_lt}
use Rattle.std.specs.Option.{option_to_list}
use Rattle.words.specs.declared.scan.Kind.{Kind}
use Rattle.words.specs.declared.scan.Kind.TheVariants.{Break, Blank, Hash, Digit, Other}
use Rattle.words.specs.declared.scan.Mode.{Mode}
use Rattle.words.specs.declared.scan.Mode.TheVariants.{Between, Comment, Number, Wrong}
use Rattle.words.specs.declared.scan.Spot.{Spot}

-- The line feed, the other white space of ASCII, `#`, the ten digits, and all else.
abbrev pub kind : ℕ → Kind
kind b = cond (b == 10) Break
    (cond (b == 32) Blank
    (cond (nat_lt b 9) Other
    (cond (nat_lt b 14) Blank
    (cond (b == 35) Hash
    (cond (nat_lt b 48) Other
    (cond (nat_lt b 58) (Digit (b - 48)) Other))))))

-- One digit more. A word of 32 bits ends at 4294967295.
abbrev pub longer : Mode → ℕ → Mode
longer Between d = Number d
longer Comment d = Wrong
longer (Number n) d = cond (nat_lt (10 * n + d) 4294967296) (Number (10 * n + d)) Wrong
longer Wrong d = Wrong

-- What a byte outside of comments does.
abbrev pub outside : Mode → Kind → Mode
outside m Break = Between
outside m Blank = Between
outside m Hash = Comment
outside m (Digit d) = longer m d
outside m Other = Wrong

-- A comment goes on up to the line's end.
abbrev pub inside : Kind → Mode
inside Break = Between
inside Blank = Comment
inside Hash = Comment
inside (Digit d) = Comment
inside Other = Comment

abbrev pub next : Mode → Kind → Mode
next Between k = outside Between k
next Comment k = inside k
next (Number n) k = outside (Number n) k
next Wrong k = outside Wrong k

-- The word that a mode has read, where it has read one.
abbrev pub read : Mode → Option ℕ
read Between = None
read Comment = None
read (Number n) = Some n
read Wrong = None

-- What a byte does where all are to be digits.
abbrev pub digit_only : Mode → Kind → Mode
digit_only m Break = Wrong
digit_only m Blank = Wrong
digit_only m Hash = Wrong
digit_only m (Digit d) = longer m d
digit_only m Other = Wrong

abbrev pub digits_only : List ℕ → Mode
digits_only bs = fold (λ m b. digit_only m (kind b)) Between bs

-- The number that a text of digits alone says.
abbrev pub numeral : List ℕ → Option ℕ
numeral bs = read (digits_only bs)

-- Whether a mode is one within a word.
abbrev pub in_word : Mode → Bool
in_word Between = false
in_word Comment = false
in_word (Number n) = true
in_word Wrong = true

abbrev pub wrong : Mode → Bool
wrong Between = false
wrong Comment = false
wrong (Number n) = false
wrong Wrong = true

-- The word that ends where one mode is followed by another.
abbrev pub ended : Mode → Mode → Option ℕ
ended m n = cond (in_word n) None (read m)

-- Where a word begins that goes on in mode n, if the byte before left mode m.
abbrev pub begun : {X : Type 0} → Mode → Mode → X → X → X
begun m n here there = cond (in_word n) (cond (in_word m) there here) there

-- The place behind a byte.
abbrev pub behind : Spot → Kind → Spot
behind s Break = record { line = s.line + 1; column = 1 }
behind s Blank = record { line = s.line; column = s.column + 1 }
behind s Hash = record { line = s.line; column = s.column + 1 }
behind s (Digit d) = record { line = s.line; column = s.column + 1 }
behind s Other = record { line = s.line; column = s.column + 1 }

-- The mode and the words so far, after one byte more.
abbrev pub took : Mode × List ℕ → ℕ → Mode × List ℕ
took s b = (next s.0 (kind b), s.1 ++ option_to_list (ended s.0 (next s.0 (kind b))))

-- The mode that bytes lead to, and the words ws with those that end among them.
abbrev pub scanned : Mode → List ℕ → List ℕ → Mode × List ℕ
scanned m ws bs = fold took (m, ws) bs
