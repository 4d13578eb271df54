-- The ledger beside the steps of a run, in any order of steps.
use Rattle.std.specs.Prelude.{◌≡◌, ℕ, zero, suc, ◌*◌, ◌≤◌, max, Bool, true, false, ◌⊎◌, List, [], ◌∷◌, length, Some, None, Option}
use Rattle.model.specs.declared.Access.TheVariants.{Reading as reading, Changing as changing}
use Rattle.model.specs.Kernel.{Kernel}
use Rattle.model.specs.Steps.{Touch, State, Effect, own, reads, changes, next_effect, Step, one, together, Steps, begin}
use Rattle.model.specs.Orders.{Clash}
use Rattle.ledger.specs.Places.{Notes, opened, noting, next}

-- the touches of an effect
abbrev pub touched_by : Effect → List Touch
touched_by (own t) = []
touched_by (reads a t) = record { at = a; how = reading } ∷ []
touched_by (changes c a v t) = record { at = a; how = changing c } ∷ []

-- the ledger after an effect of thread i, or nothing where its touch is a clash
abbrev pub noting_effect : Notes → ℕ → Effect → Option Notes
noting_effect l i (own t) = Some l
noting_effect l i (reads a t) = noting l i a reading
noting_effect l i (changes c a v t) = noting l i a (changing c)

abbrev pub beside : {s u : State} → Step s u → Notes → Option Notes
beside {s} (one i t is goes) l = noting_effect l i (next_effect i (length s.threads) (length s.memory) t t.todo)
beside (together none some) l = Some (next l)

abbrev pub clash_or : Option Notes → (Notes → Bool) → Bool
clash_or (Some l) tells = tells l
clash_or None tells = true

-- whether the ledger has told a clash by the end of the steps
abbrev pub tells_clash : (c : ℕ) (s u : State) → Steps c s u → Notes → Bool
tells_clash zero s u p l = false
tells_clash (suc c) s u p l = clash_or (beside p.1 l) (tells_clash c p.0 u p.2)

-- whether two threads clash at some state on the way, s and u included
abbrev pub ClashOn : (c : ℕ) (s u : State) → Steps c s u → Type 0
ClashOn zero s u p = Clash s
ClashOn (suc c) s u p = Clash s ⊎ ClashOn c p.0 u p.2

-- Two words for a place; with no words of memory there is still place 0.
abbrev pub ledger_words : ℕ → ℕ
ledger_words words = 2 * max 1 words

-- the flag is set exactly if P holds
abbrev pub Exactly : Bool → Type 0 → Type 0
Exactly b P = (b ≡ true → P) × (b ≡ false → P → ⊥)

-- Whatever order the steps are taken in, the ledger tells a clash exactly if two threads clash on the way.
abbrev pub LedgerTells : Type 0
LedgerTells =
    (k : Kernel) (n turns : ℕ) (m : List ℕ) (words : ℕ) → ledger_words (length m) ≤ words
    → (c : ℕ) (u : State) (p : Steps c (begin k n turns m) u)
    → Exactly (tells_clash c (begin k n turns m) u p (opened words)) (ClashOn c (begin k n turns m) u p)
