-- How options are spelled, and which of them take a value.
use Rattle.std.specs.Prelude.{ℕ, Bool, true, false, List, codes}
use Rattle.cli.specs.declared.flag.Flag.{Flag}
use Rattle.cli.specs.declared.flag.Flag.TheVariants.{Threads, Turns, Memory, Seed, Orders, Texts, Quiet}

abbrev pub spelled : Flag → List ℕ
spelled Threads = codes "--threads"
spelled Turns = codes "--turns"
spelled Memory = codes "--memory"
spelled Seed = codes "--seed"
spelled Orders = codes "--orders"
spelled Texts = codes "--texts"
spelled Quiet = codes "--quiet"

-- Whether a value is to come behind the option.
abbrev pub valued : Flag → Bool
valued Threads = true
valued Turns = true
valued Memory = true
valued Seed = true
valued Orders = true
valued Texts = true
valued Quiet = false
