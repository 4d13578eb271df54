-- Where in a file its flaw stands.
use Rattle.words.specs.declared.flaw.Flaw.{Flaw}
use Rattle.words.specs.declared.flaw.Flaw.TheVariants.{NoNumber, TooLong}
use Rattle.words.specs.declared.scan.Spot.{Spot}

abbrev pub flawed : Flaw → Spot
flawed (NoNumber s q) = s
flawed (TooLong s) = s
