use Rattle.words.proofs.Listings.{listings_read_back, numerals_read_back}
use Rattle.words.proofs.scan.words_read_back.Goals as goal

pub returns : goal.returns
returns c = record { listings = listings_read_back; numerals = numerals_read_back }
