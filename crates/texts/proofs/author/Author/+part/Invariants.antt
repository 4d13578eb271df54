use Rattle.texts.proofs.author.Author.+part.Given as goal

abbrev pub decreases-part : goal.decreases-part
decreases-part l = l.deep
