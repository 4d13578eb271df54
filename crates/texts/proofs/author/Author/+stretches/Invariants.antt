use Rattle.texts.proofs.author.Author.+stretches.Given as goal

abbrev pub decreases-stretches : goal.decreases-stretches
decreases-stretches l = l.deep
