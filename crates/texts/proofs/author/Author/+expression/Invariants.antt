use Rattle.texts.proofs.author.Author.+expression.Given as goal

abbrev pub decreases-expression : goal.decreases-expression
decreases-expression l = l.deep
