use borrow.Author.Tests.{true-ltb, false-ltb}
use Rattle.std.proofs.Common.{rules}
use Rattle.rows.proofs.Texts.{broken, short_table, too_many_words, no_words, too_many_variables, no_body, words_after, decoded}
use Rattle.rows.proofs.decoder.decode.Goals as goal

pub returns-then-ends-words : goal.returns-then-ends-words
returns-then-ends-words c = short_table _ _ _ _ c.at.ensures c.if-ends-words.true

pub returns-then-too_many_words : goal.returns-then-too_many_words
returns-then-too_many_words c = too_many_words _ _ _ _ c.at-then-too_many_words.ensures (true-ltb _ _ c.if-too_many_words.ensures)

pub returns-in_err-variables : goal.returns-in_err-variables
returns-in_err-variables c = broken _ _ _ _ _ c.from_residual.ensures.1 (no_words _ _ _ _ c.in_err-variables.ensures.value)

pub returns-then-too_many_variables : goal.returns-then-too_many_variables
returns-then-too_many_variables c =
    too_many_variables _ _ _ c.in_ok-variables.ensures.front _ _ c.at-then-too_many_variables.ensures (true-ltb _ _ c.if-too_many_variables.ensures)

pub returns-in_err-whole : goal.returns-in_err-whole
returns-in_err-whole c =
    broken _ _ _ _ _ c.from_residual-in_err-whole.ensures.1 (no_body _ _ _ c.in_ok-variables.ensures.front _ _ _ _ c.in_err-whole.ensures.told)

pub returns-then-words_behind : goal.returns-then-words_behind
returns-then-words_behind c =
    words_after _ _ _ c.in_ok-variables.ensures.front _ _ _ c.in_ok-whole.ensures.told _ _ c.at-then-words_behind.ensures (true-ltb _ _ c.if-words_behind.ensures)

pub returns : goal.returns
returns c =
    decoded _ _ _ c.in_ok-variables.ensures.front _ _ _ c.in_ok-whole.ensures.told _ (search rules)
    (false-ltb _ _ c.if-too_many_words.ensures) (false-ltb _ _ c.if-too_many_variables.ensures) (search rules) (false-ltb _ _ c.if-words_behind.ensures)
