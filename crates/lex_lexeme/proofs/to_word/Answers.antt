use Rattle.lex_lexeme.proofs.Digits.{wording, word-order, word-one, word_fits, word_small}
use borrow.Author.Rules.{rules}
use Rattle.lex_lexeme.proofs.to_word.Goals as goal

pub returns-then-half_of-v : goal.returns-then-half_of-v
returns-then-half_of-v c =
    search wording

pub overflow_sub-result : goal.overflow_sub-result
overflow_sub-result c =
    search (word-order, rules)

pub nonzero_rem-result : goal.nonzero_rem-result
nonzero_rem-result c =
    search (word-one, rules)

pub overflow_cast-result : goal.overflow_cast-result
overflow_cast-result c =
    search (word_fits, rules)

pub returns-then-negative : goal.returns-then-negative
returns-then-negative c =
    search wording

pub overflow_cast-result-then-v-whole : goal.overflow_cast-result-then-v-whole
overflow_cast-result-then-v-whole c =
    search (word_small, rules)

pub returns-then-v-whole : goal.returns-then-v-whole
returns-then-v-whole c =
    search wording

pub returns : goal.returns
returns c =
    search wording
