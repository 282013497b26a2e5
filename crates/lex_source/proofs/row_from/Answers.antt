use Rattle.lex_source.proofs.Filling.{rowing, named-size, named-short, name-fits}
use borrow.Author.Rules.{rules}
use Rattle.lex_source.proofs.row_from.Goals as goal

pub word_at-word-requires : goal.word_at-word-requires
word_at-word-requires c =
    search (named-size, named-short, rules)

pub overflow_cast-result-then-is_named-2 : goal.overflow_cast-result-then-is_named-2
overflow_cast-result-then-is_named-2 c =
    search (name-fits, rules)

pub returns-then-is_named : goal.returns-then-is_named
returns-then-is_named c =
    search rowing

pub returns : goal.returns
returns c =
    search rowing
