use Rattle.lex_source.proofs.Cases.{word-front}
use borrow.Author.Rules.{rules}
use Rattle.lex_source.proofs.word_at.Goals as goal

pub returns : goal.returns
returns c =
    search (word-front, rules)
