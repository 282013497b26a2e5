use Rattle.lex_lexeme.proofs.Cases.{marks, join-behind}
use borrow.Author.Rules.{rules}
use Rattle.lex_lexeme.proofs.read_at_sign.Goals as goal

pub at_from-requires : goal.at_from-requires
at_from-requires c =
    search (join-behind, rules)

pub returns : goal.returns
returns c =
    search marks
