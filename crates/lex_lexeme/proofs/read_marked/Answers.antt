use Rattle.lex_lexeme.proofs.Cases.{marks, join-in}
use borrow.Author.Rules.{rules}
use Rattle.lex_lexeme.proofs.read_marked.Goals as goal

pub marked_from-requires : goal.marked_from-requires
marked_from-requires c =
    search (join-in, rules)

pub returns : goal.returns
returns c =
    search marks
