use borrow.Author.Rules.{rules}
use Rattle.lex_lexeme.proofs.Cases.{reads}
use Rattle.lex_lexeme.proofs.read_token.Goals as goal

pub returns-in-10 : goal.returns-in-10
returns-in-10 c =
    search (reads, rules)

pub returns-in-34 : goal.returns-in-34
returns-in-34 c =
    search (reads, rules)

pub returns-in-37 : goal.returns-in-37
returns-in-37 c =
    search (reads, rules)

pub returns-in-64 : goal.returns-in-64
returns-in-64 c =
    search (reads, rules)

pub returns-in_default : goal.returns-in_default
returns-in_default c =
    search (reads, rules)
