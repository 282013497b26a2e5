use Rattle.lex_lexeme.proofs.Cases.{strings, ending-in}
use borrow.Author.Rules.{rules}
use Rattle.lex_lexeme.proofs.string_end.Goals as goal

pub string_to-requires : goal.string_to-requires
string_to-requires c =
    search (ending-in, rules)

pub returns-in-Stopped : goal.returns-in-Stopped
returns-in-Stopped c =
    search strings

pub returns-in-Broken : goal.returns-in-Broken
returns-in-Broken c =
    search strings
