use Rattle.lex_lexeme.proofs.Cases.{strings, string-ends}
use borrow.Author.Rules.{rules}
use Rattle.lex_lexeme.proofs.read_string.Goals as goal

pub string_end-requires : goal.string_end-requires
string_end-requires c =
    search (string-ends, rules)

pub returns : goal.returns
returns c =
    search strings
