use borrow.Author.Rules.{rules}
use Rattle.lex_source.proofs.Cases.{valuing}
use Rattle.lex_source.proofs.value_of.Goals as goal

pub returns-then-is_substitute : goal.returns-then-is_substitute
returns-then-is_substitute c =
    search (valuing, rules)

pub returns-in-7 : goal.returns-in-7
returns-in-7 c =
    search (valuing, rules)

pub returns-in_default : goal.returns-in_default
returns-in_default c =
    search (valuing, rules)
