use borrow.Author.Rules.{rules}
use Rattle.lex_source.proofs.Cases.{standing}
use Rattle.lex_source.proofs.substitute_value.Goals as goal

pub returns-in-1 : goal.returns-in-1
returns-in-1 c =
    search (standing, rules)

pub returns-in-2 : goal.returns-in-2
returns-in-2 c =
    search (standing, rules)

pub returns-in_default : goal.returns-in_default
returns-in_default c =
    search (standing, rules)
