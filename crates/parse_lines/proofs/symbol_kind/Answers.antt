use Rattle.parse_lines.proofs.Cases.{symbolic}
use borrow.Author.Rules.{rules}
use Rattle.parse_lines.proofs.symbol_kind.Goals as goal

pub returns-in-1 : goal.returns-in-1
returns-in-1 c =
    search (symbolic, rules)

pub returns-in-11 : goal.returns-in-11
returns-in-11 c =
    search (symbolic, rules)

pub returns-in-12 : goal.returns-in-12
returns-in-12 c =
    search (symbolic, rules)

pub returns-in-18 : goal.returns-in-18
returns-in-18 c =
    search (symbolic, rules)

pub returns-in_default : goal.returns-in_default
returns-in_default c =
    search (symbolic, rules)

pub returns-in-1-2 : goal.returns-in-1-2
returns-in-1-2 c =
    search (symbolic, rules)

pub returns-in-1-2-2 : goal.returns-in-1-2-2
returns-in-1-2-2 c =
    search (symbolic, rules)
