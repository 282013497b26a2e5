use borrow.Author.Rules.{rules}
use Rattle.lex_source.proofs.Cases.{faulting}
use Rattle.lex_source.proofs.follow_fault.Goals as goal

pub returns-then-x-lt-SYMBOL : goal.returns-then-x-lt-SYMBOL
returns-then-x-lt-SYMBOL c =
    search (faulting, rules)

pub returns : goal.returns
returns c =
    search (faulting, rules)
