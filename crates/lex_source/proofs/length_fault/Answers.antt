use borrow.Author.Rules.{rules}
use Rattle.lex_source.proofs.Cases.{faulting}
use Rattle.lex_source.proofs.length_fault.Goals as goal

pub returns-then-x-gt-NAME_BYTES : goal.returns-then-x-gt-NAME_BYTES
returns-then-x-gt-NAME_BYTES c =
    search (faulting, rules)

pub returns : goal.returns
returns c =
    search (faulting, rules)
