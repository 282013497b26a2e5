use Rattle.res_hosts.proofs.Cases.{marking, mark-low, mark-few}
use borrow.Author.Rules.{rules}
use Rattle.res_hosts.proofs.mark_name.Goals as goal

pub arguments_at-requires : goal.arguments_at-requires
arguments_at-requires c =
    search (mark-low, rules)

pub mark_of-requires : goal.mark_of-requires
mark_of-requires c =
    search (mark-low, mark-few, rules)

pub returns-then-i-entries : goal.returns-then-i-entries
returns-then-i-entries c =
    search marking

pub returns : goal.returns
returns c =
    search marking
