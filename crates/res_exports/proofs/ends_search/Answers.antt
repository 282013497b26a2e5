use borrow.Author.Rules.{rules}
use Rattle.res_exports.proofs.Lists.{ends_by, ranging}
use Rattle.res_exports.proofs.ends_search.Goals as goal

pub returns-in-0 : goal.returns-in-0
returns-in-0 c =
    search (ends_by, ranging, rules)

pub returns-in-0-2 : goal.returns-in-0-2
returns-in-0-2 c =
    search (ends_by, ranging, rules)

pub returns-in_default : goal.returns-in_default
returns-in_default c =
    search (ends_by, ranging, rules)

pub returns-in_default-2 : goal.returns-in_default-2
returns-in_default-2 c =
    search (ends_by, ranging, rules)
