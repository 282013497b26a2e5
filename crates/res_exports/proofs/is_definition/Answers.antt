use borrow.Author.Rules.{rules}
use Rattle.res_exports.proofs.Lists.{definition-by, ranging}
use Rattle.res_exports.proofs.is_definition.Goals as goal

pub returns-in-1 : goal.returns-in-1
returns-in-1 c =
    search (definition-by, ranging, rules)

pub returns-in-1-2 : goal.returns-in-1-2
returns-in-1-2 c =
    search (definition-by, ranging, rules)

pub returns-in_default : goal.returns-in_default
returns-in_default c =
    search (definition-by, ranging, rules)

pub returns-in_default-2 : goal.returns-in_default-2
returns-in_default-2 c =
    search (definition-by, ranging, rules)
