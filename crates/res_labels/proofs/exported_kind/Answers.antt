use Rattle.base_prelude.proofs.Choice.{tests}
use borrow.Author.Rules.{rules}
use Rattle.res_labels.specs.Labelling.{exported_kind}
use Rattle.res_labels.proofs.exported_kind.Goals as goal

pub returns-in-1 : goal.returns-in-1
unfolding exported_kind
returns-in-1 c =
    search (tests, rules)

pub returns-in-3 : goal.returns-in-3
unfolding exported_kind
returns-in-3 c =
    search (tests, rules)

pub returns-in_default : goal.returns-in_default
unfolding exported_kind
returns-in_default c =
    search (tests, rules)
