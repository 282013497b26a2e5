use borrow.Author.Rules.{rules}
use Rattle.parse_rules.proofs.Loops.{labelling, labels-few}
use Rattle.parse_rules.proofs.labels_from.Goals as goal

pub loop-i-init : goal.loop-i-init
loop-i-init c =
    search labelling

pub label_step-x-requires : goal.label_step-x-requires
label_step-x-requires c =
    search (labels-few, rules)

pub loop-i-preserved : goal.loop-i-preserved
loop-i-preserved c =
    search labelling

pub returns : goal.returns
returns c =
    search labelling
