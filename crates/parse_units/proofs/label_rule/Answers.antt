use Rattle.parse_units.proofs.Cases.{labelling}
use Rattle.parse_units.proofs.label_rule.Goals as goal

pub returns-then-may_label : goal.returns-then-may_label
returns-then-may_label c =
    search labelling

pub returns-then-kind_at-eq-LABEL : goal.returns-then-kind_at-eq-LABEL
returns-then-kind_at-eq-LABEL c =
    search labelling

pub returns : goal.returns
returns c =
    search labelling
