use Rattle.parse_rules.proofs.Cases.{label-steps}
use Rattle.parse_rules.proofs.label_step.Goals as goal

pub returns-then-kind_at-eq-LABEL : goal.returns-then-kind_at-eq-LABEL
returns-then-kind_at-eq-LABEL c =
    search label-steps

pub returns : goal.returns
returns c =
    search label-steps
