use Rattle.vm_counts.proofs.Cases.{label-ways}
use Rattle.vm_counts.proofs.labels_past.Goals as goal

pub returns-then-l-labels : goal.returns-then-l-labels
returns-then-l-labels c =
    search label-ways

pub returns : goal.returns
returns c =
    search label-ways
