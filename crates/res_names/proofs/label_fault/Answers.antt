use Rattle.res_names.proofs.Cases.{seconds}
use Rattle.res_names.proofs.label_fault.Goals as goal

pub returns-then-find_label-j : goal.returns-then-find_label-j
returns-then-find_label-j c =
    search seconds

pub returns : goal.returns
returns c =
    search seconds
