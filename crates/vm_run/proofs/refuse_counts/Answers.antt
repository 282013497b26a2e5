use Rattle.vm_run.proofs.refuse_counts.Goals as goal

pub returns : goal.returns
returns c =
    cc
