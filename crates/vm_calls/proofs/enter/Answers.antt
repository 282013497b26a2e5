use Rattle.vm_calls.proofs.Cases.{entered, built}
use Rattle.vm_calls.proofs.enter.Goals as goal

pub returns : goal.returns
returns c =
    (search entered, search built)
