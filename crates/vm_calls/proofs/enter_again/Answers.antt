use Rattle.vm_calls.proofs.Cases.{kept_top, kept-head}
use Rattle.vm_calls.proofs.enter_again.Goals as goal

pub returns : goal.returns
returns c =
    (search kept_top, search kept-head)
