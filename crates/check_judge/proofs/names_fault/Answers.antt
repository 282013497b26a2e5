use Rattle.check_judge.proofs.Cases.{names-are}
use Rattle.check_judge.proofs.names_fault.Goals as goal

pub returns : goal.returns
returns c =
    search names-are
