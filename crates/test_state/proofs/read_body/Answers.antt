use Rattle.test_state.proofs.Cases.{read-body-is}
use Rattle.test_state.proofs.read_body.Goals as goal

pub returns : goal.returns
returns c =
    search read-body-is
