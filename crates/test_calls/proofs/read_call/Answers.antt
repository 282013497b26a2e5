use Rattle.test_calls.proofs.Cases.{read-call-is}
use Rattle.test_calls.proofs.read_call.Goals as goal

pub returns : goal.returns
returns c =
    search read-call-is
