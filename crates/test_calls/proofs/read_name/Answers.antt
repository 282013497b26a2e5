use Rattle.test_calls.proofs.Cases.{read-name-is}
use Rattle.test_calls.proofs.read_name.Goals as goal

pub returns : goal.returns
returns c =
    search read-name-is
