use Rattle.test_state.proofs.Cases.{opened-is}
use Rattle.test_state.proofs.open_case.Goals as goal

pub returns : goal.returns
returns c =
    opened-is _ _ _ _ c.first.ensures c.one_more.ensures
