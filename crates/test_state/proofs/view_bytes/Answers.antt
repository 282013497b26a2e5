use Rattle.test_state.proofs.Cases.{view-bytes-ways}
use Rattle.test_state.proofs.view_bytes.Goals as goal

pub returns-then-at-ge65537 : goal.returns-then-at-ge65537
returns-then-at-ge65537 c =
    search view-bytes-ways

pub returns : goal.returns
returns c =
    search view-bytes-ways
