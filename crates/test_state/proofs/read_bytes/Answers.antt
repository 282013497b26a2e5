use Rattle.test_state.proofs.Cases.{read-bytes-ways}
use Rattle.test_state.proofs.read_bytes.Goals as goal

pub returns-then-at-ge65537 : goal.returns-then-at-ge65537
returns-then-at-ge65537 c =
    search read-bytes-ways

pub returns-then-put_bytes : goal.returns-then-put_bytes
returns-then-put_bytes c =
    search read-bytes-ways

pub returns : goal.returns
returns c =
    search read-bytes-ways
