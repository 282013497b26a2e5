use Rattle.test_state.proofs.Cases.{read-memory-ways}
use Rattle.test_state.proofs.read_memory.Goals as goal

pub returns-then-count_fields-ne2 : goal.returns-then-count_fields-ne2
returns-then-count_fields-ne2 c =
    search read-memory-ways

pub returns-then-n-gt65537 : goal.returns-then-n-gt65537
returns-then-n-gt65537 c =
    search read-memory-ways

pub returns : goal.returns
returns c =
    search read-memory-ways
