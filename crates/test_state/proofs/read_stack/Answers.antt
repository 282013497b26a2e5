use Rattle.test_state.proofs.Cases.{read-stack-ways}
use Rattle.test_state.proofs.read_stack.Goals as goal

pub returns-then-count_fields-ne2 : goal.returns-then-count_fields-ne2
returns-then-count_fields-ne2 c =
    search read-stack-ways

pub returns-then-n-gt16385 : goal.returns-then-n-gt16385
returns-then-n-gt16385 c =
    search read-stack-ways

pub returns : goal.returns
returns c =
    search read-stack-ways
