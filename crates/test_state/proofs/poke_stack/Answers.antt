use Rattle.test_state.proofs.Cases.{poke-stack-ways}
use Rattle.test_state.proofs.poke_stack.Goals as goal

pub returns-then-at-ge16385 : goal.returns-then-at-ge16385
returns-then-at-ge16385 c =
    search poke-stack-ways

pub returns-then-has_values : goal.returns-then-has_values
returns-then-has_values c =
    search poke-stack-ways

pub returns : goal.returns
returns c =
    search poke-stack-ways
