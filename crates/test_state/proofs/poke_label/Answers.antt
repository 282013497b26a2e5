use Rattle.test_state.proofs.Cases.{poke-label-ways}
use Rattle.test_state.proofs.poke_label.Goals as goal

pub returns-then-row-ge256 : goal.returns-then-row-ge256
returns-then-row-ge256 c =
    search poke-label-ways

pub returns-then-word-ge4 : goal.returns-then-word-ge4
returns-then-word-ge4 c =
    search poke-label-ways

pub returns-then-has_values : goal.returns-then-has_values
returns-then-has_values c =
    search poke-label-ways

pub returns : goal.returns
returns c =
    search poke-label-ways
