use Rattle.test_state.proofs.Cases.{poke-name-ways}
use Rattle.test_state.proofs.poke_name.Goals as goal

pub returns-then-row-ge256 : goal.returns-then-row-ge256
returns-then-row-ge256 c =
    search poke-name-ways

pub returns-then-place-ge64 : goal.returns-then-place-ge64
returns-then-place-ge64 c =
    search poke-name-ways

pub returns-then-count_fields-ne5 : goal.returns-then-count_fields-ne5
returns-then-count_fields-ne5 c =
    search poke-name-ways

pub returns-then-v-gt255 : goal.returns-then-v-gt255
returns-then-v-gt255 c =
    search poke-name-ways

pub returns : goal.returns
returns c =
    search poke-name-ways
