use Rattle.test_state.proofs.Cases.{read-poke-ways}
use Rattle.test_state.proofs.read_poke.Goals as goal

pub returns-then-starts_with : goal.returns-then-starts_with
returns-then-starts_with c =
    search read-poke-ways

pub returns-then-starts_with-2 : goal.returns-then-starts_with-2
returns-then-starts_with-2 c =
    search read-poke-ways

pub returns-then-starts_with-3 : goal.returns-then-starts_with-3
returns-then-starts_with-3 c =
    search read-poke-ways

pub returns-then-starts_with-4 : goal.returns-then-starts_with-4
returns-then-starts_with-4 c =
    search read-poke-ways

pub returns-then-starts_with-5 : goal.returns-then-starts_with-5
returns-then-starts_with-5 c =
    search read-poke-ways

pub returns : goal.returns
returns c =
    search read-poke-ways
