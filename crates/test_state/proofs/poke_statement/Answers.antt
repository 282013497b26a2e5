use Rattle.test_state.proofs.Cases.{poke-statement-ways}
use Rattle.test_state.proofs.poke_statement.Goals as goal

pub returns-then-row-ge1024 : goal.returns-then-row-ge1024
returns-then-row-ge1024 c =
    search poke-statement-ways

pub returns-then-word-ge27 : goal.returns-then-word-ge27
returns-then-word-ge27 c =
    search poke-statement-ways

pub returns-then-has_values : goal.returns-then-has_values
returns-then-has_values c =
    search poke-statement-ways

pub returns : goal.returns
returns c =
    search poke-statement-ways
