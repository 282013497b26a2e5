use Rattle.test_state.proofs.Cases.{poke-record-ways}
use Rattle.test_state.proofs.poke_record.Goals as goal

pub returns-then-is_record_poke : goal.returns-then-is_record_poke
returns-then-is_record_poke c =
    search poke-record-ways

pub returns : goal.returns
returns c =
    search poke-record-ways
