use Rattle.test_text.proofs.Cases.{poked}
use Rattle.test_text.proofs.poke_record.Goals as goal

pub returns-then-is_state_poke : goal.returns-then-is_state_poke
returns-then-is_state_poke c =
    search poked

pub returns : goal.returns
returns c =
    search poked
