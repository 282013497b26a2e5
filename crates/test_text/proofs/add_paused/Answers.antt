use Rattle.test_text.proofs.Cases.{paused-added}
use Rattle.test_text.proofs.add_paused.Goals as goal

pub returns : goal.returns
returns c =
    search paused-added
