use Rattle.test_text.proofs.Cases.{stopped-added}
use Rattle.test_text.proofs.add_stopped.Goals as goal

pub returns : goal.returns
returns c =
    search stopped-added
