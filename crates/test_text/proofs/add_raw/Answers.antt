use Rattle.test_text.proofs.Cases.{raw-added}
use Rattle.test_text.proofs.add_raw.Goals as goal

pub returns : goal.returns
returns c =
    search raw-added
