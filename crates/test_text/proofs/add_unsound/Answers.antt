use Rattle.test_text.proofs.Cases.{unsound-added}
use Rattle.test_text.proofs.add_unsound.Goals as goal

pub returns : goal.returns
returns c =
    search unsound-added
