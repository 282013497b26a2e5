use Rattle.test_text.proofs.Cases.{number-added}
use Rattle.test_text.proofs.add_number.Goals as goal

pub returns : goal.returns
returns c =
    search number-added
