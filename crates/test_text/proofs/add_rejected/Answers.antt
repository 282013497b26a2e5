use Rattle.test_text.proofs.Cases.{rejected-added}
use Rattle.test_text.proofs.add_rejected.Goals as goal

pub returns : goal.returns
returns c =
    search rejected-added
