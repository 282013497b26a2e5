use Rattle.test_text.proofs.Cases.{next-added}
use Rattle.test_text.proofs.add_next.Goals as goal

pub returns : goal.returns
returns c =
    search next-added
