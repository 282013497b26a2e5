use Rattle.test_text.proofs.Cases.{counted-added}
use Rattle.test_text.proofs.add_counted.Goals as goal

pub returns : goal.returns
returns c =
    search counted-added
