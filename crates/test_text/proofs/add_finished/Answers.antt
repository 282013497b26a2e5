use Rattle.test_text.proofs.Cases.{finished-added}
use Rattle.test_text.proofs.add_finished.Goals as goal

pub returns : goal.returns
returns c =
    search finished-added
