use Rattle.test_text.proofs.Loops.{counting}
use Rattle.test_text.proofs.count_fields.Goals as goal

pub returns : goal.returns
returns c =
    search counting
