use Rattle.test_text.proofs.Cases.{record-added}
use Rattle.test_text.proofs.add_record.Goals as goal

pub returns : goal.returns
returns c =
    search record-added
