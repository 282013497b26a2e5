use Rattle.test_text.proofs.Cases.{pause-read}
use Rattle.test_text.proofs.pause_in.Goals as goal

pub returns : goal.returns
returns c =
    search pause-read
