use Rattle.test_text.proofs.Cases.{resumptions}
use Rattle.test_text.proofs.add_resumed.Goals as goal

pub returns-then-o : goal.returns-then-o
returns-then-o c =
    search resumptions

pub returns : goal.returns
returns c =
    search resumptions
