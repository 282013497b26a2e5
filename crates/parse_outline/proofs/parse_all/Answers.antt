use Rattle.parse_outline.proofs.Answer.{outline-is}
use Rattle.parse_outline.proofs.parse_all.Goals as goal

pub returns : goal.returns
returns c =
    search outline-is
