use Rattle.parse_outline.proofs.Answer.{answering}
use Rattle.parse_outline.proofs.answer_of.Goals as goal

pub returns-in-Ok : goal.returns-in-Ok
returns-in-Ok c =
    search answering

pub returns-in-Err : goal.returns-in-Err
returns-in-Err c =
    search answering
