use Rattle.c_words.proofs.Cases.{opening-replied}
use Rattle.c_words.proofs.reply_opening.Goals as goal

pub returns : goal.returns
returns c =
    search opening-replied
