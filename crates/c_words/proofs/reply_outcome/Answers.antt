use Rattle.c_words.proofs.Cases.{outcome-replied}
use Rattle.c_words.proofs.reply_outcome.Goals as goal

pub returns : goal.returns
returns c =
    search outcome-replied
