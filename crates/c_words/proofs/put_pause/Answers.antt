use Rattle.c_words.proofs.Cases.{pause-stored}
use Rattle.c_words.proofs.put_pause.Goals as goal

pub returns : goal.returns
returns c =
    search pause-stored
