use Rattle.c_words.proofs.Cases.{record-stored}
use Rattle.c_words.proofs.store_record.Goals as goal

pub returns : goal.returns
returns c =
    search record-stored
