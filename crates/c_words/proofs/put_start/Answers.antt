use Rattle.c_words.proofs.Cases.{start-numbered, start-worded}
use Rattle.c_words.proofs.put_start.Goals as goal

pub returns : goal.returns
returns c =
    (search start-numbered, search start-worded)
