use Rattle.c_words.proofs.Cases.{outcome-number, outcome-words}
use Rattle.c_words.proofs.put_outcome.Goals as goal

pub returns : goal.returns
returns c =
    (search outcome-number, search outcome-words)
