use Rattle.res_rows.specs.Rows.{local_word}
use Rattle.res_rows.proofs.local_word.Goals as goal

pub returns-in-Let : goal.returns-in-Let
unfolding local_word
returns-in-Let c =
    cc

pub returns-in-Parameter : goal.returns-in-Parameter
unfolding local_word
returns-in-Parameter c =
    cc

pub returns-in-Label : goal.returns-in-Label
unfolding local_word
returns-in-Label c =
    cc

pub returns-in-Unknown : goal.returns-in-Unknown
unfolding local_word
returns-in-Unknown c =
    cc
