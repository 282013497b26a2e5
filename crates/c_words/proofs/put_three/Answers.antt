use Rattle.c_words.specs.Placed.{placed, three_at}
use Rattle.c_words.proofs.put_three.Goals as goal

pub returns : goal.returns
unfolding three_at placed
returns c =
    cc
