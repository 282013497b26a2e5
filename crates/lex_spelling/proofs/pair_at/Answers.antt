use Rattle.lex_spelling.specs.Pair.{pair_at}
use Rattle.lex_spelling.proofs.pair_at.Goals as goal

pub returns : goal.returns
unfolding pair_at
returns c =
    cc
