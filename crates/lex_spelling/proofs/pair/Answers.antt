use Rattle.base_prelude.proofs.Choice.{tests}
use Rattle.lex_spelling.specs.Pair.{pair_of, pair_one, pair_end}
use Rattle.lex_spelling.proofs.pair.Goals as goal

pub returns-then-x-y : goal.returns-then-x-y
unfolding pair_of pair_one pair_end
returns-then-x-y c =
    rw (c.in-Ok-Ok.is-0, c.in-Ok-Ok.is-1) (search tests)

pub returns-else-x-y : goal.returns-else-x-y
unfolding pair_of pair_one pair_end
returns-else-x-y c =
    rw (c.in-Ok-Ok.is-0, c.in-Ok-Ok.is-1) (search tests)

pub returns-in-Err-Err : goal.returns-in-Err-Err
unfolding pair_of pair_one pair_end
returns-in-Err-Err c =
    rw (c.in-Err-Err.is-0, c.in-Err-Err.is-1)

pub returns-in-Ok-Err : goal.returns-in-Ok-Err
unfolding pair_of pair_one pair_end
returns-in-Ok-Err c =
    rw (c.in-Ok-Err.is-0, c.in-Ok-Err.is-1)

pub returns-in-Err-Ok : goal.returns-in-Err-Ok
unfolding pair_of pair_one pair_end
returns-in-Err-Ok c =
    rw (c.in-Err-Ok.is-0, c.in-Err-Ok.is-1)
