use Rattle.c_words.specs.Record.{state_in}
use Rattle.c_words.proofs.read_state.Goals as goal

pub returns : goal.returns
unfolding state_in
returns c =
    cc
