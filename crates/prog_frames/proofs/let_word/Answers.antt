use Rattle.prog_tables.specs.Frames.{let_word}
use Rattle.prog_frames.proofs.let_word.Goals as goal

pub returns : goal.returns
unfolding let_word
returns c =
    cc
