use Rattle.prog_tables.specs.Frames.{block_word}
use Rattle.prog_frames.proofs.block_word.Goals as goal

pub returns : goal.returns
unfolding block_word
returns c =
    cc
