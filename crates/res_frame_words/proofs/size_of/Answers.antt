use Rattle.prog_tables.specs.Frames.{frame_size}
use Rattle.res_frame_words.proofs.size_of.Goals as goal

pub returns : goal.returns
unfolding frame_size
returns c =
    cc
