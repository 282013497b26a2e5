use Rattle.res_frame_words.specs.Framing.{word_of}
use Rattle.res_frame_words.proofs.word_of.Goals as goal

pub returns : goal.returns
unfolding word_of
returns c =
    cc
