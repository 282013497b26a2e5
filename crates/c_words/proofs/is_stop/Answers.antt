use Rattle.c_words.proofs.Cases.{stop-ways}
use Rattle.c_words.proofs.is_stop.Goals as goal

pub returns-then-k-lt30 : goal.returns-then-k-lt30
returns-then-k-lt30 c =
    search stop-ways

pub returns : goal.returns
returns c =
    search stop-ways
