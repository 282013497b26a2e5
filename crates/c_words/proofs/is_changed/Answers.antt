use Rattle.c_words.proofs.Cases.{change-ways}
use Rattle.c_words.proofs.is_changed.Goals as goal

pub returns-then-n-ne0 : goal.returns-then-n-ne0
returns-then-n-ne0 c =
    search change-ways

pub returns : goal.returns
returns c =
    search change-ways
