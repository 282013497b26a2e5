use Rattle.test_text.proofs.Cases.{eight-held}
use Rattle.test_text.proofs.eight_words.Goals as goal

pub returns : goal.returns
returns c =
    search eight-held
