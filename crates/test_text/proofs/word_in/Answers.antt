use Rattle.test_text.proofs.Cases.{word_in}
use Rattle.test_text.proofs.word_in.Goals as goal

pub returns : goal.returns
returns c =
    search word_in
