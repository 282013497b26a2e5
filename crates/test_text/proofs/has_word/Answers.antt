use Rattle.test_text.proofs.Cases.{word_at}
use Rattle.test_text.proofs.has_word.Goals as goal

pub returns : goal.returns
returns c =
    search word_at
