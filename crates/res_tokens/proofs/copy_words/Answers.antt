use Rattle.res_tokens.specs.TokenTable.{copied}
use Rattle.res_tokens.proofs.copy_words.Goals as goal

pub returns : goal.returns
unfolding copied
returns c =
    cc
