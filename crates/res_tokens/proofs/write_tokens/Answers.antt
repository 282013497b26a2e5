use Rattle.res_tokens.specs.TokenTable.{token_table}
use Rattle.res_tokens.proofs.write_tokens.Goals as goal

pub returns : goal.returns
unfolding token_table
returns c =
    cc
