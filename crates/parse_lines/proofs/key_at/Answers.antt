use Rattle.parse_lines.specs.Tokens.{key_at}
use Rattle.parse_lines.proofs.key_at.Goals as goal

pub returns : goal.returns
unfolding key_at
returns c =
    cc
