use Rattle.res_scope.specs.Lines.{first_token}
use Rattle.res_scope.proofs.first_token.Goals as goal

pub returns : goal.returns
unfolding first_token
returns c =
    cc
