use Rattle.res_scope.specs.Lines.{end_token}
use Rattle.res_scope.proofs.end_token.Goals as goal

pub returns : goal.returns
unfolding end_token
returns c =
    cc
