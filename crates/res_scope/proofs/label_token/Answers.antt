use Rattle.res_scope.specs.Lines.{label_token}
use Rattle.res_scope.proofs.label_token.Goals as goal

pub returns : goal.returns
unfolding label_token
returns c =
    cc
