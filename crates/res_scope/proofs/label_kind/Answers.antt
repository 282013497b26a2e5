use Rattle.res_scope.specs.Lines.{label_kind}
use Rattle.res_scope.proofs.label_kind.Goals as goal

pub returns : goal.returns
unfolding label_kind
returns c =
    cc
