use Rattle.base_prelude.proofs.Choice.{tests}
use Rattle.res_scope.specs.Names.{label_meaning}
use Rattle.res_scope.proofs.label_meaning.Goals as goal

pub returns-then-j-l : goal.returns-then-j-l
unfolding label_meaning
returns-then-j-l c =
    search tests

pub returns : goal.returns
unfolding label_meaning
returns c =
    search tests
