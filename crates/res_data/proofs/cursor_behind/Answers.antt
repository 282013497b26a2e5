use Rattle.res_data.specs.Sizes.{cursor_behind}
use Rattle.res_data.proofs.cursor_behind.Goals as goal

pub returns : goal.returns
unfolding cursor_behind
returns c =
    cc
