use Rattle.res_names.proofs.Folds.{names-are}
use Rattle.res_names.proofs.judge_names.Goals as goal

pub returns : goal.returns
returns c =
    search names-are
