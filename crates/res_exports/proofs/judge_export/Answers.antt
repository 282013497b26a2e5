use Rattle.res_exports.proofs.Cases.{export-judged}
use Rattle.res_exports.proofs.judge_export.Goals as goal

pub returns : goal.returns
returns c =
    search export-judged
