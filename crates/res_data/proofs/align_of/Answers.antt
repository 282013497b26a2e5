use Rattle.res_data.proofs.Cases.{aligning}
use Rattle.res_data.proofs.align_of.Goals as goal

pub returns-then-operand_count-eq0 : goal.returns-then-operand_count-eq0
returns-then-operand_count-eq0 c =
    search aligning

pub returns : goal.returns
returns c =
    search aligning
