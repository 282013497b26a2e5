use Rattle.res_rows.proofs.Cases.{slots}
use Rattle.res_rows.proofs.slot_operand.Goals as goal

pub returns-then-j-count : goal.returns-then-j-count
returns-then-j-count c =
    search slots

pub returns : goal.returns
returns c =
    search slots
