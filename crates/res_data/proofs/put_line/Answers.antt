use Rattle.res_data.proofs.Cases.{putting}
use Rattle.res_data.proofs.put_line.Goals as goal

pub returns-then-from-out : goal.returns-then-from-out
returns-then-from-out c =
    search putting

pub returns-else-from-out : goal.returns-else-from-out
returns-else-from-out c =
    search putting
