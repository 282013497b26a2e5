use Rattle.prog_verdict.proofs.Cases.{formed-ways}
use Rattle.prog_verdict.proofs.is_well_formed.Goals as goal

pub returns-then-d-gt-DATA_BYTES : goal.returns-then-d-gt-DATA_BYTES
returns-then-d-gt-DATA_BYTES c =
    search formed-ways

pub returns-then-rows_good : goal.returns-then-rows_good
returns-then-rows_good c =
    search formed-ways

pub returns-else-rows_good : goal.returns-else-rows_good
returns-else-rows_good c =
    rw c.if-rows_good.false (search formed-ways)
