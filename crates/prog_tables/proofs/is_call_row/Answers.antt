use Rattle.prog_tables.proofs.Cases.{calls}
use Rattle.prog_tables.proofs.is_call_row.Goals as goal

pub returns-then-k-eq-CALL : goal.returns-then-k-eq-CALL
returns-then-k-eq-CALL c =
    search calls

pub returns : goal.returns
returns c =
    search calls
