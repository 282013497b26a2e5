use Rattle.prog_tables.proofs.Cases.{calls}
use Rattle.prog_tables.proofs.is_call_expression.Goals as goal

pub returns-then-e-eq-CALL : goal.returns-then-e-eq-CALL
returns-then-e-eq-CALL c =
    search calls

pub returns : goal.returns
returns c =
    search calls
