use Rattle.prog_tables.proofs.Cases.{calls}
use Rattle.prog_tables.proofs.is_import.Goals as goal

pub returns-then-is_call_row : goal.returns-then-is_call_row
returns-then-is_call_row c =
    search calls

pub returns-then-e-eq-IMPORT : goal.returns-then-e-eq-IMPORT
returns-then-e-eq-IMPORT c =
    search calls

pub returns : goal.returns
returns c =
    search calls
