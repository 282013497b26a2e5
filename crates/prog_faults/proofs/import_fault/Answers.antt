use Rattle.prog_faults.proofs.Cases.{import-ways}
use Rattle.prog_faults.proofs.import_fault.Goals as goal

pub returns-then-m-le-PARAMETERS : goal.returns-then-m-le-PARAMETERS
returns-then-m-le-PARAMETERS c =
    search import-ways

pub returns-then-p-m : goal.returns-then-p-m
returns-then-p-m c =
    search import-ways

pub returns-then-j-eq-IMPORT : goal.returns-then-j-eq-IMPORT
returns-then-j-eq-IMPORT c =
    search import-ways

pub returns-then-g-lc : goal.returns-then-g-lc
returns-then-g-lc c =
    search import-ways

pub returns-then-is_import : goal.returns-then-is_import
returns-then-is_import c =
    search import-ways

pub returns : goal.returns
returns c =
    search import-ways
