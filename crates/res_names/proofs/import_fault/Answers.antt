use Rattle.res_names.proofs.Cases.{imports}
use Rattle.res_names.proofs.import_fault.Goals as goal

pub returns-then-label_arguments-count : goal.returns-then-label_arguments-count
returns-then-label_arguments-count c =
    search imports

pub returns-then-label_kind-eq-IMPORT : goal.returns-then-label_kind-eq-IMPORT
returns-then-label_kind-eq-IMPORT c =
    search imports

pub returns : goal.returns
returns c =
    search imports
