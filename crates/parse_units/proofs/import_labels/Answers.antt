use Rattle.parse_units.proofs.Cases.{importing}
use Rattle.parse_units.proofs.import_labels.Goals as goal

pub returns-then-host_at-eq0 : goal.returns-then-host_at-eq0
returns-then-host_at-eq0 c =
    search importing

pub returns-then-is_name : goal.returns-then-is_name
returns-then-is_name c =
    search importing

pub returns-then-k-eq-IMPORT_LINE : goal.returns-then-k-eq-IMPORT_LINE
returns-then-k-eq-IMPORT_LINE c =
    search importing

pub returns : goal.returns
returns c =
    search importing
