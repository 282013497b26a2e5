use Rattle.parse_units.proofs.Cases.{lining}
use Rattle.parse_units.proofs.line_on.Goals as goal

pub returns-then-g-eq-FUNCTIONS_SECTION : goal.returns-then-g-eq-FUNCTIONS_SECTION
returns-then-g-eq-FUNCTIONS_SECTION c =
    search lining

pub returns-then-k-eq-IMPORT_LINE : goal.returns-then-k-eq-IMPORT_LINE
returns-then-k-eq-IMPORT_LINE c =
    search lining

pub returns : goal.returns
returns c =
    search lining
