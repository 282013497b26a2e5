use Rattle.parse_outline.proofs.Cases.{importing}
use Rattle.parse_outline.proofs.mark_import.Goals as goal

pub returns-then-import_labels-eq0 : goal.returns-then-import_labels-eq0
returns-then-import_labels-eq0 c =
    search importing

pub returns : goal.returns
returns c =
    search importing
