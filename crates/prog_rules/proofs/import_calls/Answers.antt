use Rattle.prog_rules.proofs.Goals.{importing}
use Rattle.prog_rules.proofs.import_calls.Goals as goal

pub returns-then-k-g : goal.returns-then-k-g
returns-then-k-g c =
    search importing

pub returns-then-is_import : goal.returns-then-is_import
returns-then-is_import c =
    search importing

pub returns : goal.returns
returns c =
    search importing
