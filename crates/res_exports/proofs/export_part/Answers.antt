use Rattle.res_exports.proofs.Cases.{exporting}
use Rattle.res_exports.proofs.Units.{unit-fits}
use borrow.Author.Rules.{rules}
use Rattle.res_exports.proofs.export_part.Goals as goal

pub find_definition-d-requires : goal.find_definition-d-requires
find_definition-d-requires c =
    search (unit-fits, rules)

pub returns-then-k-eq-EXPORT : goal.returns-then-k-eq-EXPORT
returns-then-k-eq-EXPORT c =
    search exporting

pub returns-then-k-eq-IMPORT_LINE : goal.returns-then-k-eq-IMPORT_LINE
returns-then-k-eq-IMPORT_LINE c =
    search exporting

pub returns : goal.returns
returns c =
    search exporting
