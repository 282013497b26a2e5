use Rattle.file_tables.proofs.Cases.{arguments-import, arguments-none}
use Rattle.file_tables.proofs.arguments_in.Goals as goal

pub returns-then-k-eq-IMPORT : goal.returns-then-k-eq-IMPORT
returns-then-k-eq-IMPORT c =
    search arguments-import

pub returns : goal.returns
returns c =
    search arguments-none
