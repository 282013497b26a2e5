use Rattle.file_tables.proofs.Cases.{row-unpacked}
use Rattle.file_tables.proofs.unpack_row.Goals as goal

pub returns : goal.returns
returns c =
    search row-unpacked
