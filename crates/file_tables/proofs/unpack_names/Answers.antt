use Rattle.file_tables.proofs.Cases.{fielding}
use Rattle.file_tables.proofs.unpack_names.Goals as goal

pub loop-i-init : goal.loop-i-init
loop-i-init c =
    search fielding

pub body-requires : goal.body-requires
body-requires c =
    search fielding

pub behind-p-requires : goal.behind-p-requires
behind-p-requires c =
    search fielding

pub loop-i-preserved : goal.loop-i-preserved
loop-i-preserved c =
    search fielding

pub returns : goal.returns
returns c =
    search fielding
