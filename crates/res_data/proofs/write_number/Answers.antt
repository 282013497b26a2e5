use Rattle.res_data.proofs.Cases.{writing}
use Rattle.res_data.proofs.write_number.Goals as goal

pub loop-k-init : goal.loop-k-init
loop-k-init c =
    search writing

pub loop-k-preserved : goal.loop-k-preserved
loop-k-preserved c =
    search writing

pub returns : goal.returns
returns c =
    search writing
