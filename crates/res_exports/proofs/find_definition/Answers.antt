use Rattle.res_exports.proofs.Units.{definitions, seeking-less, seeking-fits}
use Rattle.res_exports.proofs.find_definition.Goals as goal

pub loop-x-init : goal.loop-x-init
loop-x-init c =
    search definitions

pub seek_step-requires : goal.seek_step-requires
seek_step-requires c =
    search seeking-fits

pub loop-x-smaller : goal.loop-x-smaller
loop-x-smaller c =
    search seeking-less

pub loop-x-preserved : goal.loop-x-preserved
loop-x-preserved c =
    search definitions

pub returns-in-Break : goal.returns-in-Break
returns-in-Break c =
    search definitions
