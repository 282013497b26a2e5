use Rattle.vm_run.proofs.Cases.{obeying, obey-asks, obey-ready}
use Rattle.vm_run.proofs.obey.Goals as goal

pub pause-requires : goal.pause-requires
pause-requires c =
    search obey-asks

pub returns-then-is_importing : goal.returns-then-is_importing
returns-then-is_importing c =
    search obeying

pub execute-requires : goal.execute-requires
execute-requires c =
    search obey-ready

pub returns : goal.returns
returns c =
    search obeying
