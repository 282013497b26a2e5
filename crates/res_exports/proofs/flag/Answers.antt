use Rattle.res_exports.proofs.Cases.{flagging}
use Rattle.res_exports.proofs.flag.Goals as goal

pub returns-then-l-j : goal.returns-then-l-j
returns-then-l-j c =
    search flagging

pub returns-then-w-flags : goal.returns-then-w-flags
returns-then-w-flags c =
    search flagging

pub returns-else-w-flags : goal.returns-else-w-flags
returns-else-w-flags c =
    search flagging
