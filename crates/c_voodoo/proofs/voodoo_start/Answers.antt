use Rattle.c_voodoo.proofs.Cases.{starts}
use Rattle.c_voodoo.proofs.voodoo_start.Goals as goal

pub returns-then-record-lt-COUNT : goal.returns-then-record-lt-COUNT
returns-then-record-lt-COUNT c =
    search starts

pub returns : goal.returns
returns c =
    search starts
