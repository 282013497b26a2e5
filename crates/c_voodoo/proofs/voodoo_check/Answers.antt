use Rattle.c_voodoo.proofs.Cases.{told_is}
use Rattle.c_voodoo.proofs.voodoo_check.Goals as goal

pub returns : goal.returns
returns c =
    search told_is
