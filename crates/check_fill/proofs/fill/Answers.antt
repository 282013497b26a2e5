use Rattle.check_fill.proofs.Cases.{fill_is}
use Rattle.check_fill.proofs.fill.Goals as goal

pub returns : goal.returns
returns c =
    search fill_is
