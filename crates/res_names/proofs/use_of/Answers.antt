use Rattle.res_names.proofs.Cases.{uses}
use Rattle.res_names.proofs.use_of.Goals as goal

pub returns-in-Label : goal.returns-in-Label
returns-in-Label c =
    search uses

pub returns-in_default : goal.returns-in_default
returns-in_default c =
    search uses
