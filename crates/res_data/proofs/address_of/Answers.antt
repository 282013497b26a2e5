use Rattle.res_data.proofs.Cases.{address-is}
use Rattle.res_data.proofs.address_of.Goals as goal

pub returns : goal.returns
returns c =
    search address-is
