use Rattle.prog_tables.specs.Faults.{address_listed}
use Rattle.prog_faults.proofs.is_address.Goals as goal

pub returns-in-Constant : goal.returns-in-Constant
unfolding address_listed
returns-in-Constant c =
    cc

pub returns-in-Local : goal.returns-in-Local
unfolding address_listed
returns-in-Local c =
    cc

pub returns-in-Address : goal.returns-in-Address
unfolding address_listed
returns-in-Address c =
    cc

pub returns-in-AtConstant : goal.returns-in-AtConstant
unfolding address_listed
returns-in-AtConstant c =
    cc

pub returns-in-AtLocal : goal.returns-in-AtLocal
unfolding address_listed
returns-in-AtLocal c =
    cc

pub returns-in-AtAddress : goal.returns-in-AtAddress
unfolding address_listed
returns-in-AtAddress c =
    cc

pub returns-in-Unlisted : goal.returns-in-Unlisted
unfolding address_listed
returns-in-Unlisted c =
    cc
