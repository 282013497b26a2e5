use Rattle.res_rows.proofs.Cases.{addresses}
use Rattle.res_rows.proofs.address_of.Goals as goal

pub returns-then-kind-eq-SET_AT : goal.returns-then-kind-eq-SET_AT
returns-then-kind-eq-SET_AT c =
    search addresses

pub returns : goal.returns
returns c =
    search addresses
