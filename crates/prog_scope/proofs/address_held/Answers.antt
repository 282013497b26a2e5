use Rattle.prog_scope.proofs.Cases.{address-ways}
use Rattle.prog_scope.proofs.address_held.Goals as goal

pub returns-then-is_address : goal.returns-then-is_address
returns-then-is_address c =
    search address-ways

pub returns-then-j-eq-SET_AT : goal.returns-then-j-eq-SET_AT
returns-then-j-eq-SET_AT c =
    search address-ways

pub returns : goal.returns
returns c =
    search address-ways
