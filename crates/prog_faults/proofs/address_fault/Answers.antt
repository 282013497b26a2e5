use Rattle.prog_faults.proofs.Cases.{address-ways}
use Rattle.prog_faults.proofs.address_fault.Goals as goal

pub returns-then-is_address : goal.returns-then-is_address
returns-then-is_address c =
    search address-ways

pub returns-then-k-eq-SET_AT : goal.returns-then-k-eq-SET_AT
returns-then-k-eq-SET_AT c =
    search address-ways

pub returns : goal.returns
returns c =
    search address-ways
