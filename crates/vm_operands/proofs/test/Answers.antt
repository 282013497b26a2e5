use Rattle.vm_operands.proofs.Cases.{holds-ways}
use Rattle.vm_operands.proofs.test.Goals as goal

pub returns-in-14 : goal.returns-in-14
returns-in-14 c =
    search holds-ways

pub returns-in-15 : goal.returns-in-15
returns-in-15 c =
    search holds-ways

pub returns-in-16 : goal.returns-in-16
returns-in-16 c =
    search holds-ways

pub returns-in-17 : goal.returns-in-17
returns-in-17 c =
    search holds-ways

pub returns-in-18 : goal.returns-in-18
returns-in-18 c =
    search holds-ways

pub returns-in_default : goal.returns-in_default
returns-in_default c =
    search holds-ways
