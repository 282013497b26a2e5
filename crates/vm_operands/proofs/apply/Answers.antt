use Rattle.vm_operands.proofs.Cases.{apply-ways}
use Rattle.vm_operands.proofs.apply.Goals as goal

pub returns-in-33 : goal.returns-in-33
returns-in-33 c =
    search apply-ways

pub returns-in-34 : goal.returns-in-34
returns-in-34 c =
    search apply-ways

pub returns-in-35 : goal.returns-in-35
returns-in-35 c =
    search apply-ways

pub returns-in-36 : goal.returns-in-36
returns-in-36 c =
    search apply-ways

pub returns-in-37 : goal.returns-in-37
returns-in-37 c =
    search apply-ways

pub returns-in-38 : goal.returns-in-38
returns-in-38 c =
    search apply-ways

pub returns-in-39 : goal.returns-in-39
returns-in-39 c =
    search apply-ways

pub returns-in-40 : goal.returns-in-40
returns-in-40 c =
    search apply-ways

pub returns-in-41 : goal.returns-in-41
returns-in-41 c =
    search apply-ways

pub returns-in-42 : goal.returns-in-42
returns-in-42 c =
    search apply-ways

pub returns-in-43 : goal.returns-in-43
returns-in-43 c =
    search apply-ways

pub returns-in-44 : goal.returns-in-44
returns-in-44 c =
    search apply-ways

pub returns-in-45 : goal.returns-in-45
returns-in-45 c =
    search apply-ways

pub returns-in-46 : goal.returns-in-46
returns-in-46 c =
    search apply-ways

pub returns-in-47 : goal.returns-in-47
returns-in-47 c =
    search apply-ways

pub returns-in-48 : goal.returns-in-48
returns-in-48 c =
    search apply-ways

pub returns-in-49 : goal.returns-in-49
returns-in-49 c =
    search apply-ways

pub returns-in-50 : goal.returns-in-50
returns-in-50 c =
    search apply-ways

pub returns-in-51 : goal.returns-in-51
returns-in-51 c =
    search apply-ways

pub returns-in_default : goal.returns-in_default
returns-in_default c =
    search apply-ways
