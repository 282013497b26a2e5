use Rattle.prog_faults.proofs.Forms.{row-ways}
use Rattle.prog_faults.proofs.row_fault.Goals as goal

pub returns-then-is_test : goal.returns-then-is_test
returns-then-is_test c =
    search row-ways

pub returns-in-1 : goal.returns-in-1
returns-in-1 c =
    search row-ways

pub returns-in-2 : goal.returns-in-2
returns-in-2 c =
    search row-ways

pub returns-in-3 : goal.returns-in-3
returns-in-3 c =
    search row-ways

pub returns-in-4 : goal.returns-in-4
returns-in-4 c =
    search row-ways

pub returns-in-5 : goal.returns-in-5
returns-in-5 c =
    search row-ways

pub returns-in-6 : goal.returns-in-6
returns-in-6 c =
    search row-ways

pub returns-in-7 : goal.returns-in-7
returns-in-7 c =
    search row-ways

pub returns-in-8 : goal.returns-in-8
returns-in-8 c =
    search row-ways

pub returns-in-9 : goal.returns-in-9
returns-in-9 c =
    search row-ways

pub returns-in-10 : goal.returns-in-10
returns-in-10 c =
    search row-ways

pub returns-in-11 : goal.returns-in-11
returns-in-11 c =
    search row-ways

pub returns-in-12 : goal.returns-in-12
returns-in-12 c =
    search row-ways

pub returns-in-13 : goal.returns-in-13
returns-in-13 c =
    search row-ways

pub returns-in-20 : goal.returns-in-20
returns-in-20 c =
    search row-ways

pub returns-in-21 : goal.returns-in-21
returns-in-21 c =
    search row-ways

pub returns-in-22 : goal.returns-in-22
returns-in-22 c =
    search row-ways

pub returns-in_default : goal.returns-in_default
returns-in_default c =
    search row-ways
