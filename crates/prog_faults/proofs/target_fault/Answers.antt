use Rattle.prog_faults.proofs.Cases.{target-ways}
use Rattle.prog_faults.proofs.target_fault.Goals as goal

pub returns-then-g-h : goal.returns-then-g-h
returns-then-g-h c =
    search target-ways

pub returns-then-a-c : goal.returns-then-a-c
returns-then-a-c c =
    search target-ways

pub returns-then-is_in_function : goal.returns-then-is_in_function
returns-then-is_in_function c =
    search target-ways

pub returns-then-is_jump : goal.returns-then-is_jump
returns-then-is_jump c =
    search target-ways

pub returns : goal.returns
returns c =
    search target-ways
