use Rattle.prog_faults.proofs.Cases.{function-ways}
use Rattle.prog_faults.proofs.function_fault.Goals as goal

pub returns-then-m-le-PARAMETERS : goal.returns-then-m-le-PARAMETERS
returns-then-m-le-PARAMETERS c =
    search function-ways

pub returns-then-p-m : goal.returns-then-p-m
returns-then-p-m c =
    search function-ways

pub returns-then-j-eq-FUNCTION : goal.returns-then-j-eq-FUNCTION
returns-then-j-eq-FUNCTION c =
    search function-ways

pub returns-then-g-c : goal.returns-then-g-c
returns-then-g-c c =
    search function-ways

pub returns-then-is_call : goal.returns-then-is_call
returns-then-is_call c =
    search function-ways

pub returns : goal.returns
returns c =
    search function-ways
