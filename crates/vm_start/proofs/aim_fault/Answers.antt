use Rattle.vm_start.proofs.Cases.{aim-ways}
use Rattle.vm_start.proofs.aim_fault.Goals as goal

pub returns-then-is_data : goal.returns-then-is_data
returns-then-is_data c =
    search aim-ways

pub returns-then-is_function_label : goal.returns-then-is_function_label
returns-then-is_function_label c =
    search aim-ways

pub returns-then-k-eq-PLACE : goal.returns-then-k-eq-PLACE
returns-then-k-eq-PLACE c =
    search aim-ways

pub returns : goal.returns
returns c =
    search aim-ways
