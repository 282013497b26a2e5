use Rattle.vm_operands.proofs.Cases.{eval-ways}
use Rattle.vm_operands.proofs.eval.Goals as goal

pub returns-then-e-eq-PLAIN : goal.returns-then-e-eq-PLAIN
returns-then-e-eq-PLAIN c =
    search eval-ways

pub returns-in_default : goal.returns-in_default
returns-in_default c =
    search eval-ways

pub returns-then-least_operands-eq1 : goal.returns-then-least_operands-eq1
returns-then-least_operands-eq1 c =
    search eval-ways

pub returns-in_default-read_operand : goal.returns-in_default-read_operand
returns-in_default-read_operand c =
    search eval-ways

pub returns : goal.returns
returns c =
    search eval-ways
