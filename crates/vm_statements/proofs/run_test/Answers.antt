use Rattle.vm_statements.proofs.Cases.{tested}
use Rattle.vm_statements.proofs.run_test.Goals as goal

pub returns-in_default : goal.returns-in_default
returns-in_default c =
    search tested

pub returns-in_default-read_operand : goal.returns-in_default-read_operand
returns-in_default-read_operand c =
    search tested

pub returns : goal.returns
returns c =
    search tested
