use Rattle.res_rows.proofs.Cases.{operands}
use Rattle.res_rows.proofs.token_operand.Goals as goal

pub returns-then-kind-eq-SYMBOL : goal.returns-then-kind-eq-SYMBOL
returns-then-kind-eq-SYMBOL c =
    search operands

pub returns-then-kind-eq-AT_SYMBOL : goal.returns-then-kind-eq-AT_SYMBOL
returns-then-kind-eq-AT_SYMBOL c =
    search operands

pub returns : goal.returns
returns c =
    search operands
