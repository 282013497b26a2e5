use Rattle.prog_tables.proofs.KindWays.{operands}
use Rattle.prog_tables.proofs.has_operands.Goals as goal

pub returns-then-has_expression : goal.returns-then-has_expression
returns-then-has_expression c =
    search operands

pub returns-then-is_test : goal.returns-then-is_test
returns-then-is_test c =
    search operands

pub returns-then-k-lt-SET_BYTE : goal.returns-then-k-lt-SET_BYTE
returns-then-k-lt-SET_BYTE c =
    search operands

pub returns-then-k-gt-TAIL_CALL : goal.returns-then-k-gt-TAIL_CALL
returns-then-k-gt-TAIL_CALL c =
    search operands

pub returns : goal.returns
returns c =
    search operands
