use Rattle.prog_tables.proofs.Cases.{used}
use Rattle.prog_tables.proofs.used_by.Goals as goal

pub returns-then-has_expression : goal.returns-then-has_expression
returns-then-has_expression c =
    search used

pub returns-then-is_call_row : goal.returns-then-is_call_row
returns-then-is_call_row c =
    search used

pub returns-then-is_test : goal.returns-then-is_test
returns-then-is_test c =
    search used

pub returns-then-k-eq-SET_BYTE : goal.returns-then-k-eq-SET_BYTE
returns-then-k-eq-SET_BYTE c =
    search used

pub returns-then-k-eq-SET_WORD : goal.returns-then-k-eq-SET_WORD
returns-then-k-eq-SET_WORD c =
    search used

pub returns : goal.returns
returns c =
    search used
