use Rattle.parse_shapes.proofs.Shapes.{statements}
use Rattle.parse_shapes.proofs.statement_fits.Goals as goal

pub returns-then-k-eq-FUNCTION : goal.returns-then-k-eq-FUNCTION
returns-then-k-eq-FUNCTION c =
    search statements

pub returns-then-k-lt-LET : goal.returns-then-k-lt-LET
returns-then-k-lt-LET c =
    search statements

pub returns-then-k-lt-SET_AT : goal.returns-then-k-lt-SET_AT
returns-then-k-lt-SET_AT c =
    search statements

pub returns-then-k-eq-SET_AT : goal.returns-then-k-eq-SET_AT
returns-then-k-eq-SET_AT c =
    search statements

pub returns-then-k-lt-GOTO : goal.returns-then-k-lt-GOTO
returns-then-k-lt-GOTO c =
    search statements

pub returns : goal.returns
returns c =
    search statements
