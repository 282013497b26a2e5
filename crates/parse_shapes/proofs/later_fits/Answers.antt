use Rattle.parse_shapes.proofs.Shapes.{laters}
use Rattle.parse_shapes.proofs.later_fits.Goals as goal

pub returns-then-k-eq-GOTO : goal.returns-then-k-eq-GOTO
returns-then-k-eq-GOTO c =
    search laters

pub returns-then-k-lt-RETURN : goal.returns-then-k-lt-RETURN
returns-then-k-lt-RETURN c =
    search laters

pub returns-then-k-eq-RETURN : goal.returns-then-k-eq-RETURN
returns-then-k-eq-RETURN c =
    search laters

pub returns-then-k-lt-ELSE : goal.returns-then-k-lt-ELSE
returns-then-k-lt-ELSE c =
    search laters

pub returns-then-k-eq-ELSE_IF : goal.returns-then-k-eq-ELSE_IF
returns-then-k-eq-ELSE_IF c =
    search laters

pub returns : goal.returns
returns c =
    search laters
