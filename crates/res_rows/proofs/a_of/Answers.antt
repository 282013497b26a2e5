use Rattle.res_rows.proofs.Cases.{destinations}
use Rattle.res_rows.proofs.a_of.Goals as goal

pub returns-then-kind-eq-SET : goal.returns-then-kind-eq-SET
returns-then-kind-eq-SET c =
    search destinations

pub returns-then-kind-eq-GOTO : goal.returns-then-kind-eq-GOTO
returns-then-kind-eq-GOTO c =
    search destinations

pub returns : goal.returns
returns c =
    search destinations
