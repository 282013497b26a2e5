use Rattle.res_scope.proofs.Cases.{parting}
use Rattle.res_scope.proofs.parts_of.Goals as goal

pub returns-then-kind-eq-RETURN : goal.returns-then-kind-eq-RETURN
returns-then-kind-eq-RETURN c =
    search parting

pub returns-then-kind-lt-LET : goal.returns-then-kind-lt-LET
returns-then-kind-lt-LET c =
    search parting

pub returns-then-kind-lt-SET_BYTE : goal.returns-then-kind-lt-SET_BYTE
returns-then-kind-lt-SET_BYTE c =
    search parting

pub returns : goal.returns
returns c =
    search parting
