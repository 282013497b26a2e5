use Rattle.res_names.proofs.Cases.{valued}
use Rattle.res_names.proofs.value_part.Goals as goal

pub returns-then-kind-eq-SYMBOL : goal.returns-then-kind-eq-SYMBOL
returns-then-kind-eq-SYMBOL c =
    search valued

pub returns-then-kind-eq-AT_SYMBOL : goal.returns-then-kind-eq-AT_SYMBOL
returns-then-kind-eq-AT_SYMBOL c =
    search valued

pub returns : goal.returns
returns c =
    search valued
