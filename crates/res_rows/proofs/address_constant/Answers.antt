use Rattle.base_prelude.proofs.Choice.{tests}
use Rattle.res_rows.specs.Rows.{address_constant}
use Rattle.res_rows.proofs.address_constant.Goals as goal

pub returns-then-kind-eq-AT_INTEGER : goal.returns-then-kind-eq-AT_INTEGER
unfolding address_constant
returns-then-kind-eq-AT_INTEGER c =
    search tests depth 16

pub returns-then-kind-eq-AT_SUBSTITUTE : goal.returns-then-kind-eq-AT_SUBSTITUTE
unfolding address_constant
returns-then-kind-eq-AT_SUBSTITUTE c =
    search tests depth 16

pub returns : goal.returns
unfolding address_constant
returns c =
    search tests depth 16
