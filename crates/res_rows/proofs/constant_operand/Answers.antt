use Rattle.base_prelude.proofs.Choice.{tests}
use Rattle.res_rows.specs.Rows.{constant_operand}
use Rattle.res_rows.proofs.constant_operand.Goals as goal

pub returns-then-kind-eq-INTEGER : goal.returns-then-kind-eq-INTEGER
unfolding constant_operand
returns-then-kind-eq-INTEGER c =
    search tests depth 16

pub returns-then-kind-eq-SUBSTITUTE : goal.returns-then-kind-eq-SUBSTITUTE
unfolding constant_operand
returns-then-kind-eq-SUBSTITUTE c =
    search tests depth 16

pub returns-then-kind-eq-AT_INTEGER : goal.returns-then-kind-eq-AT_INTEGER
unfolding constant_operand
returns-then-kind-eq-AT_INTEGER c =
    search tests depth 16

pub returns-then-kind-eq-AT_SUBSTITUTE : goal.returns-then-kind-eq-AT_SUBSTITUTE
unfolding constant_operand
returns-then-kind-eq-AT_SUBSTITUTE c =
    search tests depth 16

pub returns : goal.returns
unfolding constant_operand
returns c =
    search tests depth 16
