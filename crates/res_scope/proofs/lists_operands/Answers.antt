use Rattle.base_prelude.proofs.Choice.{tests}
use Rattle.res_scope.specs.Parts.{lists_operands}
use Rattle.res_scope.proofs.lists_operands.Goals as goal

pub returns-then-kind-lt-SET_BYTE : goal.returns-then-kind-lt-SET_BYTE
unfolding lists_operands
returns-then-kind-lt-SET_BYTE c =
    search tests

pub returns-then-kind-lt-GOTO : goal.returns-then-kind-lt-GOTO
unfolding lists_operands
returns-then-kind-lt-GOTO c =
    search tests

pub returns-then-kind-lt-IFEQ : goal.returns-then-kind-lt-IFEQ
unfolding lists_operands
returns-then-kind-lt-IFEQ c =
    search tests

pub returns : goal.returns
unfolding lists_operands
returns c =
    search tests
