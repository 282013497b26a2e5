use Rattle.prog_rules.proofs.Nesting.{fields}
use Rattle.prog_rules.proofs.func_in.Goals as goal

pub returns-then-k-eq-FUNCTION : goal.returns-then-k-eq-FUNCTION
returns-then-k-eq-FUNCTION c =
    search fields

pub returns : goal.returns
returns c =
    search fields
