use Rattle.prog_rules.proofs.Nesting.{fields}
use Rattle.prog_rules.proofs.up_in.Goals as goal

pub returns-then-is_closer : goal.returns-then-is_closer
returns-then-is_closer c =
    search fields

pub returns : goal.returns
returns c =
    search fields
