use Rattle.prog_rules.proofs.Goals.{jumping}
use Rattle.prog_rules.proofs.jumps.Goals as goal

pub returns-then-x-ne-GOTO : goal.returns-then-x-ne-GOTO
returns-then-x-ne-GOTO c =
    search jumping

pub returns-then-c-a : goal.returns-then-c-a
returns-then-c-a c =
    search jumping

pub returns-then-func_at : goal.returns-then-func_at
returns-then-func_at c =
    search jumping

pub returns-then-scope_at : goal.returns-then-scope_at
returns-then-scope_at c =
    search jumping

pub returns : goal.returns
returns c =
    search jumping
