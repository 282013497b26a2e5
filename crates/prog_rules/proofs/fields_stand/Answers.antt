use Rattle.prog_rules.proofs.Nesting.{standing}
use Rattle.prog_rules.proofs.fields_stand.Goals as goal

pub returns-then-func_at-func_in : goal.returns-then-func_at-func_in
returns-then-func_at-func_in c =
    search standing

pub returns-then-scope_at-scope_in : goal.returns-then-scope_at-scope_in
returns-then-scope_at-scope_in c =
    search standing

pub returns : goal.returns
returns c =
    search standing
