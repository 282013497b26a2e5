use Rattle.res_names.proofs.Cases.{gotos}
use Rattle.res_names.proofs.place_fault.Goals as goal

pub returns-then-scope_at : goal.returns-then-scope_at
returns-then-scope_at c =
    search gotos

pub returns-then-func_at : goal.returns-then-func_at
returns-then-func_at c =
    search gotos

pub returns-then-label_kind-eq-PLACE : goal.returns-then-label_kind-eq-PLACE
returns-then-label_kind-eq-PLACE c =
    search gotos

pub returns : goal.returns
returns c =
    search gotos
