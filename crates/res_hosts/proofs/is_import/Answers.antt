use Rattle.res_hosts.proofs.Cases.{importing}
use Rattle.res_hosts.proofs.is_import.Goals as goal

pub returns-then-kind_at-ne-SYMBOL : goal.returns-then-kind_at-ne-SYMBOL
returns-then-kind_at-ne-SYMBOL c =
    search importing

pub returns-then-word_at-eq-IMPORT : goal.returns-then-word_at-eq-IMPORT
returns-then-word_at-eq-IMPORT c =
    search importing

pub returns : goal.returns
returns c =
    search importing
