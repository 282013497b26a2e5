use Rattle.app_page.proofs.Cases.{exports}
use borrow.Author.Rules.{rules}
use Rattle.app_page.proofs.put_exported.Goals as goal

pub returns-then-kind-eq-EXPORTED_DATA : goal.returns-then-kind-eq-EXPORTED_DATA
returns-then-kind-eq-EXPORTED_DATA c =
    record { out_after = search exports; upper_bound = search rules }

pub returns-then-kind-eq-EXPORTED_FUNCTION : goal.returns-then-kind-eq-EXPORTED_FUNCTION
returns-then-kind-eq-EXPORTED_FUNCTION c =
    record { out_after = search exports; upper_bound = search rules }

pub returns : goal.returns
returns c =
    record { out_after = search exports; upper_bound = search rules }
