use Rattle.app_page.proofs.Cases.{kinds}
use borrow.Author.Rules.{rules}
use Rattle.app_page.proofs.put_kind.Goals as goal

pub returns-then-kind-lt-FUNCTION : goal.returns-then-kind-lt-FUNCTION
returns-then-kind-lt-FUNCTION c =
    record { out_after = search kinds; upper_bound = search rules }

pub returns-then-kind-lt-PLACE : goal.returns-then-kind-lt-PLACE
returns-then-kind-lt-PLACE c =
    record { out_after = search kinds; upper_bound = search rules }

pub returns-then-kind-eq-IMPORT : goal.returns-then-kind-eq-IMPORT
returns-then-kind-eq-IMPORT c =
    record { out_after = search kinds; upper_bound = search rules }

pub returns : goal.returns
returns c =
    record { out_after = search kinds; upper_bound = search rules }
