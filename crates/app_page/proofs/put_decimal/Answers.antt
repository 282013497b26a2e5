use Rattle.app_page.proofs.Cases.{decimal-put}
use borrow.Author.Rules.{rules}
use Rattle.app_page.proofs.put_decimal.Goals as goal

pub returns : goal.returns
returns c =
    record { out_after = search decimal-put; upper_bound = search rules }
