use Rattle.app_page.proofs.Cases.{label-put}
use borrow.Author.Rules.{rules}
use Rattle.app_page.proofs.put_label.Goals as goal

pub returns : goal.returns
returns c =
    record { out_after = search label-put; upper_bound = search rules }
