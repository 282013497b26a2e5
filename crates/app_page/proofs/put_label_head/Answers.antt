use Rattle.app_page.proofs.Cases.{head-put}
use borrow.Author.Rules.{rules}
use Rattle.app_page.proofs.put_label_head.Goals as goal

pub returns : goal.returns
returns c =
    record { out_after = search head-put; upper_bound = search rules }
