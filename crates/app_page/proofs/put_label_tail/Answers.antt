use Rattle.app_page.proofs.Cases.{tail-put}
use borrow.Author.Rules.{rules}
use Rattle.app_page.proofs.put_label_tail.Goals as goal

pub returns : goal.returns
returns c =
    record { out_after = search tail-put; upper_bound = search rules }
