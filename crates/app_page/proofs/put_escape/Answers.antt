use Rattle.app_page.proofs.Cases.{escape-put}
use borrow.Author.Rules.{rules}
use Rattle.app_page.proofs.put_escape.Goals as goal

pub returns : goal.returns
returns c =
    record { out_after = search escape-put; upper_bound = search rules }
