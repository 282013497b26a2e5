use Rattle.app_page.proofs.Cases.{sizes-put}
use borrow.Author.Rules.{rules}
use Rattle.app_page.proofs.put_sizes.Goals as goal

pub returns : goal.returns
returns c =
    record { out_after = search sizes-put; upper_bound = search rules }
