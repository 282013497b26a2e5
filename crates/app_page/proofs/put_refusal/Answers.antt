use Rattle.app_page.proofs.Cases.{refusal-put}
use borrow.Author.Rules.{rules}
use Rattle.app_page.proofs.put_refusal.Goals as goal

pub returns : goal.returns
returns c =
    record { out_after = search refusal-put; upper_bound = search rules }
