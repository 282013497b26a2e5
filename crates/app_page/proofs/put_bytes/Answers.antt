use borrow.Author.Rules.{rules}
use Rattle.app_page.proofs.Loops.{texting}
use Rattle.app_page.proofs.put_bytes.Goals as goal

pub loop-c-init : goal.loop-c-init
loop-c-init c =
    search texting

pub loop-c-preserved : goal.loop-c-preserved
loop-c-preserved c =
    search texting

pub returns : goal.returns
returns c =
    record { out_after = search texting; upper_bound = search rules }
