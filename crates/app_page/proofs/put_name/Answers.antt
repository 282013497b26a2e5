use borrow.Author.Rules.{rules}
use Rattle.app_page.proofs.Loops.{naming, naming-near}
use Rattle.app_page.proofs.put_name.Goals as goal

pub loop-c-init : goal.loop-c-init
loop-c-init c =
    search naming

pub loop-c-preserved : goal.loop-c-preserved
loop-c-preserved c =
    search naming

pub returns : goal.returns
returns c =
    record { out_after = search naming; upper_bound = search (naming-near, rules) }
