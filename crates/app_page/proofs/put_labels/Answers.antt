use borrow.Author.Rules.{rules}
use Rattle.app_page.proofs.Loops.{listing, listing-near}
use Rattle.app_page.proofs.put_labels.Goals as goal

pub loop-i-init : goal.loop-i-init
loop-i-init c =
    search listing

pub put_label-to-requires : goal.put_label-to-requires
put_label-to-requires c =
    search (listing-near, rules)

pub loop-i-preserved : goal.loop-i-preserved
loop-i-preserved c =
    search listing

pub returns : goal.returns
returns c =
    search listing
