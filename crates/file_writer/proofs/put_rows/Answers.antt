use borrow.Author.Rules.{rules}
use Rattle.file_writer.proofs.Loops.{listing-rows, rows-near}
use Rattle.file_writer.proofs.put_rows.Goals as goal

pub loop-i-init : goal.loop-i-init
loop-i-init c =
    search listing-rows

pub loop-i-preserved : goal.loop-i-preserved
loop-i-preserved c =
    search listing-rows

pub returns : goal.returns
returns c =
    record { out_after = search listing-rows; upper_bound = search (rows-near, rules) }
