use borrow.Author.Rules.{rules}
use Rattle.file_writer.proofs.Loops.{packing}
use Rattle.file_writer.proofs.put_row.Goals as goal

pub loop-j-init : goal.loop-j-init
loop-j-init c =
    search packing

pub loop-j-preserved : goal.loop-j-preserved
loop-j-preserved c =
    search packing

pub returns : goal.returns
returns c =
    record { out_after = search packing; upper_bound = search rules }
