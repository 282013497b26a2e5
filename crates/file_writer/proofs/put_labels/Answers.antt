use Rattle.file_writer.proofs.Loops.{listing-labels}
use Rattle.file_writer.proofs.put_labels.Goals as goal

pub loop-i-init : goal.loop-i-init
loop-i-init c =
    search listing-labels

pub loop-i-preserved : goal.loop-i-preserved
loop-i-preserved c =
    search listing-labels

pub returns : goal.returns
returns c =
    search listing-labels
