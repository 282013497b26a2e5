use Rattle.file_writer.proofs.Cases.{label-put}
use borrow.Author.Rules.{rules}
use Rattle.file_writer.proofs.put_label.Goals as goal

pub returns : goal.returns
returns c =
    record { out_after = search label-put; upper_bound = search rules }
