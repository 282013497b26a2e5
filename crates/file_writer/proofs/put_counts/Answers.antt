use Rattle.file_writer.proofs.Cases.{counts-put}
use borrow.Author.Rules.{rules}
use Rattle.file_writer.proofs.put_counts.Goals as goal

pub returns : goal.returns
returns c =
    record { out_after = search counts-put; upper_bound = search rules }
