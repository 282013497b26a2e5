use Rattle.file_writer.proofs.Cases.{used-ways}
use borrow.Author.Rules.{rules}
use Rattle.file_writer.proofs.put_used.Goals as goal

pub returns-then-uses : goal.returns-then-uses
returns-then-uses c =
    record { out_after = search used-ways; upper_bound = search rules }

pub returns : goal.returns
returns c =
    record { out_after = search used-ways; upper_bound = search rules }
