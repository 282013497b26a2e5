use Rattle.file_writer.proofs.Cases.{argument-ways}
use borrow.Author.Rules.{rules}
use Rattle.file_writer.proofs.put_arguments.Goals as goal

pub returns-then-k-eq-IMPORT : goal.returns-then-k-eq-IMPORT
returns-then-k-eq-IMPORT c =
    record { out_after = search argument-ways; upper_bound = search rules }

pub returns : goal.returns
returns c =
    record { out_after = search argument-ways; upper_bound = search rules }
