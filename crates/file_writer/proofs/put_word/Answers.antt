use Rattle.file_writer.proofs.Cases.{word-put}
use borrow.Author.Rules.{rules}
use Rattle.file_writer.proofs.put_word.Goals as goal

pub returns : goal.returns
returns c =
    record { out_after = search word-put; upper_bound = search rules }
