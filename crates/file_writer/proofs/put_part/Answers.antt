use Rattle.file_writer.proofs.Cases.{part-put, part-few, part-near}
use borrow.Author.Rules.{rules}
use Rattle.file_writer.proofs.put_part.Goals as goal

pub put_bytes-requires : goal.put_bytes-requires
put_bytes-requires c =
    (search rules, search (part-few, rules))

pub returns : goal.returns
returns c =
    record { out_after = search part-put; upper_bound = search (part-near, rules) }
