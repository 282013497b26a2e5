use Rattle.file_writer.proofs.Cases.{first-put, put-least}
use borrow.Author.Rules.{rules}
use Rattle.file_writer.proofs.put_counts_field.Goals as goal

pub overflow_sub-end : goal.overflow_sub-end
overflow_sub-end c =
    search (put-least, rules)

pub returns : goal.returns
returns c =
    record { out_after = search first-put; upper_bound = search rules }
