use borrow.Author.Rules.{rules}
use Rattle.file_writer.proofs.Cases.{field_put, put-least}
use Rattle.file_writer.proofs.put_data_field.Goals as goal

pub overflow_sub-end : goal.overflow_sub-end
overflow_sub-end c =
    search (put-least, rules)

pub returns : goal.returns
returns c =
    record { out_after = search field_put; upper_bound = search rules }
