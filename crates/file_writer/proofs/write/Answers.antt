use borrow.Author.Rules.{rules}
use Rattle.file_writer.proofs.Ways.{write-ways, sound-labels}
use Rattle.file_writer.proofs.write.Goals as goal

pub fit-requires : goal.fit-requires
fit-requires c =
    search (sound-labels, rules)

pub returns-in-No : goal.returns-in-No
returns-in-No c =
    search write-ways

pub returns-in_default : goal.returns-in_default
returns-in_default c =
    search write-ways
