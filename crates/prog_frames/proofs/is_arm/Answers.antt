use borrow.Author.Rules.{rules}
use Rattle.prog_frames.proofs.Arms.{armed}
use Rattle.prog_frames.proofs.is_arm.Goals as goal

pub returns-in-20-to-22 : goal.returns-in-20-to-22
returns-in-20-to-22 c =
    search (armed, rules)

pub returns-in_default : goal.returns-in_default
returns-in_default c =
    search (armed, rules)

pub returns-in_default-2 : goal.returns-in_default-2
returns-in_default-2 c =
    search (armed, rules)

pub returns-else-up_at-u : goal.returns-else-up_at-u
returns-else-up_at-u c =
    search (armed, rules)
