use Rattle.vm_run.proofs.Cases.{in_frame, moved-running, moved-room}
use borrow.Author.Rules.{rules}
use Rattle.vm_run.proofs.advance_in_frame.Goals as goal

pub end_plain-requires : goal.end_plain-requires
end_plain-requires c =
    (search moved-running, search rules, search moved-room, search rules, search rules, search rules)

pub returns-then-count-budget : goal.returns-then-count-budget
returns-then-count-budget c =
    search (in_frame, c.func_at-g.ensures)

pub returns : goal.returns
returns c =
    search in_frame
