use borrow.Author.Rules.{rules}
use Rattle.prog_verdict.proofs.Cases.{row-ways, all-standing, all-shallow}
use Rattle.prog_verdict.proofs.rows_good.Goals as goal

pub frames_good-requires : goal.frames_good-requires
frames_good-requires c =
    record { 0 = search rules; 1 = search all-standing; 2 = search all-shallow }

pub returns-then-not-rows_stand : goal.returns-then-not-rows_stand
returns-then-not-rows_stand c =
    search row-ways

pub returns-then-all_rules : goal.returns-then-all_rules
returns-then-all_rules c =
    search row-ways

pub returns-else-all_rules : goal.returns-else-all_rules
returns-else-all_rules c =
    rw c.if-all_rules.false (search row-ways)
