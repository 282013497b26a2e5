use Rattle.res_data.proofs.Cases.{adding, line-sum}
use borrow.Author.Rules.{rules}
use Rattle.res_data.proofs.add_line.Goals as goal

pub returns-then-room_behind-more : goal.returns-then-room_behind-more
returns-then-room_behind-more c =
    search adding

pub cursor_behind-requires : goal.cursor_behind-requires
cursor_behind-requires c =
    search (line-sum, rules)

pub returns : goal.returns
returns c =
    search adding
