use Rattle.app_page.proofs.Cases.{bytes}
use borrow.Author.Rules.{rules}
use Rattle.app_page.proofs.put_byte.Goals as goal

pub returns-then-at-out : goal.returns-then-at-out
returns-then-at-out c =
    record { out_after = search bytes; upper_bound = search rules }

pub returns : goal.returns
returns c =
    record { out_after = search bytes; upper_bound = search rules }
