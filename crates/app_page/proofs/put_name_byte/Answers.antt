use Rattle.app_page.proofs.Cases.{naming}
use borrow.Author.Rules.{rules}
use Rattle.app_page.proofs.put_name_byte.Goals as goal

pub returns-then-is_name_byte : goal.returns-then-is_name_byte
returns-then-is_name_byte c =
    record { out_after = search naming; upper_bound = search rules }

pub returns : goal.returns
returns c =
    record { out_after = search naming; upper_bound = search rules }
