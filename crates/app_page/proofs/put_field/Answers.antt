use Rattle.app_page.proofs.Cases.{field_put}
use borrow.Author.Rules.{rules}
use Rattle.app_page.proofs.put_field.Goals as goal

pub returns : goal.returns
returns c =
    record { out_after = search field_put; upper_bound = search rules }
