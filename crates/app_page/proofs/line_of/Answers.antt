use Rattle.app_page.proofs.Cases.{line-is, part_small}
use borrow.Author.Rules.{rules}
use Rattle.app_page.proofs.line_of.Goals as goal

pub newlines_in-requires : goal.newlines_in-requires
newlines_in-requires c =
    search (part_small, rules)

pub returns : goal.returns
returns c =
    search line-is
