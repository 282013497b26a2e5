use Rattle.parse_outline.proofs.Cases.{import-fits, unit-is}
use borrow.Author.Rules.{rules}
use Rattle.parse_outline.proofs.mark_unit.Goals as goal

pub mark_import-requires : goal.mark_import-requires
mark_import-requires c =
    search (import-fits, rules)

pub returns : goal.returns
returns c =
    search unit-is
