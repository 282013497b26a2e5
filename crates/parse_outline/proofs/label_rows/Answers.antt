use mathlib.Core.Path.{◌≡◌}
use lib.ListN.{length}
use borrow.Author.Rules.{rules}
use Rattle.base_prelude.specs.Lists.{zeros}
use Rattle.parse_outline.proofs.Marking.{first_fits, rows_are}
use Rattle.parse_outline.proofs.label_rows.Goals as goal

pub marks_from-requires : goal.marks_from-requires
marks_from-requires c =
    search (first_fits, rules)

pub returns : goal.returns
returns c =
    let cleared : c.fill.new.self ≡ zeros (length c.args.x.now) = search rules in
    search (rows_are, rules)
