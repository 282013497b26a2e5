use mathlib.Core.Path.{◌≡◌}
use lib.ListN.{length}
use borrow.Author.Rules.{rules}
use Rattle.base_prelude.specs.Lists.{zeros}
use Rattle.parse_units.proofs.UnitSteps.{start_fits, start-labels, parse-is}
use Rattle.parse_units.proofs.parse_rows.Goals as goal

pub parse_from-requires : goal.parse_from-requires
parse_from-requires c =
    search (start_fits, start-labels, rules)

pub returns : goal.returns
returns c =
    let cleared : c.fill.new.self ≡ zeros (length c.args.rows.now) = search rules in
    search (parse-is, rules)
