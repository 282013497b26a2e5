use Rattle.std.proofs.Common.{rules, nat_eq}
use Rattle.std.proofs.lemmas.Iterator.{first_from_Range}
use Rattle.prog_tables.proofs.First.{FirstOf, first-is}
use Rattle.res_scope.specs.Lines.{label_token}
use Rattle.res_exports.specs.Exports.{label_at_token}
use Rattle.res_exports.proofs.label_at.Goals as goal

pub returns : goal.returns
unfolding label_at_token
returns c =
    let first : FirstOf (λ j. nat_eq (label_token c.args.y.now j) c.args.i) 0 c.args.l c.find.result =
    first_from_Range _ _ _ c.find.result _ _ c.find.ensures.ran (λ x q k. search rules) (λ x q k. search rules) in
    search (first-is, rules)
