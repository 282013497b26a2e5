use Rattle.std.proofs.Common.{rules}
use Rattle.std.proofs.lemmas.Iterator.{first_from_Range}
use Rattle.prog_tables.proofs.First.{FirstOf, first-is}
use Rattle.res_scope.specs.Names.{same_number}
use Rattle.res_exports.specs.Exports.{carries_label, carried_by}
use Rattle.res_exports.proofs.carried_by.Goals as goal

pub returns : goal.returns
unfolding carried_by
returns c =
    let first : FirstOf (carries_label (same_number c.args.t.now) c.args.y.now c.args.first c.args.word c.args.i) 0 c.args.l c.find.result =
    first_from_Range _ _ _ c.find.result _ _ c.find.ensures.ran (λ x q k. search rules) (λ x q k. search rules) in
    search (first-is, rules)
