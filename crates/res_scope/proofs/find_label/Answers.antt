use Rattle.std.proofs.Common.{rules}
use Rattle.std.proofs.lemmas.Iterator.{first_from_Range}
use Rattle.prog_tables.proofs.First.{FirstOf, first-else}
use Rattle.res_scope.specs.Names.{same_number, label_named}
use Rattle.res_scope.proofs.Cases.{label-of}
use Rattle.res_scope.proofs.find_label.Goals as goal

pub returns : goal.returns
returns c =
    let first : FirstOf (label_named (same_number c.args.t.now) c.args.y.now c.args.i) 0 c.args.l c.find.result =
    first_from_Range _ _ _ c.find.result _ _ c.find.ensures.ran (λ x q k. search rules) (λ x q k. search rules) in
    search (first-else, rules, label-of)
