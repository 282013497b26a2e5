use Rattle.std.proofs.Common.{rules}
use Rattle.std.proofs.lemmas.Iterator.{first_from_Range}
use Rattle.prog_tables.proofs.First.{FirstOf, first-else}
use Rattle.res_scope.specs.Names.{same_number, let_here}
use Rattle.res_scope.proofs.find_let_here.Goals as goal

pub returns : goal.returns
returns c =
    let first : FirstOf (let_here (same_number c.args.t.now) c.args.k.now c.args.s c.args.i) c.args.s c.args.n c.find.result =
    first_from_Range _ _ _ c.find.result _ _ c.find.ensures.ran (λ x q k. search rules) (λ x q k. search rules) in
    search (first-else, rules)
