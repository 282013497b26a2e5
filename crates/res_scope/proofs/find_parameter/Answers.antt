use Rattle.std.proofs.Common.{rules, ◌+◌}
use Rattle.std.proofs.lemmas.Iterator.{first_from_Range}
use Rattle.prog_tables.proofs.First.{FirstOf, first-else}
use Rattle.res_scope.specs.Names.{same_number, parameter_named}
use Rattle.res_scope.proofs.Cases.{parameter-of, first-room}
use Rattle.res_scope.proofs.find_parameter.Goals as goal

pub overflow_add-first : goal.overflow_add-first
overflow_add-first c =
    search (first-room, rules)

pub returns : goal.returns
returns c =
    let first : FirstOf (parameter_named (same_number c.args.t.now) c.args.i) (c.first_token-first.result + 1) c.end_token-end.result c.find.result =
    first_from_Range _ _ _ c.find.result _ _ c.find.ensures.ran (λ x q k. search rules) (λ x q k. search rules) in
    search (first-else, rules, parameter-of, first-room)
