use borrow.Author.Rules.{rules}
use mathlib.Core.Path.{◌≡◌, refl}
use mathlib.Core.List.{[]}
use Rattle.prog_tables.proofs.Scans.{every}
use Rattle.prog_tables.specs.Places.{slot_at}
use Rattle.prog_tables.specs.Statement.{row_at}
use Rattle.prog_tables.specs.Tests.{all_below}
use Rattle.prog_tables.specs.Label.{label_at}
use Rattle.prog_chains.specs.Counted.{operand_held}
use Rattle.prog_scope.proofs.Loops.{held_all}
use Rattle.prog_scope.proofs.operands_held.Goals as goal

pub returns : goal.returns
returns c =
    let e : c.all.result ≡ all_below (λ i. operand_held (row_at c.args.t.now) (label_at c.args.l.now []) c.args.k c.args.x.now c.args.n (slot_at c.args.t.now c.args.n i)) c.min.result =
    every _ c.min.result _ _ _ _ refl c.all.ensures.ran (λ x b q h. search rules) in
    search (held_all, rules)
