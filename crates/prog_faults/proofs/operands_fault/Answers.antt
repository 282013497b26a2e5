use borrow.Author.Rules.{rules}
use mathlib.Core.Path.{◌≡◌, refl}
use Rattle.prog_tables.proofs.Scans.{any_of}
use Rattle.prog_tables.specs.Faults.{operand_fault}
use Rattle.prog_tables.specs.Places.{slot_at}
use Rattle.prog_tables.specs.Tests.{some_below}
use Rattle.prog_faults.proofs.Cases.{slots-broken}
use Rattle.prog_faults.proofs.operands_fault.Goals as goal

pub returns : goal.returns
returns c =
    let e : c.any.result ≡ some_below (λ i. operand_fault c.size_at-size.result c.args.d (slot_at c.args.t.now c.args.n i)) c.operands_at-m.result =
    any_of _ c.operands_at-m.result _ _ _ _ refl c.any.ensures.ran (λ x b q h. search rules) in
    search (slots-broken, rules)
