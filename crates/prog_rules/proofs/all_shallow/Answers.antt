use borrow.Author.Rules.{rules}
use mathlib.Core.Path.{refl}
use Rattle.prog_tables.proofs.Scans.{every}
use Rattle.prog_tables.specs.Statement.{row_at}
use Rattle.prog_tables.specs.WellFormed.{shallow}
use Rattle.prog_rules.proofs.all_shallow.Goals as goal

pub returns : goal.returns
returns c =
    every (shallow (row_at c.args.t.now)) c.args.c _ _ _ _ refl c.all.ensures.ran (λ x b q h. search rules)
