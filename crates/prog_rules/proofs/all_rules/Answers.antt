use borrow.Author.Rules.{rules}
use mathlib.Core.Path.{refl}
use Rattle.prog_tables.proofs.Scans.{every}
use Rattle.prog_tables.specs.Program.{lent_program}
use Rattle.prog_rules.specs.Rules.{ruled}
use Rattle.prog_rules.proofs.all_rules.Goals as goal

pub returns : goal.returns
returns c =
    every (ruled (lent_program c.args.t.now c.args.c c.args.l.now c.args.k c.args.d)) c.args.c _ _ _ _ refl c.all.ensures.ran (λ x b q h. search rules)
