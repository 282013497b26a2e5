use borrow.Author.Rules.{rules}
use mathlib.Core.Path.{refl}
use Rattle.prog_tables.proofs.Scans.{every}
use Rattle.prog_tables.specs.WellFormed.{label_good}
use Rattle.prog_labels.specs.Labels.{tabled}
use Rattle.prog_labels.proofs.labels_good.Goals as goal

pub returns : goal.returns
returns c =
    every (label_good (tabled c.args.t.now c.args.c c.args.l.now c.args.k c.args.names.now c.args.d)) c.args.k _ _ _ _ refl c.all.ensures.ran (λ x b q h. search rules)
