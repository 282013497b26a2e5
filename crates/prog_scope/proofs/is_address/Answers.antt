use borrow.Author.Rules.{rules}
use mathlib.Core.Path.{refl}
use mathlib.Core.List.{[]}
use Rattle.prog_tables.proofs.Scans.{any_of}
use Rattle.prog_tables.specs.Label.{label_at}
use Rattle.prog_tables.specs.WellFormed.{labelled}
use Rattle.prog_chains.specs.Counted.{is_data_at}
use Rattle.prog_scope.proofs.is_address.Goals as goal

pub returns : goal.returns
unfolding labelled is_data_at
returns c =
    any_of (is_data_at (label_at c.args.l.now []) c.args.v) c.args.k _ _ _ _ refl c.any.ensures.ran (λ x b q h. search rules)
