use borrow.Author.Rules.{rules}
use mathlib.Core.Path.{refl}
use Rattle.prog_tables.proofs.Scans.{any_of}
use Rattle.base_prelude.specs.Lists.{same_list}
use Rattle.prog_tables.specs.Label.{label_at}
use Rattle.prog_labels.proofs.is_taken.Goals as goal

pub returns : goal.returns
returns c =
    any_of (λ i. same_list (label_at c.args.l.now c.args.names.now i).name c.args.name.now) c.args.n _ _ _ _ refl c.any.ensures.ran (λ x b q h. search rules)
