use borrow.Author.Rules.{rules}
use mathlib.Core.Path.{refl}
use Rattle.prog_tables.proofs.Scans.{any_of}
use mathlib.Core.List.{[]}
use Rattle.prog_tables.specs.Label.{label_at}
use Rattle.prog_tables.specs.WellFormed.{labelled}
use Rattle.prog_rules.specs.Rules.{bears}
use Rattle.prog_tables.specs.Label.{is_function_label}
use Rattle.prog_rules.proofs.has_function.Goals as goal

pub returns : goal.returns
unfolding labelled bears
returns c =
    any_of (bears (label_at c.args.l.now []) is_function_label c.args.v) c.args.k _ _ _ _ refl c.any.ensures.ran (λ x b q h. search rules)
