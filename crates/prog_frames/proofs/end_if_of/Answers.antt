use Rattle.std.proofs.Common.{rules, ◌+◌}
use Rattle.std.proofs.lemmas.Iterator.{first_from_Range}
use Rattle.prog_tables.specs.Nesting.{is_end_if}
use Rattle.prog_tables.specs.Statement.{row_at}
use Rattle.prog_tables.proofs.First.{FirstOf}
use Rattle.prog_frames.proofs.Arms.{finding}
use Rattle.prog_frames.proofs.end_if_of.Goals as goal

pub returns : goal.returns
returns c =
    let first : FirstOf (is_end_if (row_at c.args.t.now) c.up_at-u.result) (c.args.n + 1) c.args.c c.find.result =
    first_from_Range _ _ _ c.find.result _ _ c.find.ensures.ran (λ x q k. search rules) (λ x q k. search rules) in
    search (finding, rules)
