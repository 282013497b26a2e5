use Rattle.parse_lines.proofs.Scans.{skipping, skips-out, skips-fits, skips-less}
use borrow.Author.Rules.{rules}
use Rattle.parse_lines.proofs.skip_kinds.Goals as goal

pub loop-lo-init : goal.loop-lo-init
loop-lo-init c =
    search (skipping, rules)

pub returns-then-k-lo : goal.returns-then-k-lo
returns-then-k-lo c =
    skips-out _ _ _ _ _ _ c.loop-lo.invariant c.kind_at-k.ensures c.then-k-lo.either

pub overflow_add-i : goal.overflow_add-i
overflow_add-i c =
    search (skips-fits, rules)

pub loop-lo-smaller : goal.loop-lo-smaller
loop-lo-smaller c =
    search (skips-less, rules)

pub loop-lo-preserved : goal.loop-lo-preserved
loop-lo-preserved c =
    search (skipping, rules)
