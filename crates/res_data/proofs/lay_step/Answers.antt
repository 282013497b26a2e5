use mathlib.Core.Path.{sym}
use borrow.Author.Rules.{rules}
use Rattle.std.proofs.lemmas.Result.{err_from_is_err_and}
use Rattle.res_data.proofs.Walks.{unit-small, step-full, step-some, step-none}
use Rattle.res_data.proofs.lay_step.Goals as goal

pub line_kind-k-requires : goal.line_kind-k-requires
line_kind-k-requires c =
    search (unit-small, rules)

pub next_of-requires : goal.next_of-requires
next_of-requires c =
    search (unit-small, rules)

pub put_line-requires : goal.put_line-requires
put_line-requires c =
    search (unit-small, rules)

pub returns-in_err-next : goal.returns-in_err-next
returns-in_err-next c =
    let p = err_from_is_err_and c.from_residual.result c.from_residual.ensures.1 in
    rw p.1 (step-full _ _ _ _ _ _ _ _ c.unit_at-u.ensures c.line_kind-k.ensures c.next_of.ensures _ c.in_err-next.was)

pub returns-then-is_some : goal.returns-then-is_some
returns-then-is_some c =
    step-some _ _ _ _ _ _ _ _ c.unit_at-u.ensures c.line_kind-k.ensures c.next_of.ensures _ _ c.in_ok-next.was (sym c.if-is_some.ensures) c.put_line.ensures

pub returns-else-is_some : goal.returns-else-is_some
returns-else-is_some c =
    step-none _ _ _ _ _ _ _ _ c.unit_at-u.ensures c.line_kind-k.ensures c.next_of.ensures _ c.in_ok-next.was (sym c.if-is_some.ensures)
