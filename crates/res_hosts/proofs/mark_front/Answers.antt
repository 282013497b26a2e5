use Rattle.res_hosts.proofs.Cases.{take_long}
use borrow.Author.Rules.{rules}
use Rattle.res_hosts.proofs.mark_front.Goals as goal

pub slice_bounds-mark_name-end : goal.slice_bounds-mark_name-end
slice_bounds-mark_name-end c =
    search (take_long, rules)
