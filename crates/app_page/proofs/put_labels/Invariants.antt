use Rattle.app_page.proofs.Loops.{Listing}
use Rattle.app_page.proofs.put_labels.Given as goal

abbrev pub invariant-loop-i : goal.invariant-loop-i
invariant-loop-i l =
    Listing l.count l.table l.names l.rows l.at l.initial.out l.out l.to l.i
