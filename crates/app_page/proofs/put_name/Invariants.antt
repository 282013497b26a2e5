use Rattle.app_page.proofs.Loops.{Naming}
use Rattle.app_page.proofs.put_name.Given as goal

abbrev pub invariant-loop-c : goal.invariant-loop-c
invariant-loop-c l =
    Naming l.name l.at l.initial.out l.out l.to l.c-index
