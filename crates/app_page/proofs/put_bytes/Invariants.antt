use Rattle.app_page.proofs.Loops.{Texting}
use Rattle.app_page.proofs.put_bytes.Given as goal

abbrev pub invariant-loop-c : goal.invariant-loop-c
invariant-loop-c l =
    Texting l.s l.at l.initial.out l.out l.to l.c-index
