use Rattle.test_text.proofs.Loops.{Listing}
use Rattle.test_text.proofs.read_arguments.Given as goal

abbrev pub invariant-loop-n : goal.invariant-loop-n
invariant-loop-n l =
    Listing l.l l.initial.arguments l.arguments l.n
