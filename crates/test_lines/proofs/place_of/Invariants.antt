use Rattle.test_lines.proofs.Loops.{Placing}
use Rattle.test_lines.proofs.place_of.Given as goal

abbrev pub invariant-loop-at : goal.invariant-loop-at
invariant-loop-at l =
    Placing l.text l.word l.k l.seen l.at
