use Prim.Native.Nat.{◌-◌}
use lib.ListN.{length}
use Rattle.lex_spelling.proofs.Loops.{Spelling}
use Rattle.lex_spelling.proofs.spell.Given as goal

abbrev pub invariant-loop-x : goal.invariant-loop-x
invariant-loop-x l =
    Spelling l.quoted l.s l.at l.i l.size l.hash

abbrev pub decreases-loop-x : goal.decreases-loop-x
decreases-loop-x l =
    length l.s - l.i
