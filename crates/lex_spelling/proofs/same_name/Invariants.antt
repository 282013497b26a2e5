use Prim.Native.Nat.{◌-◌}
use lib.ListN.{length}
use Rattle.lex_spelling.proofs.Loops.{Comparing}
use Rattle.lex_spelling.proofs.same_name.Given as goal

abbrev pub invariant-loop-one : goal.invariant-loop-one
invariant-loop-one l =
    Comparing l.s l.p l.q l.i l.j

abbrev pub decreases-loop-one : goal.decreases-loop-one
decreases-loop-one l =
    length l.s - l.i
