use Prim.Native.Nat.{◌-◌}
use lib.ListN.{length}
use Rattle.lex_lexeme.proofs.Digits.{Counting}
use Rattle.lex_lexeme.proofs.read_digits.Given as goal

abbrev pub invariant-loop-x : goal.invariant-loop-x
invariant-loop-x l =
    Counting l.s l.at l.i l.count l.value

abbrev pub decreases-loop-x : goal.decreases-loop-x
decreases-loop-x l =
    length l.s - l.i
