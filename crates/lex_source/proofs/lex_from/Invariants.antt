use Prim.Native.Nat.{◌-◌}
use lib.ListN.{length}
use Rattle.lex_source.proofs.Filling.{Lexing}
use Rattle.lex_source.proofs.lex_from.Given as goal

abbrev pub invariant-loop-next : goal.invariant-loop-next
invariant-loop-next l =
    Lexing l.w l.s l.t l.at l.n

abbrev pub decreases-loop-next : goal.decreases-loop-next
decreases-loop-next l =
    length l.s - l.at
