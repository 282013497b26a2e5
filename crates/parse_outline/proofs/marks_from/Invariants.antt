use Prim.Native.Nat.{◌-◌}
use Rattle.parse_outline.proofs.Marking.{Walking}
use Rattle.parse_outline.proofs.marks_from.Given as goal

abbrev pub invariant-loop-y : goal.invariant-loop-y
invariant-loop-y l =
    Walking l.t l.initial.s l.initial.x l.s l.x

abbrev pub decreases-loop-y : goal.decreases-loop-y
decreases-loop-y l =
    4097 - l.s.at
