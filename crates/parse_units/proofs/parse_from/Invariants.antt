use Prim.Native.Nat.{◌-◌}
use Rattle.parse_units.proofs.UnitSteps.{Parsing}
use Rattle.parse_units.proofs.parse_from.Given as goal

abbrev pub invariant-loop-x : goal.invariant-loop-x
invariant-loop-x l =
    Parsing l.w l.t l.n l.initial.s l.initial.rows l.s l.rows

abbrev pub decreases-loop-x : goal.decreases-loop-x
decreases-loop-x l =
    4097 - l.s.at
