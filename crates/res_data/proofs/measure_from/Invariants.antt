use Prim.Native.Nat.{◌-◌}
use Rattle.res_data.proofs.Walks.{Measuring}
use Rattle.res_data.proofs.measure_from.Given as goal

abbrev pub invariant-loop-y : goal.invariant-loop-y
invariant-loop-y l =
    Measuring l.w l.t l.end l.initial.s l.s

abbrev pub decreases-loop-y : goal.decreases-loop-y
decreases-loop-y l =
    4097 - l.s.at
