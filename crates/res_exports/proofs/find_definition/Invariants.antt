use Prim.Native.Nat.{◌-◌}
use Rattle.res_exports.proofs.Units.{Seeking}
use Rattle.res_exports.proofs.find_definition.Given as goal

abbrev pub invariant-loop-x : goal.invariant-loop-x
invariant-loop-x l =
    Seeking l.t l.initial.at l.at

abbrev pub decreases-loop-x : goal.decreases-loop-x
decreases-loop-x l =
    4097 - l.at
