use Prim.Native.Nat.{◌-◌}
use Rattle.res_scope.specs.Names.{same_number}
use Rattle.res_exports.proofs.Units.{Exporting}
use Rattle.res_exports.proofs.exports_from.Given as goal

abbrev pub invariant-loop-x : goal.invariant-loop-x
invariant-loop-x l =
    Exporting (same_number l.t) l.t l.n l.y l.l l.uses l.initial.s l.initial.flags l.s l.flags

abbrev pub decreases-loop-x : goal.decreases-loop-x
decreases-loop-x l =
    4097 - l.s.at
