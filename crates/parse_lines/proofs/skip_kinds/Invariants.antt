use Prim.Native.Nat.{◌*◌, ◌-◌}
use lib.ListN.{length}
use Rattle.parse_lines.proofs.Scans.{Skips}
use Rattle.parse_lines.proofs.skip_kinds.Given as goal

abbrev pub invariant-loop-lo : goal.invariant-loop-lo
invariant-loop-lo l =
    Skips l.t l.lo l.hi l.from l.i

abbrev pub decreases-loop-lo : goal.decreases-loop-lo
decreases-loop-lo l =
    length l.t - l.i * 8
