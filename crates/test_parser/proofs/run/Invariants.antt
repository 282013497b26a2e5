use Prim.Native.Nat.{◌-◌, ◌≤◌, suc}
use lib.ListN.{length}
use Rattle.test_parser.proofs.run.Given as goal

abbrev pub invariant-loop-at : goal.invariant-loop-at
invariant-loop-at l =
    l.at ≤ suc (length l.s)

abbrev pub decreases-loop-at : goal.decreases-loop-at
decreases-loop-at l =
    length l.s - l.at
