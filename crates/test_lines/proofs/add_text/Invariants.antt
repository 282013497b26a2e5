use Rattle.std.proofs.Common.{◌-◌, length}
use Rattle.test_lines.specs.Sources.{source}
use Rattle.test_lines.proofs.Loops.{Texting}
use Rattle.test_lines.proofs.add_text.Given as goal

abbrev pub invariant-loop-i : goal.invariant-loop-i
invariant-loop-i l =
    Texting l.l l.from (source l.size l.initial.text) l.text l.n l.i

abbrev pub decreases-loop-i : goal.decreases-loop-i
decreases-loop-i l =
    length l.l - l.i
