use Rattle.test_lines.specs.Sources.{source}
use Rattle.test_text.proofs.Loops.{Lining}
use Rattle.test_text.proofs.plain_line.Given as goal

abbrev pub invariant-loop-k : goal.invariant-loop-k
invariant-loop-k l =
    Lining l.l l.count (source l.initial.size l.initial.text) l.text l.size l.k
