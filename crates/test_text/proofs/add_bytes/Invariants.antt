use Rattle.test_lines.specs.Sources.{source}
use Rattle.test_text.proofs.Loops.{Showing}
use Rattle.test_text.proofs.add_bytes.Given as goal

abbrev pub invariant-loop : goal.invariant-loop
invariant-loop l =
    Showing l.memory l.count l.at (source l.initial.size l.initial.text) l.text l.size l.i l.counter
