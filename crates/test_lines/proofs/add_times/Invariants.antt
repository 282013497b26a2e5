use Rattle.test_lines.specs.Sources.{source}
use Rattle.test_lines.proofs.Loops.{Repeating}
use Rattle.test_lines.proofs.add_times.Given as goal

abbrev pub invariant-loop : goal.invariant-loop
invariant-loop l =
    Repeating l.l l.from l.times (source l.size l.initial.text) l.text l.n l.counter
