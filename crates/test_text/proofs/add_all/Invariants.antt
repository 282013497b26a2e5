use Rattle.test_lines.specs.Sources.{source}
use Rattle.test_text.proofs.Loops.{Adding}
use Rattle.test_text.proofs.add_all.Given as goal

abbrev pub invariant-loop-b : goal.invariant-loop-b
invariant-loop-b l =
    Adding l.l (source l.size l.initial.text) l.text l.end l.b-index
