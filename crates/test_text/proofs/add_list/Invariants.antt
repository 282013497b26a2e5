use Rattle.test_text.proofs.Loops.{Listed}
use Rattle.test_lines.specs.Sources.{source}
use Rattle.test_text.proofs.add_list.Given as goal

abbrev pub invariant-loop-w : goal.invariant-loop-w
invariant-loop-w l =
    Listed l.ws (source l.size l.initial.text) l.text l.end l.w-index
