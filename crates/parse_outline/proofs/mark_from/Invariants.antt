use Rattle.parse_outline.proofs.Cases.{Labelling}
use Rattle.parse_outline.proofs.mark_from.Given as goal

abbrev pub invariant-loop-i : goal.invariant-loop-i
invariant-loop-i l =
    Labelling l.t l.first l.end l.kind l.number l.initial.c l.initial.x l.c l.i l.x
