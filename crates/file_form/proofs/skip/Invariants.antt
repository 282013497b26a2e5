use Rattle.file_form.proofs.Cases.{Skipping}
use Rattle.file_form.specs.Shape.{fits_of}
use Rattle.file_form.proofs.skip.Given as goal

abbrev pub invariant-loop : goal.invariant-loop
invariant-loop l =
    Skipping l.tag (fits_of l.tag l.long) l.b l.n l.at l.counter l.p
