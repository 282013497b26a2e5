use Rattle.file_codec.specs.File.{row_fields}
use Rattle.file_writer.proofs.Loops.{Listing}
use Rattle.file_writer.proofs.put_rows.Given as goal

abbrev pub invariant-loop-i : goal.invariant-loop-i
invariant-loop-i l =
    Listing (row_fields l.t) 111 l.c l.at l.initial.out l.out l.to l.i
