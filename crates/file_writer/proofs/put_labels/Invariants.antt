use Rattle.file_codec.specs.File.{label_fields}
use Rattle.file_writer.proofs.Loops.{Listing}
use Rattle.file_writer.proofs.put_labels.Given as goal

abbrev pub invariant-loop-i : goal.invariant-loop-i
invariant-loop-i l =
    Listing (label_fields l.l l.names) 4294967311 l.k l.at l.initial.out l.out l.to l.i
