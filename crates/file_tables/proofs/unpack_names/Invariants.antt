use Rattle.file_tables.proofs.Cases.{Fielding, slot-length}
use Rattle.file_codec.specs.Labels.{name_slot, label_fits}
use Rattle.file_tables.proofs.unpack_names.Given as goal

abbrev pub invariant-loop-i : goal.invariant-loop-i
invariant-loop-i l =
    Fielding 4 label_fits name_slot 64 slot-length l.b l.n l.at l.initial.names l.names l.p l.i
