use Rattle.file_tables.proofs.Cases.{Fielding, label-words-length}
use Rattle.file_codec.specs.Labels.{label_words_in, label_fits}
use Rattle.file_tables.proofs.unpack_labels.Given as goal

abbrev pub invariant-loop-i : goal.invariant-loop-i
invariant-loop-i l =
    Fielding 4 label_fits label_words_in 4 label-words-length l.b l.n l.at l.initial.l l.l l.p l.i
