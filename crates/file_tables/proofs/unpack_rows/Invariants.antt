use Rattle.file_tables.proofs.Cases.{Fielding, unpacked-length}
use Rattle.file_codec.specs.Rows.{unpacked, row_fits}
use Rattle.file_tables.proofs.unpack_rows.Given as goal

abbrev pub invariant-loop-i : goal.invariant-loop-i
invariant-loop-i l =
    Fielding 3 row_fits unpacked 27 unpacked-length l.b l.n l.at l.initial.t l.t l.p l.i
