use Rattle.file_tables.proofs.Cases.{label-unpacked}
use lib.ListN.{length-set}
use native.Mathlib.Omega.{arith}
use Rattle.file_tables.proofs.unpack_label.Goals as goal

pub bounds-l-at-2 : goal.bounds-l-at-2
bounds-l-at-2 c =
    simp length-set (omega arith)

pub bounds-l-at-3 : goal.bounds-l-at-3
bounds-l-at-3 c =
    simp length-set (omega arith)

pub bounds-l-at-4 : goal.bounds-l-at-4
bounds-l-at-4 c =
    simp length-set (omega arith)

pub returns : goal.returns
returns c =
    search label-unpacked
