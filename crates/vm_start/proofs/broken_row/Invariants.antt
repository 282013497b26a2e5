use Rattle.prog_tables.specs.Program.{lent_program}
use Rattle.prog_tables.specs.Faults.{row_fault}
use Rattle.vm_start.proofs.Cases.{Scanning}
use Rattle.vm_start.proofs.broken_row.Given as goal

abbrev pub invariant-loop-i : goal.invariant-loop-i
invariant-loop-i l =
    Scanning (row_fault (lent_program l.t l.c l.l l.k l.d)) l.c l.i
