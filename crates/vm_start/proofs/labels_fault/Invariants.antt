use Rattle.base_limits.specs.declared.Width.TheVariants.{Bits32}
use Rattle.prog_tables.specs.Program.{program_from}
use Rattle.vm_definitions.specs.Lent.{tables_of}
use Rattle.prog_tables.specs.Label.{label_at}
use Rattle.prog_tables.specs.Faults.{label_fault}
use Rattle.vm_start.proofs.Cases.{Trying}
use Rattle.vm_start.proofs.labels_fault.Given as goal

abbrev pub invariant-loop-i : goal.invariant-loop-i
invariant-loop-i l =
    Trying (λ j. label_fault (program_from Bits32 (tables_of l.t l.c l.l l.k l.names l.d)) (label_at l.l l.names j)) l.k l.i
