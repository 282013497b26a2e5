use Rattle.prog_rules.proofs.Goals.{ways}
use Rattle.prog_rules.proofs.ways_rules.Goals as goal

pub returns-then-not-is_shallow : goal.returns-then-not-is_shallow
returns-then-not-is_shallow c =
    search ways

pub returns-then-is_aimed : goal.returns-then-is_aimed
returns-then-is_aimed c =
    search ways

pub returns-else-is_aimed : goal.returns-else-is_aimed
returns-else-is_aimed c =
    rw c.if-is_aimed.false (search ways)
