use Rattle.base_prelude.proofs.Choice.{tests}
use Rattle.prog_tables.specs.Statement.{operand_of}
use Rattle.prog_tables.proofs.operand_of.Goals as goal

pub returns-in-1 : goal.returns-in-1
unfolding operand_of
returns-in-1 c =
    search tests depth 16

pub returns-in-2 : goal.returns-in-2
unfolding operand_of
returns-in-2 c =
    search tests depth 16

pub returns-in-3 : goal.returns-in-3
unfolding operand_of
returns-in-3 c =
    search tests depth 16

pub returns-in-4 : goal.returns-in-4
unfolding operand_of
returns-in-4 c =
    search tests depth 16

pub returns-in-5 : goal.returns-in-5
unfolding operand_of
returns-in-5 c =
    search tests depth 16

pub returns-in-6 : goal.returns-in-6
unfolding operand_of
returns-in-6 c =
    search tests depth 16

pub returns-in_default : goal.returns-in_default
unfolding operand_of
returns-in_default c =
    search tests depth 16
