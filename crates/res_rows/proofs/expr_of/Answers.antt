use Rattle.res_rows.proofs.Cases.{expressing}
use Rattle.res_rows.proofs.expr_of.Goals as goal

pub returns-then-i-eq0 : goal.returns-then-i-eq0
returns-then-i-eq0 c =
    search expressing

pub returns-then-is_imported : goal.returns-then-is_imported
returns-then-is_imported c =
    search expressing

pub returns : goal.returns
returns c =
    search expressing
