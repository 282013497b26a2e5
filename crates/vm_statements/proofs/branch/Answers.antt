use Rattle.vm_statements.proofs.Cases.{branches}
use Rattle.vm_statements.proofs.branch.Goals as goal

pub returns-then-test : goal.returns-then-test
returns-then-test c =
    search branches

pub returns : goal.returns
returns c =
    search branches
