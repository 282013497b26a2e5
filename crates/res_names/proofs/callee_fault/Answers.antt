use Rattle.res_names.proofs.Cases.{callees}
use Rattle.res_names.proofs.callee_fault.Goals as goal

pub returns-in-Let : goal.returns-in-Let
returns-in-Let c =
    search callees

pub returns-in-Parameter : goal.returns-in-Parameter
returns-in-Parameter c =
    search callees

pub returns-in-Label : goal.returns-in-Label
returns-in-Label c =
    search callees

pub returns-in-Unknown : goal.returns-in-Unknown
returns-in-Unknown c =
    search callees
