use Rattle.res_names.proofs.Cases.{gotos}
use Rattle.res_names.proofs.goto_fault.Goals as goal

pub returns-in-Let : goal.returns-in-Let
returns-in-Let c =
    search gotos

pub returns-in-Parameter : goal.returns-in-Parameter
returns-in-Parameter c =
    search gotos

pub returns-in-Label : goal.returns-in-Label
returns-in-Label c =
    search gotos

pub returns-in-Unknown : goal.returns-in-Unknown
returns-in-Unknown c =
    search gotos
