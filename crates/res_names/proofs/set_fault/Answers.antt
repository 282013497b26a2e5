use Rattle.res_names.proofs.Cases.{sets}
use Rattle.res_names.proofs.set_fault.Goals as goal

pub returns-in-Let : goal.returns-in-Let
returns-in-Let c =
    search sets

pub returns-in-Parameter : goal.returns-in-Parameter
returns-in-Parameter c =
    search sets

pub returns-in-Label : goal.returns-in-Label
returns-in-Label c =
    search sets

pub returns-in-Unknown : goal.returns-in-Unknown
returns-in-Unknown c =
    search sets
