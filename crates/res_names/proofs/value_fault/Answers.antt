use Rattle.res_names.proofs.Cases.{values}
use Rattle.res_names.proofs.value_fault.Goals as goal

pub returns-in-Let : goal.returns-in-Let
returns-in-Let c =
    search values

pub returns-in-Parameter : goal.returns-in-Parameter
returns-in-Parameter c =
    search values

pub returns-in-Label : goal.returns-in-Label
returns-in-Label c =
    search values

pub returns-in-Unknown : goal.returns-in-Unknown
returns-in-Unknown c =
    search values
