use Rattle.prog_hosts.proofs.Cases.{naming}
use Rattle.prog_hosts.proofs.is_named.Goals as goal

pub returns-then-size-lt1 : goal.returns-then-size-lt1
returns-then-size-lt1 c =
    search naming

pub returns-then-size-gt-NAME_BYTES : goal.returns-then-size-gt-NAME_BYTES
returns-then-size-gt-NAME_BYTES c =
    search naming

pub returns-then-names-to : goal.returns-then-names-to
returns-then-names-to c =
    search naming

pub returns-then-arguments_at-gt-PARAMETERS : goal.returns-then-arguments_at-gt-PARAMETERS
returns-then-arguments_at-gt-PARAMETERS c =
    search naming

pub returns : goal.returns
returns c =
    search naming
