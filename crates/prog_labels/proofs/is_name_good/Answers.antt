use Rattle.prog_labels.proofs.Cases.{good-ways}
use Rattle.prog_labels.proofs.is_name_good.Goals as goal

pub returns-then-size-lt1 : goal.returns-then-size-lt1
returns-then-size-lt1 c =
    search good-ways

pub returns-then-size-gt-NAME_BYTES : goal.returns-then-size-gt-NAME_BYTES
returns-then-size-gt-NAME_BYTES c =
    search good-ways

pub returns : goal.returns
returns c =
    search good-ways
