use Rattle.file_form.proofs.Cases.{good-ways, whole-fits-by}
use Rattle.file_form.proofs.is_good.Goals as goal

pub returns-then-byte_in-tag : goal.returns-then-byte_in-tag
returns-then-byte_in-tag c =
    search good-ways

pub body-requires : goal.body-requires
body-requires c =
    search whole-fits-by

pub returns-then-is_whole : goal.returns-then-is_whole
returns-then-is_whole c =
    search good-ways

pub returns-else-is_whole : goal.returns-else-is_whole
returns-else-is_whole c =
    search good-ways
