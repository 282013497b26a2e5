use Rattle.app_page.proofs.Cases.{parts}
use Rattle.app_page.proofs.part.Goals as goal

pub returns-then-s-from : goal.returns-then-s-from
returns-then-s-from c =
    search parts

pub returns-then-size-s : goal.returns-then-size-s
returns-then-size-s c =
    search parts

pub returns : goal.returns
returns c =
    search parts
