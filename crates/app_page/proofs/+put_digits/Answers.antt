use Rattle.app_page.proofs.Cases.{digits}
use Rattle.app_page.proofs.+put_digits.Goals as goal

pub returns-then-left-eq0-clause-out_after : goal.returns-then-left-eq0-clause-out_after
returns-then-left-eq0-clause-out_after t c =
    search digits

pub returns-then-n-lt10-clause-out_after : goal.returns-then-n-lt10-clause-out_after
returns-then-n-lt10-clause-out_after t c =
    search digits

pub returns-clause-out_after : goal.returns-clause-out_after
returns-clause-out_after t c =
    search digits
