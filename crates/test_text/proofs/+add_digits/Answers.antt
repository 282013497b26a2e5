use Rattle.test_text.proofs.Cases.{digits}
use Rattle.test_text.proofs.+add_digits.Goals as goal

pub returns-then-left-eq0 : goal.returns-then-left-eq0
returns-then-left-eq0 t c =
    search digits

pub returns-then-n-lt10 : goal.returns-then-n-lt10
returns-then-n-lt10 t c =
    search digits

pub returns : goal.returns
returns t c =
    search digits
