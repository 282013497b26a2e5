use Rattle.std.proofs.Common.{rules}
use Rattle.base_word.proofs.Laws.{tests}
use Rattle.base_word.proofs.lacks_word.Goals as goal

pub returns-then-a-eq2147483648 : goal.returns-then-a-eq2147483648
returns-then-a-eq2147483648 c =
    search (rules, tests)

pub returns-else-a-eq2147483648 : goal.returns-else-a-eq2147483648
returns-else-a-eq2147483648 c =
    search (rules, tests)
