use Rattle.std.proofs.Common.{rules}
use Rattle.base_word.proofs.Laws.{tests}
use Rattle.base_word.proofs.with_count.Goals as goal

pub returns-then-n-lt2147483648 : goal.returns-then-n-lt2147483648
returns-then-n-lt2147483648 c =
    search (rules, tests)

pub returns-else-n-lt2147483648 : goal.returns-else-n-lt2147483648
returns-else-n-lt2147483648 c =
    search (rules, tests)
