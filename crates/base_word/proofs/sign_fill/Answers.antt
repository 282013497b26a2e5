use Rattle.base_word.proofs.Cases.{fill-plus, fill-minus}
use Rattle.base_word.proofs.sign_fill.Goals as goal

pub returns-then-a-ge2147483648 : goal.returns-then-a-ge2147483648
returns-then-a-ge2147483648 c =
    search (fill-minus 32)

pub returns-else-a-ge2147483648 : goal.returns-else-a-ge2147483648
returns-else-a-ge2147483648 c =
    search (fill-plus 32)
