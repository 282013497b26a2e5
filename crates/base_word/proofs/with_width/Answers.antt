use Rattle.base_word.proofs.Cases.{shifted-near, shifted-far}
use Rattle.base_word.proofs.with_width.Goals as goal

pub returns-then-n-lt32 : goal.returns-then-n-lt32
returns-then-n-lt32 c =
    search (shifted-near 32)

pub returns-else-n-lt32 : goal.returns-else-n-lt32
returns-else-n-lt32 c =
    search (shifted-far 32)
