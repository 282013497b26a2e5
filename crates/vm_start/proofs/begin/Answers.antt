use Rattle.vm_start.proofs.Cases.{sound-data, sound-few, begin-ways}
use borrow.Author.Rules.{rules}
use Rattle.vm_start.proofs.begin.Goals as goal

pub enter-requires : goal.enter-requires
enter-requires c =
    search (sound-data, sound-few, rules)

pub returns-then-e-k : goal.returns-then-e-k
returns-then-e-k c =
    search begin-ways

pub returns : goal.returns
returns c =
    search begin-ways
