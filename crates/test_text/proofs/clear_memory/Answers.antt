use Rattle.std.proofs.Common.{refl, arith, rules}
use Rattle.test_text.proofs.Loops.{cleared, cleared-none}
use Rattle.test_text.proofs.clear_memory.Goals as goal

pub returns-then-from-lt-MEMORY : goal.returns-then-from-lt-MEMORY
returns-then-from-lt-MEMORY c =
    cleared 65537 c.args.from c.args.m.now _ c.fill.new.self (search rules) (omega arith) refl (c.fill.ensures.after (λ _ e. e))

pub returns-else-from-lt-MEMORY : goal.returns-else-from-lt-MEMORY
returns-else-from-lt-MEMORY c =
    search cleared-none
