use Rattle.std.proofs.Common.{refl, arith, rules}
use Rattle.test_text.proofs.Loops.{cleared, cleared-none}
use Rattle.test_text.proofs.clear_stack.Goals as goal

pub returns-then-from-lt-STACK : goal.returns-then-from-lt-STACK
returns-then-from-lt-STACK c =
    cleared 16385 c.args.from c.args.k.now _ c.fill.new.self (search rules) (omega arith) refl (c.fill.ensures.after (λ _ e. e))

pub returns-else-from-lt-STACK : goal.returns-else-from-lt-STACK
returns-else-from-lt-STACK c =
    search cleared-none
