use Rattle.base_prelude.specs.Fault.{key}
use borrow.Author.Rules.{rules}
use Rattle.base_prelude.proofs.fault.Goals as goal

pub returns : goal.returns
unfolding key
returns c =
    search rules
