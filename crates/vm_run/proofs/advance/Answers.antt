use Rattle.vm_run.proofs.Cases.{somes, usable-running, usable-room, usable-stack, usable-memory}
use borrow.Author.Rules.{rules}
use Rattle.vm_run.proofs.advance.Goals as goal

pub returns-then-size-eq0 : goal.returns-then-size-eq0
returns-then-size-eq0 c =
    search somes

pub advance_in_frame-requires : goal.advance_in_frame-requires
advance_in_frame-requires c =
    (search usable-running, search rules, search usable-room, search usable-stack, search usable-memory)

pub returns : goal.returns
returns c =
    search somes
