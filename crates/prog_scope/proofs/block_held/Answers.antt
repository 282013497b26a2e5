use Rattle.prog_scope.proofs.Cases.{block-ways}
use Rattle.prog_scope.proofs.block_held.Goals as goal

pub returns-then-b-m : goal.returns-then-b-m
returns-then-b-m c =
    search block-ways

pub returns-then-a-w : goal.returns-then-a-w
returns-then-a-w c =
    search block-ways

pub returns : goal.returns
returns c =
    search block-ways
