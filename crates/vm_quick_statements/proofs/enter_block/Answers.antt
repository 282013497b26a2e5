use Rattle.vm_quick_statements.proofs.Cases.{blocks, block_in}
use Rattle.vm_quick_statements.proofs.enter_block.Goals as goal

pub returns-then-a-lt-FRAME_HEAD : goal.returns-then-a-lt-FRAME_HEAD
returns-then-a-lt-FRAME_HEAD c =
    search blocks

pub returns-then-size-a : goal.returns-then-size-a
returns-then-size-a c =
    search blocks

pub returns : goal.returns
returns c =
    block_in _ _ _ _ _ _ _ _ _ c.a_in-a.ensures c.b_in-b.ensures _ c.if-a-lt-FRAME_HEAD.false c.if-size-a.false c.open_block.ensures
