-- Single values of the definitions on the good tables of Strong.
-- Assumes nothing.
use mathlib.Core.Path.{◌≡◌, refl}
use mathlib.Core.Bool.{true, false}
use Rattle.prog_tables.specs.Statement.{row_at}
use Rattle.prog_tables.specs.declared.Operand.TheVariants.{Local, AtAddress}
use Rattle.prog_tables.specs.Nesting.{past_arm}
use Rattle.prog_tables.specs.Frames.{block_word, in_scope}
use Rattle.prog_tables.specs.Faults.{operand_fault}
use Rattle.prog_tables.proofs.Opened.{opened}
use Rattle.prog_tables.proofs.Strong.{arms-rows, frames-rows}

-- a word at the frame size is broken
word-at-size : operand_fault 5 4 (Local 5) ≡ true
unfolding opened
word-at-size = refl

-- an address at the data's length is not
address-at-length : operand_fault 5 4 (AtAddress 4) ≡ false
unfolding opened
address-at-length = refl

-- a false test goes to the test behind an else-if jump
arm-behind-jump : past_arm (row_at arms-rows) 3 ≡ 4
unfolding opened
arm-behind-jump = refl

-- a block has its word behind all lets of the frame outside, that of row 8 too
block-behind-lets : block_word (row_at frames-rows) 19 2 ≡ 6
unfolding opened
block-behind-lets = refl

-- the let of row 3 is not in scope in its own expression
let-behind-line : in_scope (row_at frames-rows) 3 7 ≡ false
unfolding opened
let-behind-line = refl
