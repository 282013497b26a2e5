-- The same tests from counts of lets, as code makes them: x and y are lists that hold at a frame's row number how many lets it has, x those
-- before row n, y all. proofs/Rows shows that they are the tests of FrameTests.
-- Assumes nothing.
use Rattle.std.specs.Prelude.{ℕ, zero, suc, ◌+◌, Bool, true, false, List, [], ◌∷◌, ltb, leb, eqb, get_or, set}
use Rattle.base_prelude.specs.Choice.{if_eq}
use Rattle.base_prelude.specs.Lists.{zeros}
use Rattle.base_limits.specs.Limits.{statements, parameters, locals}
use Rattle.lang_kinds.specs.Kinds as kind
use Rattle.prog_tables.specs.Layout.{frame_head}
use Rattle.prog_tables.specs.Tests.{both, one_of, all, all_of}
use Rattle.prog_tables.specs.Statement.{Row}
use Rattle.prog_tables.specs.Label.{Label, is_data}
use Rattle.prog_tables.specs.Frames.{frame_depth, frame_size, is_parameter}
use Rattle.prog_tables.specs.Faults.{address_listed}
use Rattle.prog_tables.specs.WellFormed.{labelled}
use Rattle.prog_tables.specs.declared.Operand.{Operand}
use Rattle.prog_tables.specs.declared.Operand.TheVariants.{Constant, Local, Address, AtConstant, AtLocal, AtAddress, Unlisted}

-- ---- counts

-- one let more in the frame of row n, where it is a let
unfoldable pub noted : (ℕ → Row) → ℕ → List ℕ → List ℕ
noted f n x = if_eq (f n).kind kind.let_local (set x (f n).scope (get_or x (f n).scope 0 + 1)) x

-- the lets before row n, of each frame at its row number
unfoldable pub let_counts : (ℕ → Row) → ℕ → List ℕ
let_counts f zero = zeros statements
let_counts f (suc n) = noted f n (let_counts f n)

-- ---- words

-- the word of the first let of frame s, from its own row: behind the block's word, or behind the parameters
unfoldable pub first_word : (ℕ → Row) → ℕ → ℕ
first_word f s = if_eq (f s).kind kind.block ((f s).a + 1) (frame_head + (f s).b)

-- the word behind the counted lets of frame s
unfoldable pub next_word : (ℕ → Row) → List ℕ → ℕ → ℕ
next_word f x s = first_word f s + get_or x s 0

-- ---- scope

-- w is the word of a counted let of frame s
unfoldable pub holds : (ℕ → Row) → List ℕ → ℕ → ℕ → Bool
holds f x w s = both (leb (first_word f s) w) (ltb w (next_word f x s))

-- of frame s or of one around it, at most `fuel` frames out
unfoldable pub chain_holds : (ℕ → Row) → List ℕ → ℕ → ℕ → ℕ → Bool
chain_holds f x w zero s = holds f x w s
chain_holds f x w (suc fuel) s = one_of (holds f x w s) (if_eq (f s).kind kind.block (chain_holds f x w fuel (f s).scope) false)

-- the counted lets of frame s and of those around it
unfoldable pub chain_lets : (ℕ → Row) → List ℕ → ℕ → ℕ → ℕ
chain_lets f x zero s = get_or x s 0
chain_lets f x (suc fuel) s = get_or x s 0 + if_eq (f s).kind kind.block (chain_lets f x fuel (f s).scope) 0

-- w is in scope at row n
unfoldable pub scope_holds : (ℕ → Row) → List ℕ → ℕ → ℕ → Bool
scope_holds f x n w = one_of (is_parameter (f (f n).func).b w) (chain_holds f x w frame_depth (f n).scope)

-- the locals in scope at row n
unfoldable pub scope_size : (ℕ → Row) → List ℕ → ℕ → ℕ
scope_size f x n = (f (f n).func).b + chain_lets f x frame_depth (f n).scope

-- label i is a data label with number v
unfoldable pub is_data_at : (ℕ → Label) → ℕ → ℕ → Bool
is_data_at g v i = both (is_data (g i).kind) (eqb (g i).number v)

-- ---- the tests of row n: f the rows, g the labels, k their count

unfoldable pub operand_held : (ℕ → Row) → (ℕ → Label) → ℕ → List ℕ → ℕ → Operand → Bool
operand_held f g k x n (Constant v) = true
operand_held f g k x n (Local w) = scope_holds f x n w
operand_held f g k x n (Address v) = labelled g k is_data v
operand_held f g k x n (AtConstant v) = true
operand_held f g k x n (AtLocal w) = scope_holds f x n w
operand_held f g k x n (AtAddress v) = labelled g k is_data v
operand_held f g k x n Unlisted = false

unfoldable pub operands_held : (ℕ → Row) → (ℕ → Label) → ℕ → List ℕ → ℕ → Bool
operands_held f g k x n = all_of (operand_held f g k x n) (f n).operands

unfoldable pub address_held : (ℕ → Row) → (ℕ → Label) → ℕ → List ℕ → ℕ → Bool
address_held f g k x n =
    if_eq (f n).kind kind.set_at (both (address_listed (f n).address) (operand_held f g k x n (f n).address)) true

unfoldable pub set_held : (ℕ → Row) → List ℕ → ℕ → Bool
set_held f x n = if_eq (f n).kind kind.set (scope_holds f x n (f n).a) true

-- of a block: its word, its lets, the locals before it
unfoldable pub block_held : (ℕ → Row) → List ℕ → List ℕ → ℕ → Bool
block_held f x y n =
    both (eqb (f n).a (next_word f y (f n).scope)) (both (eqb (f n).b (get_or y n 0)) (eqb (f n).callee (scope_size f x n)))

-- of a let: its word, one more local
unfoldable pub let_held : (ℕ → Row) → List ℕ → ℕ → Bool
let_held f x n = both (eqb (f n).a (next_word f x (f n).scope)) (ltb (scope_size f x n) locals)

-- of a function: few parameters, its size
unfoldable pub function_held : (ℕ → Row) → ℕ → ℕ → Bool
function_held f c n = both (leb (f n).b parameters) (eqb (f n).a (frame_size f c n))

-- a row's own word
unfoldable pub word_held : (ℕ → Row) → ℕ → List ℕ → List ℕ → ℕ → Bool
word_held f c x y n =
    if_eq (f n).kind kind.let_local (let_held f x n)
    (if_eq (f n).kind kind.block (block_held f x y n)
    (if_eq (f n).kind kind.end_block (eqb (f n).a (f (f n).scope).a)
    (if_eq (f n).kind kind.function (function_held f c n) true)))

unfoldable pub row_held : (ℕ → Row) → ℕ → (ℕ → Label) → ℕ → List ℕ → List ℕ → ℕ → Bool
row_held f c g k x y n =
    all (word_held f c x y n ∷ operands_held f g k x n ∷ set_held f x n ∷ address_held f g k x n ∷ [])
