-- Frames, over a view of the rows: what a frame needs, which word each local and block has, what is in scope where.
-- Assumes nothing.
use Rattle.std.specs.Prelude.{◌≡◌, refl, ℕ, zero, suc, ◌+◌, ◌-◌, Bool, ltb, leb, eqb}
use Rattle.base_prelude.specs.Choice.{if_eq, if_true}
use Rattle.base_limits.specs.Limits.{block_depth}
use Rattle.lang_kinds.specs.Kinds as kind
use Rattle.prog_tables.specs.Layout.{frame_head}
use Rattle.prog_tables.specs.Tests.{both, one_of, some_below, count_below, greatest_below}
use Rattle.prog_tables.specs.Statement.{Row}
use Rattle.prog_tables.specs.Nesting.{encloses}

-- row i is of kind k and stands in frame s
unfoldable pub is_in : (ℕ → Row) → ℕ → ℕ → ℕ → Bool
is_in f k s i = both (eqb (f i).kind k) (eqb (f i).scope s)

-- the lets of frame s before row n; its own lets are those of all rows
unfoldable pub lets_before : (ℕ → Row) → ℕ → ℕ → ℕ
lets_before f s n = count_below (is_in f kind.let_local s) n

-- one plus the need of a block, where row i is a block directly in frame s; `need` gives that of a block
unfoldable pub block_need : (ℕ → Row) → ℕ → (ℕ → ℕ) → ℕ → ℕ
block_need f s need i = if_true (is_in f kind.block s i) (suc (need i)) 0

-- "A frame needs one word per own `let`, plus the greatest, over its direct blocks, of one plus that block's need (0 without
-- blocks)": of frame s in c rows, with at most `depth` frames one in the other
unfoldable pub need_of : (ℕ → Row) → ℕ → ℕ → ℕ → ℕ
need_of f c zero s = 0
need_of f c (suc depth) s = lets_before f s c + greatest_below (block_need f s (need_of f c depth)) c

-- a function and blocks in it, "nested 16 deep"
abbrev pub frame_depth : ℕ
frame_depth = 17

pub frame-depth : frame_depth ≡ suc block_depth
frame-depth = refl

-- "A function's frame size is 3 + parameters + need."
unfoldable pub frame_size : (ℕ → Row) → ℕ → ℕ → ℕ
frame_size f c s = frame_head + (f s).b + need_of f c frame_depth s

-- the word of the first let of frame s: "parameters, the function's `let`s, then for an open block its saved auto top and its
-- `let`s, and so inward"; at most `fuel` frames out
unfoldable pub first_let : (ℕ → Row) → ℕ → ℕ → ℕ → ℕ
first_let f c zero s = 0
first_let f c (suc fuel) s =
    if_eq (f s).kind kind.block (suc (first_let f c fuel (f s).scope + lets_before f (f s).scope c)) (frame_head + (f s).b)

-- the word in which block row s saves the auto top: behind all lets of the frame outside, also those that stand after the block
unfoldable pub block_word : (ℕ → Row) → ℕ → ℕ → ℕ
block_word f c s = first_let f c frame_depth (f s).scope + lets_before f (f s).scope c

-- the word of the let at row n: source order among the lets of its frame
unfoldable pub let_word : (ℕ → Row) → ℕ → ℕ → ℕ
let_word f c n = first_let f c frame_depth (f n).scope + lets_before f (f n).scope n

-- ---- scope

-- the let at row i is in scope in frame s
unfoldable pub let_seen : (ℕ → Row) → ℕ → ℕ → Bool
let_seen f s i = both (eqb (f i).kind kind.let_local) (encloses f frame_depth (f i).scope s)

-- w is the word of one of p parameters
unfoldable pub is_parameter : ℕ → ℕ → Bool
is_parameter p w = both (leb frame_head w) (ltb (w - frame_head) p)

-- the let at row i has the word w and is in scope in frame s
unfoldable pub seen_at : (ℕ → Row) → ℕ → ℕ → ℕ → Bool
seen_at f s w i = both (let_seen f s i) (eqb (f i).a w)

-- "A local is seen from after its whole `let` to the end of its function or block": at row n, w is the word of a parameter or of a
-- let that stands before n in a frame around n
unfoldable pub in_scope : (ℕ → Row) → ℕ → ℕ → Bool
in_scope f n w = one_of (is_parameter (f (f n).func).b w) (some_below (seen_at f (f n).scope w) n)

-- "locals in scope [..], parameters and shadowed ones included"
unfoldable pub locals_at : (ℕ → Row) → ℕ → ℕ
locals_at f n = (f (f n).func).b + count_below (let_seen f (f n).scope) n
