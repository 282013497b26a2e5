-- The rows of an outline as rows of the statement table, and what putting one row more does to them.
-- Assumes nothing.
use mathlib.Core.Path.{◌≡◌, refl, sym, ◌∙◌, ap}
use mathlib.Core.List.{List, [], ◌++◌}
use Prim.Native.Nat.{ℕ, suc, ◌+◌, ◌*◌, ◌-◌, ◌≤◌, ◌<◌}
use native.Mathlib.Omega.{arith}
use lib.ListN.{length, get_or, take, drop, length-append, get_or-append}
use lib.Seq.{length-take-le, get_or-take, get_or-append-add}
use Rattle.parse_lines.specs.Tokens.{token_word}
use Rattle.parse_units.specs.Outline as outline
use Rattle.parse_units.specs.Outline.{put_row, words_of}
use Rattle.parse_units.specs.declared.Row as declared
use Rattle.res_skeleton.specs.Skeleton.{parameters_of}
use Rattle.prog_tables.specs.Statement.{Row}
use Rattle.prog_tables.specs.declared.Operand.TheVariants.{Unlisted}

-- a row of the statement table of which nesting knows five words
abbrev pub bare : ℕ → ℕ → ℕ → ℕ → ℕ → Row
bare kind func scope up b =
    record { kind = kind; func = func; scope = scope; up = up; a = 0; b = b; expr = 0; callee = 0; count = 0; address = Unlisted; operands = [] }

-- those five words of a row; only a function's row has parameters
abbrev pub strip : Row → Row
strip r = bare r.kind r.func r.scope r.up (parameters_of r.kind r.b)

-- a row of the outline: rows of functions and frames count from 1 there
abbrev pub seen : declared.Row → Row
seen r = bare r.kind (r.func - 1) (r.scope - 1) r.up (parameters_of r.kind r.operands)

-- statement m of an outline
abbrev pub view_of : List ℕ → ℕ → Row
view_of x m = seen (outline.row_at x (suc m))

-- ---- an outline read back behind one row more

module _ (t : List ℕ) (n : ℕ) (r : declared.Row) (h : n * 8 + 8 ≤ length t) where
  front : length (take (n * 8) t) ≡ n * 8
  front = length-take-le (n * 8) t (omega arith)

  head : length (take (n * 8) t ++ words_of r) ≡ n * 8 + 8
  head = length-append (take (n * 8) t) (words_of r) ∙ ap (λ (m : ℕ). m + 8) front

  word-before : (i : ℕ) → i < n * 8 → get_or (put_row t n r) i 0 ≡ get_or t i 0
  unfolding put_row
  word-before i g =
      get_or-append (take (n * 8) t ++ words_of r) (drop (n * 8 + 8) t) 0 i (omega (arith, head))
      ∙ get_or-append (take (n * 8) t) (words_of r) 0 i (omega (arith, front)) ∙ get_or-take (n * 8) t i 0 g

  word_same : (j : ℕ) → j < 8 → get_or (put_row t n r) (n * 8 + j) 0 ≡ get_or (words_of r) j 0
  unfolding put_row
  word_same j g =
      get_or-append (take (n * 8) t ++ words_of r) (drop (n * 8 + 8) t) 0 (n * 8 + j) (omega (arith, head))
      ∙ ap (λ (m : ℕ). get_or (take (n * 8) t ++ words_of r) (m + j) 0) (sym front) ∙ get_or-append-add (take (n * 8) t) (words_of r) j 0

  -- the new row
  pub put_same : outline.row_at (put_row t n r) n ≡ r
  unfolding outline.row_at token_word
  put_same =
      rw (word_same 0 (omega arith), word_same 1 (omega arith), word_same 2 (omega arith), word_same 3 (omega arith))
      (rw (word_same 4 (omega arith), word_same 5 (omega arith), word_same 6 (omega arith), word_same 7 (omega arith)) refl)

  -- the rows before it
  pub put_other : (m : ℕ) → m < n → outline.row_at (put_row t n r) m ≡ outline.row_at t m
  unfolding outline.row_at token_word
  put_other m g =
      rw (word-before (m * 8 + 0) (omega arith), word-before (m * 8 + 1) (omega arith), word-before (m * 8 + 2) (omega arith), word-before (m * 8 + 3) (omega arith))
      (rw (word-before (m * 8 + 4) (omega arith), word-before (m * 8 + 5) (omega arith), word-before (m * 8 + 6) (omega arith), word-before (m * 8 + 7) (omega arith)) refl)
