-- A row of the outline that was put is read back; the rows before it stay.
-- Assumes nothing.
use mathlib.Core.Path.{◌≡◌, refl, sym, ◌∙◌, ap}
use mathlib.Core.List.{List, ◌++◌}
use Prim.Native.Nat.{ℕ, ◌+◌, ◌*◌, ◌≤◌, ◌<◌}
use native.Mathlib.Omega.{arith}
use lib.ListN.{length, get_or, take, drop, length-append, get_or-append, length-set}
use lib.Seq.{length-take-le, get_or-take, get_or-append-add}
use Rattle.parse_lines.specs.Tokens.{token_word}
use Rattle.parse_units.specs.Outline.{row_at, words_of, put_row}
use Rattle.parse_units.specs.declared.Row.{Row}
use Rattle.parse_units.proofs.Cases.{row_put}

module _ (t : List ℕ) (n : ℕ) (r : Row) (h : n * 8 + 8 ≤ length t) where
  front : length (take (n * 8) t) ≡ n * 8
  front = length-take-le (n * 8) t (omega arith)

  head : length (take (n * 8) t ++ words_of r) ≡ n * 8 + 8
  head = length-append (take (n * 8) t) (words_of r) ∙ ap (λ (m : ℕ). m + 8) front

  word-before : (m j : ℕ) → m < n → j < 8 → token_word (put_row t n r) m j ≡ token_word t m j
  unfolding put_row token_word
  word-before m j g a =
      get_or-append (take (n * 8) t ++ words_of r) (drop (n * 8 + 8) t) 0 (m * 8 + j) (omega (arith, head))
      ∙ get_or-append (take (n * 8) t) (words_of r) 0 (m * 8 + j) (omega (arith, front)) ∙ get_or-take (n * 8) t (m * 8 + j) 0 (omega arith)

  word_same : (j : ℕ) → j < 8 → token_word (put_row t n r) n j ≡ get_or (words_of r) j 0
  unfolding put_row token_word
  word_same j a =
      get_or-append (take (n * 8) t ++ words_of r) (drop (n * 8 + 8) t) 0 (n * 8 + j) (omega (arith, head))
      ∙ ap (λ (m : ℕ). get_or (take (n * 8) t ++ words_of r) (m + j) 0) (sym front) ∙ get_or-append-add (take (n * 8) t) (words_of r) j 0

  pub put-before : (m : ℕ) → m < n → row_at (put_row t n r) m ≡ row_at t m
  unfolding row_at
  put-before m g =
      rw (
        word-before m 0 g (omega arith),
        word-before m 1 g (omega arith),
        word-before m 2 g (omega arith),
        word-before m 3 g (omega arith),
        word-before m 4 g (omega arith),
        word-before m 5 g (omega arith),
        word-before m 6 g (omega arith),
        word-before m 7 g (omega arith),
      ) refl

  pub put_same : row_at (put_row t n r) n ≡ r
  unfolding row_at
  put_same =
      rw (
        word_same 0 (omega arith),
        word_same 1 (omega arith),
        word_same 2 (omega arith),
        word_same 3 (omega arith),
        word_same 4 (omega arith),
        word_same 5 (omega arith),
        word_same 6 (omega arith),
        word_same 7 (omega arith),
      ) refl

  pub length-put : length (put_row t n r) ≡ length t
  length-put = ap length (sym (row_put t n r h)) ∙ simp length-set
