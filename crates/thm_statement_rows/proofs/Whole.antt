-- The tables of an accepted outline are canonical, where the size of each label is the length of its name.
-- Assumes nothing.
use mathlib.Core.Path.{◌≡◌, refl}
use mathlib.Core.Bool.{Bool, true}
use mathlib.Core.List.{List}
use Prim.Native.Nat.{ℕ, ◌*◌, ◌≤◌, ◌<◌}
use lib.ListN.{length}
use Rattle.base_prelude.specs.Lists.{zeros}
use Rattle.base_limits.specs.declared.Width.{Width}
use Rattle.parse_lines.specs.Tokens.{value_at}
use Rattle.parse_outline.specs.Outline.{outline_of}
use Rattle.parse_outline.specs.Outline as outline
use Rattle.parse_outline.specs.Parsed as answer
use Rattle.res_skeleton.specs.Skeleton.{skeleton_of}
use Rattle.res_scope.specs.Lines.{end_token}
use Rattle.res_frame_words.specs.Framing.{words_of}
use Rattle.prog_tables.specs.Tests.{all, all_below}
use Rattle.prog_tables.specs.Statement.{row_at}
use Rattle.prog_tables.specs.Label.{Tables}
use Rattle.prog_tables.specs.Canonical.{unused_zero, canonical, Canonical}
use Rattle.prog_tables.proofs.Each.{both_true}
use Rattle.thm_outline.proofs.Lines.{few-rows}
use Rattle.thm_outline.proofs.Rows.{kind_of, parts_at, row_plain, row-idle, row-shaped, callee-none}
use Rattle.res_labels.specs.Labelling.{outline_word, label_table, label_name, name_table}
use Rattle.res_rows.specs.Rows.{statement_table}
use Rattle.thm_statement_rows.proofs.Zeros.{below_all}
use Rattle.thm_statement_rows.proofs.Rows.{Quiet, row-unused, rows-zero}
use Rattle.thm_statement_rows.proofs.Labels.{label-unused, labels-zero, names-zero}

module _ (v : Width) (t : List ℕ) (n c l : ℕ) (x y : List ℕ) (long : length t ≡ 32768) (h : outline_of v t n ≡ outline.parsed (answer.accepted c l) x y) where
  abbrev k : List ℕ
  k = skeleton_of x c

  pub row-quiet : (r : ℕ) → r < c → Quiet (kind_of (skeleton_of x c) r) (parts_at t (skeleton_of x c) r) (end_token (skeleton_of x c) r)
  row-quiet r g =
      record {
        plain = row_plain v t n c l x y long h r g;
        idle = row-idle v t n c l x y long h r g;
        shaped = row-shaped v t n c l x y long h r g;
        uncalled = callee-none v t n c l x y long h r g;
      }

  -- every row of the statement table
  pub rows-unused : (same : ℕ → ℕ → Bool) (z : List ℕ) (m : ℕ) → c * 27 ≤ m
      → all_below (unused_zero (statement_table same t (skeleton_of x c) y l (words_of (row_at (skeleton_of x c)) c) z c (zeros m))) c ≡ true
  rows-unused same z m room =
      below_all _ c (λ r g. row-unused same t k y l z c m room (few-rows v t n c l x y long h) r g (row-quiet r g))

  module _ (same : ℕ → ℕ → Bool) (s flags z : List ℕ) (m i j d : ℕ) (rows-room : c * 27 ≤ m) (labels-room : l * 4 ≤ i) (names-room : l * 64 ≤ j)
      (sized : (e : ℕ) → e < l → value_at t (outline_word y e 0) ≡ length (label_name s t y e)) where
    abbrev pub tables : Tables
    tables =
        record {
          statements = statement_table same t (skeleton_of x c) y l (words_of (row_at (skeleton_of x c)) c) z c (zeros m);
          count = c;
          labels = label_table v t y flags l (zeros i);
          label_count = l;
          names = name_table s t y l (zeros j);
          data_length = d;
        }

    pub outline-canonical : Canonical tables
    unfolding canonical all
    outline-canonical =
        both_true _ _ (rows-unused same z m rows-room)
        (both_true _ _ (below_all _ l (λ e g. label-unused v s t y flags l i j labels-room names-room e g (sized e g)))
        (both_true _ _ (rows-zero same t k y l z c m rows-room (words_of (row_at k) c))
        (both_true _ _ (labels-zero v t y flags l i labels-room)
        (both_true _ _ (names-zero s t y l j names-room) refl))))
