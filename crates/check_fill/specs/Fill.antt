-- What the lent buffers hold after a check: "A refused check zeroes every lent table and the data buffer; an accepted one zeroes what lies beyond
-- its rows."
-- Assumes nothing.
use Rattle.std.specs.Prelude.{ℕ, Bool, List}
use Rattle.base_prelude.specs.Lists.{zeros}
use Rattle.base_limits.specs.declared.Width.{Width}
use Rattle.prog_tables.specs.Statement.{row_at}
use Rattle.res_frame_words.specs.Framing.{words_of}
use Rattle.res_data.specs.Image.{image_of}
use Rattle.res_labels.specs.Labelling.{label_table, name_table}
use Rattle.res_rows.specs.Rows.{statement_table}
use Rattle.res_tokens.specs.TokenTable.{token_table}
use Rattle.check_judge.specs.Judge.{Known}

-- how long the lent buffers are
pub record Lent : Type 0 where
  pub tokens : ℕ
  pub statements : ℕ
  pub labels : ℕ
  pub names : ℕ
  pub bytes : ℕ

abbrev pub lent : ℕ → ℕ → ℕ → ℕ → ℕ → Lent
lent tokens statements labels names bytes = record { tokens = tokens; statements = statements; labels = labels; names = names; bytes = bytes }

-- what they hold
pub record Buffers : Type 0 where
  pub tokens : List ℕ
  pub statements : List ℕ
  pub labels : List ℕ
  pub names : List ℕ
  pub bytes : List ℕ

abbrev pub buffers : List ℕ → List ℕ → List ℕ → List ℕ → List ℕ → Buffers
buffers tokens statements labels names bytes = record { tokens = tokens; statements = statements; labels = labels; names = names; bytes = bytes }

unfoldable pub zeroed : Lent → Buffers
zeroed b = buffers (zeros b.tokens) (zeros b.statements) (zeros b.labels) (zeros b.names) (zeros b.bytes)

unfoldable pub labels_in : Width → Known → Lent → List ℕ
labels_in w p b = label_table w p.t p.y p.flags p.l (zeros b.labels)

-- the rows of a judged source s over zeros; `same` says whether two tokens have one name
unfoldable pub fill_of : Width → List ℕ → (ℕ → ℕ → Bool) → Known → Lent → Buffers
fill_of w s same p b =
    buffers
    (token_table p.t p.k p.c p.n (zeros b.tokens))
    (statement_table same p.t p.k p.y p.l (words_of (row_at p.k) p.c) (labels_in w p b) p.c (zeros b.statements))
    (labels_in w p b)
    (name_table s p.t p.y p.l (zeros b.names))
    (image_of w s p.t (zeros b.bytes))
