-- The check: a judged source is 16 where the lent buffers cannot hold it, and else fills them. "Check order: [..]; 16. [..] A refused check zeroes
-- every lent table and the data buffer; an accepted one zeroes what lies beyond its rows."
-- Assumes nothing.
use Rattle.std.specs.Prelude.{ℕ, ◌*◌, Bool, true, false, List}
use Rattle.base_prelude.specs.Choice.{if_lt, if_true}
use Rattle.base_limits.specs.declared.Width.{Width}
use Rattle.base_limits.specs.Limits.{name_bytes, token_row}
use Rattle.prog_tables.specs.Layout.{statement_row, label_row}
use Rattle.prog_tables.specs.Hosts.{Hosts}
use Rattle.res_text.specs.Same.{same_text}
use Rattle.check_judge.specs.Judge.{Known, Judged, refusal, fine, judge_of}
pub use Rattle.check_fill.specs.Fill.{Lent, lent}
use Rattle.check_fill.specs.Fill.{Buffers, zeroed, fill_of}
use Rattle.check_source.specs.Checked.{Checked, accepted, refused}

-- the answer, and what the buffers then hold
pub record Filled : Type 0 where
  pub answer : Checked
  pub tokens : List ℕ
  pub statements : List ℕ
  pub labels : List ℕ
  pub names : List ℕ
  pub bytes : List ℕ

abbrev pub filled : Checked → List ℕ → List ℕ → List ℕ → List ℕ → List ℕ → Filled
filled answer tokens statements labels names bytes =
    record { answer = answer; tokens = tokens; statements = statements; labels = labels; names = names; bytes = bytes }

abbrev pub filled_by : Checked → Buffers → Filled
filled_by answer x = filled answer x.tokens x.statements x.labels x.names x.bytes

-- "A refused check zeroes every lent table and the data buffer"
unfoldable pub refuse : ℕ → ℕ → Lent → Filled
refuse number place b = filled_by (refused number place) (zeroed b)

-- "an accepted one zeroes what lies beyond its rows"
unfoldable pub accept : Width → List ℕ → Known → ℕ → Lent → Filled
accept w s p size b = filled_by (accepted p.n p.c p.l size) (fill_of w s (same_text s p.t) p b)

-- 16: "a lent table or data buffer is shorter than needed"
unfoldable pub has_room : Lent → ℕ → ℕ → ℕ → ℕ → Bool
has_room b n c l size =
    if_lt b.tokens (n * token_row) false
    (if_lt b.statements (c * statement_row) false
    (if_lt b.labels (l * label_row) false
    (if_lt b.names (l * name_bytes) false
    (if_lt b.bytes size false true))))

unfoldable pub answer_to : Width → List ℕ → Judged → Lent → Filled
answer_to w s (refusal number place) b = refuse number place b
answer_to w s (fine p size) b = if_true (has_room b p.n p.c p.l size) (accept w s p size b) (refuse 16 0 b)

-- the source s, against the host's list h, and the lengths of the lent buffers
unfoldable pub check_of : Width → Hosts → List ℕ → Lent → Filled
check_of w h s b = answer_to w s (judge_of w h s) b
