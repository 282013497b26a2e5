-- What the filled buffers hold.
-- Assumes nothing.
use mathlib.Core.Path.{◌≡◌, ap}
use mathlib.Core.Bool.{Bool}
use mathlib.Core.List.{List}
use Prim.Native.Nat.{ℕ}
use Rattle.base_prelude.specs.Lists.{zeros}
use Rattle.base_limits.specs.declared.Width.{Width}
use Rattle.prog_tables.specs.Statement.{row_at}
use Rattle.res_frame_words.specs.Framing.{words_of}
use Rattle.res_data.specs.Image.{image_of}
use Rattle.res_labels.specs.Labelling.{label_table, name_table}
use Rattle.res_rows.specs.Rows.{statement_table}
use Rattle.res_tokens.specs.TokenTable.{token_table}
use Rattle.check_judge.specs.Judge.{known}
use Rattle.check_fill.specs.Fill.{Lent, Buffers, buffers, zeroed, labels_in, fill_of}

-- the rows of each table, written over zeros
pub fill_is : (w : Width) (s : List ℕ) (same : ℕ → ℕ → Bool) (t k y flags : List ℕ) (n c l : ℕ) (lent : Lent) (a b d e f a' b' d' e' f' : List ℕ)
    → buffers a b d e f ≡ zeroed lent
    → a' ≡ token_table t k c n a
    → d' ≡ label_table w t y flags l d
    → e' ≡ name_table s t y l e
    → b' ≡ statement_table same t k y l (words_of (row_at k) c) d' c b
    → f' ≡ image_of w s t f
    → buffers a' b' d' e' f' ≡ fill_of w s same (known n t c k l y flags) lent
unfolding zeroed fill_of labels_in
fill_is w s same t k y flags n c l lent a b d e f a' b' d' e' f' z p q q' r u =
    let ka : a ≡ zeros lent.tokens = ap (λ (x : Buffers). x.tokens) z in
    let kb : b ≡ zeros lent.statements = ap (λ (x : Buffers). x.statements) z in
    let kd : d ≡ zeros lent.labels = ap (λ (x : Buffers). x.labels) z in
    let ke : e ≡ zeros lent.names = ap (λ (x : Buffers). x.names) z in
    let kf : f ≡ zeros lent.bytes = ap (λ (x : Buffers). x.bytes) z in
    rw (p, r, q, q', u, ka, kb, kd, ke, kf)
