-- The statement table: words that a row's kind does not use are 0, and so is what lies behind the rows.
-- Assumes nothing.
use mathlib.Core.Path.{◌≡◌, refl, sym, ◌∙◌, ap}
use mathlib.Core.Bool.{Bool, true, false}
use mathlib.Core.List.{List, [], ◌∷◌, ◌++◌, append_assoc}
use Prim.Native.Nat.{ℕ, zero, suc, ◌+◌, ◌-◌, ◌*◌, ◌%◌, ◌≤◌, ◌<◌, min}
use native.Mathlib.Nat.{add-zero, zero-mod}
use native.Mathlib.Omega.{arith}
use lib.Dec.{eqb, ltb}
use lib.ListN.{length, get_or, drop, length-replicate, get_or-append}
use lib.Seq.{get_or-append-add}
use borrow.Author.Tests.{lt-ltb, ltb-false, eqb-false}
use Rattle.base_prelude.specs.Choice.{if_lt, if_eq}
use Rattle.base_prelude.specs.Lists.{zeros}
use Rattle.base_prelude.proofs.Choice.{if_eq-yes, if_eq-no, if_lt-no, if_true-no, true-false}
use Rattle.prog_tables.specs.Tests.{one_of, all_of}
use Rattle.prog_tables.specs.Statement.{Row, operand_kind, operand_number, has_expression, is_call_row, is_call, is_import, used_by, row_at, row_from, slot_words, encode}
use Rattle.prog_tables.specs.Nesting.{has_target}
use Rattle.prog_tables.specs.Faults.{has_word}
use Rattle.prog_tables.specs.WellFormed.{has_operands}
use Rattle.prog_tables.specs.Canonical.{uses_word, unused_zero, zero_from}
use Rattle.prog_tables.specs.declared.Operand.{Operand}
use Rattle.prog_tables.specs.declared.Operand.TheVariants.{Unlisted}
use Rattle.res_frame_words.specs.Framing.{frame_value, word_of, words_of}
use Rattle.res_frame_words.proofs.Laws.{word_at}
use Rattle.res_scope.specs.Lines.{first_token, end_token}
use Rattle.res_scope.specs.Parts.{parts_of}
use Rattle.res_scope.specs.declared.Parts.{Parts}
use Rattle.res_rows.specs.Rows.{operands_from, aOf, bOf, expr_of, callee_of, address_of, row_with, row_of, statement_table}
use Rattle.thm_statement_rows.proofs.Calls.{used-expr, quiet-callee, plain-expr}
use Rattle.thm_statement_rows.proofs.Readback.{rows, rows_long, rows_split, encode-long, table_is, table-behind}
use Rattle.thm_statement_rows.proofs.Zeros.{below_all, used-or-zero, neither_left, neither_right, zeros-zero}

-- ---- a row by itself

-- what a row does not use is 0
pub record Bare (x : Row) : Type 0 where
  pub words : (x.kind ≡ 1 → ⊥) → has_word x.kind ≡ false → has_target x.kind ≡ false → (x.kind ≡ 10 → ⊥) → x.a ≡ 0
  pub owns : (x.kind ≡ 1 → ⊥) → (x.kind ≡ 3 → ⊥) → x.b ≡ 0
  pub plain : one_of (has_expression x.kind) (is_call_row x.kind) ≡ false → x.expr ≡ 0
  pub uncalled : (x.kind ≡ 3 → ⊥) → is_call x.kind x.expr ≡ false → is_import x.kind x.expr ≡ false → x.callee ≡ 0
  pub idle : has_operands x.kind ≡ false → x.count ≡ 0
  pub unlisted : (x.kind ≡ 7 → ⊥) → x.address ≡ Unlisted
  pub few : length x.operands ≤ used_by x.kind x.expr x.count

-- slots behind the operands
slots-zero : (n : ℕ) (os : List Operand) (j : ℕ) → 2 * length os ≤ j → get_or (slot_words n os) j 0 ≡ 0
unfolding slot_words
slots-zero zero os j h = refl
slots-zero (suc n) [] zero h = refl
slots-zero (suc n) [] (suc zero) h = refl
slots-zero (suc n) [] (suc (suc j)) h = slots-zero n [] j (omega arith)
slots-zero (suc n) (o ∷ os) zero h = let z : ⊥ = omega arith in absurd z
slots-zero (suc n) (o ∷ os) (suc zero) h = let z : ⊥ = omega arith in absurd z
slots-zero (suc n) (o ∷ os) (suc (suc j)) h = slots-zero n os j (omega arith)

module _ (x : Row) (b : Bare x) where
  slots-used : (j : ℕ) → 11 ≤ j → uses_word x j ≡ ltb j (11 + 2 * used_by x.kind x.expr x.count)
  unfolding uses_word
  slots-used j h =
      if_lt-no _ _ (omega arith) ∙ if_eq-no _ _ (λ e. omega arith) ∙ if_eq-no _ _ (λ e. omega arith) ∙ if_eq-no _ _ (λ e. omega arith)
      ∙ if_eq-no _ _ (λ e. omega arith) ∙ if_eq-no _ _ (λ e. omega arith) ∙ if_lt-no _ _ h

  -- word j of the row's words
  encoded-unused : (j : ℕ) → uses_word x j ≡ false → get_or (encode x) j 0 ≡ 0
  unfolding uses_word encode if_lt if_eq operand_kind operand_number
  encoded-unused zero h = true-false h
  encoded-unused (suc zero) h = true-false h
  encoded-unused (suc (suc zero)) h = true-false h
  encoded-unused (suc (suc (suc zero))) h = true-false h
  encoded-unused (suc (suc (suc (suc zero)))) h =
      let k = x.kind in
      let p = neither_right (eqb k 1) _ h in
      let q = neither_right (has_word k) _ p in
      b.words (eqb-false k 1 (neither_left (eqb k 1) _ h)) (neither_left (has_word k) _ p) (neither_left (has_target k) _ q) (eqb-false k 10 (neither_right (has_target k) _ q))
  encoded-unused (suc (suc (suc (suc (suc zero))))) h =
      b.owns (eqb-false x.kind 1 (neither_left _ _ h)) (eqb-false x.kind 3 (neither_right (eqb x.kind 1) _ h))
  encoded-unused (suc (suc (suc (suc (suc (suc zero)))))) h = b.plain h
  encoded-unused (suc (suc (suc (suc (suc (suc (suc zero))))))) h =
      let q = neither_right (eqb x.kind 3) _ h in
      b.uncalled (eqb-false x.kind 3 (neither_left _ _ h)) (neither_left (is_call x.kind x.expr) _ q) (neither_right (is_call x.kind x.expr) _ q)
  encoded-unused (suc (suc (suc (suc (suc (suc (suc (suc zero)))))))) h = b.idle h
  encoded-unused (suc (suc (suc (suc (suc (suc (suc (suc (suc zero))))))))) h = ap operand_kind (b.unlisted (eqb-false x.kind 7 h))
  encoded-unused (suc (suc (suc (suc (suc (suc (suc (suc (suc (suc zero)))))))))) h = ap operand_number (b.unlisted (eqb-false x.kind 7 h))
  encoded-unused (suc (suc (suc (suc (suc (suc (suc (suc (suc (suc (suc j))))))))))) h =
      let i : ℕ = suc (suc (suc (suc (suc (suc (suc (suc (suc (suc (suc j)))))))))) in
      let g = ltb-false i (11 + 2 * used_by x.kind x.expr x.count) (sym (slots-used i (omega arith)) ∙ h) in
      slots-zero 8 x.operands j (omega (arith, g, b.few))

-- ---- the row of a statement

has_word_lem : (k : ℕ) → 3 ≤ k → k < 7 → has_word k ≡ true
unfolding has_word
has_word_lem k a b = if_lt-no _ _ a ∙ lt-ltb k 7 b

wordless : (k : ℕ) → has_word k ≡ false → 3 ≤ k → k < 7 → ⊥
wordless k h a b = true-false (sym (has_word_lem k a b) ∙ h)

operands-long : (n : ℕ) (same : ℕ → ℕ → Bool) (t k y : List ℕ) (l : ℕ) (w z : List ℕ) (r i : ℕ) → length (operands_from n same t k y l w z r i) ≡ n
unfolding operands_from
operands-long zero same t k y l w z r i = refl
operands-long (suc n) same t k y l w z r i = ap suc (operands-long n same t k y l w z r (i + 1))

-- the frame word of a row whose kind has none
module _ (f : ℕ → Row) (c r : ℕ) (a : (f r).kind ≡ 1 → ⊥) (b : has_word (f r).kind ≡ false) (d : has_target (f r).kind ≡ false) where
  value_none : frame_value f c r ≡ 0
  unfolding frame_value
  value_none =
      if_eq-no _ _ a ∙ if_eq-no _ _ (λ e. wordless (f r).kind b (omega arith) (omega arith)) ∙ if_eq-no _ _ (λ e. wordless (f r).kind b (omega arith) (omega arith))
      ∙ if_eq-no _ _ (λ e. wordless (f r).kind b (omega arith) (omega arith)) ∙ if_true-no _ _ d

  word_none : c ≤ 1024 → r < c → get_or (words_of f c) r 0 ≡ 0
  unfolding word_of
  word_none h g = word_at f c r h g ∙ ap (λ (v : ℕ). v % 4294967296) value_none ∙ zero-mod 4294967296

-- what an accepted outline says of row r (crate thm_line_rows): of a kind, with its parts, up to a token
pub record Quiet (kind : ℕ) (p : Parts) (next : ℕ) : Type 0 where
  pub plain : one_of (has_expression kind) (is_call_row kind) ≡ false → p.expr ≡ 0
  pub idle : has_operands kind ≡ false → next - p.first ≡ 0
  pub shaped : has_operands kind ≡ true → used_by kind p.expr (next - p.first) ≡ next - p.first
  pub uncalled : is_call kind p.expr ≡ false → p.callee ≡ 0

few-used : (kind e n : ℕ) → (has_operands kind ≡ false → n ≡ 0) → (has_operands kind ≡ true → used_by kind e n ≡ n) → n ≤ used_by kind e n
few-used kind e n a b = by (has_operands kind) refl
  where
    by : (h : Bool) → has_operands kind ≡ h → n ≤ used_by kind e n
    by true q = omega (arith, b q)
    by false q = omega (arith, a q)

module _ (same : ℕ → ℕ → Bool) (t k y : List ℕ) (l : ℕ) (z : List ℕ) (c r : ℕ) (few-rows : c ≤ 1024) (g : r < c)
    (q : Quiet (row_at k r).kind (parts_of t (row_at k r).kind (first_token k r) (end_token k r)) (end_token k r)) where
  abbrev w : List ℕ
  w = words_of (row_at k) c

  abbrev kind : ℕ
  kind = (row_at k r).kind

  abbrev p : Parts
  p = parts_of t (row_at k r).kind (first_token k r) (end_token k r)

  abbrev next : ℕ
  next = end_token k r

  a-none : (kind ≡ 1 → ⊥) → has_word kind ≡ false → has_target kind ≡ false → (kind ≡ 10 → ⊥) → aOf same k y l w z r kind (first_token k r + 1) ≡ 0
  unfolding aOf
  a-none a b d e = if_eq-no _ _ (λ s. wordless kind b (omega arith) (omega arith)) ∙ if_eq-no _ _ e ∙ word_none (row_at k) c r a b d few-rows g

  b-none : (kind ≡ 1 → ⊥) → (kind ≡ 3 → ⊥) → bOf k c r kind ≡ 0
  unfolding bOf
  b-none a b = if_eq-no _ _ a ∙ if_eq-no _ _ b

  abbrev expr : ℕ
  expr = expr_of same k y l r p.expr p.callee

  callee-none : (kind ≡ 3 → ⊥) → is_call kind expr ≡ false → is_import kind expr ≡ false → callee_of same k y l z r kind p.callee ≡ 0
  unfolding callee_of
  callee-none a b d = if_eq-no _ _ a ∙ if_eq-yes _ _ (quiet-callee same k y l r kind p q.uncalled b d)

  expr-none : one_of (has_expression kind) (is_call_row kind) ≡ false → expr ≡ 0
  expr-none h = plain-expr same k y l r kind p q.uncalled h ∙ q.plain h

  address-none : (kind ≡ 7 → ⊥) → address_of same t k y l w z r kind (first_token k r + 1) ≡ Unlisted
  unfolding address_of
  address-none a = if_eq-no _ _ a

  operands-few : length (operands_from (min (next - p.first) 8) same t k y l w z r p.first) ≤ used_by kind expr (next - p.first)
  operands-few =
      omega (
        arith,
        operands-long (min (next - p.first) 8) same t k y l w z r p.first,
        few-used kind p.expr (next - p.first) q.idle q.shaped,
        used-expr same k y l r kind p q.uncalled (next - p.first),
      )

  row-bare : Bare (row_of same t k y l (words_of (row_at k) c) z c r)
  unfolding row_of row_with
  row-bare =
      record {
        words = a-none;
        owns = b-none;
        plain = expr-none;
        uncalled = callee-none;
        idle = q.idle;
        unlisted = address-none;
        few = operands-few;
      }

-- ---- the table

uses-same : (x u : Row) (j : ℕ) → x.kind ≡ u.kind → x.expr ≡ u.expr → x.count ≡ u.count → uses_word x j ≡ uses_word u j
unfolding uses_word
uses-same x u j a b d = rw (a, b, d)

module _ (same : ℕ → ℕ → Bool) (t k y : List ℕ) (l : ℕ) (w z : List ℕ) (c : ℕ) (out : List ℕ) (room : c * 27 ≤ length out) (r : ℕ) (g : r < c) where
  abbrev x : Row
  x = row_of same t k y l w z c r

  abbrev table : List ℕ
  table = statement_table same t k y l w z c out

  -- word j of row r
  pub row_word : (j : ℕ) → j < 27 → get_or (statement_table same t k y l w z c out) (r * 27 + j) 0 ≡ get_or (encode (row_of same t k y l w z c r)) j 0
  row_word j h =
      let f = row_of same t k y l w z c in
      let e : r + suc (c - suc r) ≡ c = omega arith in
      let s = rows_split f r (c - suc r) in
      let behind = drop (c * 27) out in
      let i : r * 27 + j ≡ length (rows f r) + j = omega (arith, rows_long f r) in
      ap (λ (v : List ℕ). get_or v (r * 27 + j) 0)
      (table_is same t k y l w z c out room ∙ ap (λ (n : ℕ). rows f n ++ behind) (sym e) ∙ ap (λ (v : List ℕ). v ++ behind) s.1
      ∙ append_assoc (rows f r) (encode (f r) ++ s.0) behind ∙ ap (λ (v : List ℕ). rows f r ++ v) (append_assoc (encode (f r)) s.0 behind))
      ∙ ap (λ (n : ℕ). get_or (rows f r ++ (encode (f r) ++ (s.0 ++ behind))) n 0) i
      ∙ get_or-append-add (rows f r) (encode (f r) ++ (s.0 ++ behind)) j 0
      ∙ get_or-append (encode (f r)) (s.0 ++ behind) 0 j (omega (arith, encode-long (f r)))

  kind-is : (row_at table r).kind ≡ x.kind
  unfolding row_at row_from encode
  kind-is = ap (λ (i : ℕ). get_or table i 0) (sym (add-zero (r * 27))) ∙ row_word 0 (omega arith)

  expr-is : (row_at table r).expr ≡ x.expr
  unfolding row_at row_from encode
  expr-is = row_word 6 (omega arith)

  count-is : (row_at table r).count ≡ x.count
  unfolding row_at row_from encode
  count-is = row_word 8 (omega arith)

  bare-unused : Bare x → unused_zero table r ≡ true
  unfolding unused_zero
  bare-unused b =
      below_all _ 27 (λ j h. used-or-zero (uses_word (row_at table r) j) _ (λ u.
      row_word j h ∙ encoded-unused x b j (sym (uses-same (row_at table r) x j kind-is expr-is count-is) ∙ u)))

module _ (same : ℕ → ℕ → Bool) (t k y : List ℕ) (l : ℕ) (z : List ℕ) (c m : ℕ) (room : c * 27 ≤ m) where
  room_in : c * 27 ≤ length (zeros m)
  room_in = omega (arith, length-replicate {A = ℕ} m 0)

  pub row-unused : c ≤ 1024 → (r : ℕ) → r < c → Quiet (row_at k r).kind (parts_of t (row_at k r).kind (first_token k r) (end_token k r)) (end_token k r)
      → unused_zero (statement_table same t k y l (words_of (row_at k) c) z c (zeros m)) r ≡ true
  row-unused h r g q = bare-unused same t k y l (words_of (row_at k) c) z c (zeros m) room_in r g (row-bare same t k y l z c r h g q)

  pub rows-zero : (w : List ℕ) → zero_from (c * 27) (statement_table same t k y l w z c (zeros m)) ≡ true
  unfolding zero_from
  rows-zero w =
      ap (all_of (λ (v : ℕ). eqb v 0)) (table-behind same t k y l w z c (zeros m) room_in) ∙ zeros-zero (c * 27) m
