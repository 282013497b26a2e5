-- The form of a statement row: what stands behind its magic word, by its kind.
-- Assumes nothing.
use mathlib.Core.Path.{◌≡◌, refl, sym, ◌∙◌, subst}
use mathlib.Core.Bool.{Bool, true, false}
use mathlib.Core.List.{List}
use mathlib.Core.Logic.{◌⊎◌, inl, inr}
use Prim.Native.Nat.{ℕ, zero, suc, ◌+◌, ◌-◌, ◌≤◌, ◌<◌}
use native.Mathlib.Decide.{ℕ_discrete}
use native.Mathlib.Omega.{arith}
use Rattle.base_prelude.specs.Choice.{if_lt, if_eq, if_true}
use Rattle.base_prelude.specs.Fault.{none}
use Rattle.base_prelude.proofs.Choice.{either, either-eq, either_true, true-false, if_lt-yes}
use Rattle.base_limits.specs.declared.Width.{Width}
use Rattle.lang_kinds.specs.Nesting.{rows_of, kind_of_word}
use Rattle.lang_words.specs.Words.{least_operands, most_operands}
use Rattle.parse_lines.specs.Tokens.{kind_at, word_at, all_from}
use Rattle.parse_lines.specs.declared.Span.{Span}
use Rattle.parse_lines.proofs.Keys.{no_key}
use Rattle.parse_shapes.specs.Shapes.{is_name, operands_from, call_from, expression_from, operand_count, is_listed, count_fits, shape_fits}
use Rattle.parse_shapes.specs.Forms.{later_fits, statement_fits, ranged_form}
use Rattle.parse_shapes.proofs.Forms.{forms-say}
use Rattle.parse_rules.specs.Rules.{shape_rule, past_most, list_rule, substitute_key, token_key, tokens_least, tokens_rule}
use Rattle.parse_units.proofs.Bounds.{unit-order}
use Rattle.thm_outline.specs.Lined.{Line, MadeOf, whole, jump, test, Lined}
use Rattle.thm_outline.proofs.Words.{least, most, most-function, most-let, most-set, least-set, least-goto, most-call, most-return, most-test, least-test, Says, line-says, test-kind}

pub data Form (t : List ℕ) (kind i e : ℕ) : Type 0 where
  function : kind ≡ 1 → all_from t 3 4 (i + 1) e ≡ true → e ≤ i + 9 → Form t kind i e
  -- `end function`, `block`, `end block`
  early : kind < 5 → (kind ≡ 0 → ⊥) → (kind ≡ 1 → ⊥) → Form t kind i e
  -- `let` and `set` of a local
  naming : 5 ≤ kind → kind < 7 → is_name t (i + 1) ≡ true → expression_from t (i + 2) e ≡ true → e ≤ i + 12 → Form t kind i e
  address : kind ≡ 7 → (kind_at t (i + 1) ≡ 5) ⊎ ((kind_at t (i + 1) ≡ 6) ⊎ (kind_at t (i + 1) ≡ 8)) → expression_from t (i + 2) e ≡ true → e ≤ i + 12
      → Form t kind i e
  -- `set-byte` and `set-word`
  setting : 8 ≤ kind → kind < 10 → operands_from t (i + 1) e ≡ true → e - (i + 1) ≡ 3 → Form t kind i e
  going : kind ≡ 10 → is_name t (i + 1) ≡ true → i + 1 < e → Form t kind i e
  calling : 11 ≤ kind → kind < 13 → call_from t (i + 1) e ≡ true → e ≤ i + 10 → Form t kind i e
  -- a bare `return`
  returning : kind ≡ 13 → e ≤ i + 1 → Form t kind i e
  giving : kind ≡ 13 → i + 1 < e → expression_from t (i + 1) e ≡ true → e ≤ i + 11 → Form t kind i e
  testing : 14 ≤ kind → kind < 20 → operands_from t (i + 1) e ≡ true → e - (i + 1) ≡ 2 → Form t kind i e
  -- `else`, the jump of an `else if..` line, `end if`
  late : 20 ≤ kind → kind < 23 → Form t kind i e

-- ---- what no fault says

both_if : (a b : Bool) → if_true a b false ≡ true → (a ≡ true) × (b ≡ true)
both_if a b = either_true (λ (x : Bool). x ≡ true → (a ≡ true) × (b ≡ true)) a b false (λ p q. (p, q)) (λ _ q. true-false (sym q))

module _ (w : Width) (t : List ℕ) (n : ℕ) (u : Span) (k : ℕ) (low : k < 25) (some : k ≡ 0 → ⊥) where
  shape-fits : none ≤ shape_rule w t n u k → shape_fits w t u k ≡ true
  unfolding shape_rule
  shape-fits =
      either-eq (λ (x : ℕ). none ≤ x → shape_fits w t u k ≡ true) k 0 _ _ (λ e. absurd (some e)) (λ _.
      either-eq (λ (x : ℕ). none ≤ x → shape_fits w t u k ≡ true) k 34 _ _ (λ e. let z : ⊥ = omega arith in absurd z) (λ _.
      either-eq (λ (x : ℕ). none ≤ x → shape_fits w t u k ≡ true) k 35 _ _ (λ e. let z : ⊥ = omega arith in absurd z) (λ _.
      either_true (λ (x : ℕ). none ≤ x → shape_fits w t u k ≡ true) (shape_fits w t u k) _ _ (λ q _. q) (λ _ h. no_key t n u.word 7 (omega arith) h))))

  shape-count : shape_fits w t u k ≡ true → count_fits t u k ≡ true
  unfolding shape_fits
  shape-count h = (both_if _ _ h).0

  shape-form : shape_fits w t u k ≡ true → statement_fits t u k ≡ true
  unfolding shape_fits ranged_form
  shape-form h = sym (if_lt-yes _ _ low) ∙ sym (forms-say t u k) ∙ (both_if _ _ (both_if _ _ h).1).0

module _ (t : List ℕ) (n : ℕ) (u : Span) (k : ℕ) where
  count-least : count_fits t u k ≡ true → least_operands (word_at t u.word) ≤ operand_count u
  unfolding count_fits
  count-least =
      either (λ (x : Bool). x ≡ true → least_operands (word_at t u.word) ≤ operand_count u) (operand_count u) (least_operands (word_at t u.word)) _ _
      (λ _ q. true-false (sym q)) (λ h _. h)

  abbrev Few : Type 0
  Few = operand_count u ≤ most_operands (word_at t u.word)

  count_most : is_listed k ≡ false → count_fits t u k ≡ true → Few
  unfolding count_fits
  count_most f =
      either (λ (x : Bool). x ≡ true → Few) (operand_count u) (least_operands (word_at t u.word)) _ _ (λ _ q. true-false (sym q)) (λ _.
      either_true (λ (x : Bool). x ≡ true → Few) (is_listed k) _ _ (λ p _. true-false (sym p ∙ f)) (λ _.
      either (λ (x : Bool). x ≡ true → Few) (most_operands (word_at t u.word)) (operand_count u) _ _ (λ _ q. true-false (sym q)) (λ h _. h)))

  list-most : is_listed k ≡ true → none ≤ list_rule t n u k → Few
  unfolding list_rule past_most
  list-most f =
      either_true (λ (x : ℕ). none ≤ x → Few) (is_listed k) _ _
      (λ _. either (λ (x : ℕ). none ≤ x → Few) (u.word + 1 + most_operands (word_at t u.word)) u.next _ _
      (λ _ h. no_key t n _ 14 (omega arith) h) (λ h _. omega arith))
      (λ p _. true-false (sym f ∙ p))

  -- by the shape, or for lists by the limit
  few-operands : count_fits t u k ≡ true → none ≤ list_rule t n u k → Few
  few-operands a b = by (is_listed k) refl
    where
      by : (x : Bool) → is_listed k ≡ x → Few
      by true p = list-most p b
      by false p = count_most p a

-- ---- a whole line

module _ (t : List ℕ) (u : Span) (k : ℕ) (o : u.word < u.next) (low : k < 23) (some : k ≡ 0 → ⊥) (h : least k ≤ operand_count u) (g : operand_count u ≤ most k)
    (a : k ≡ 7 → (kind_at t (u.word + 1) ≡ 5) ⊎ ((kind_at t (u.word + 1) ≡ 6) ⊎ (kind_at t (u.word + 1) ≡ 8))) where
  abbrev Whole : Bool → Type 0
  Whole b = b ≡ true → Form t k u.word u.next

  return-form : k ≡ 13 → Whole (if_eq (operand_count u) 0 true (expression_from t (u.word + 1) u.next))
  return-form e =
      either-eq Whole (operand_count u) 0 _ _ (λ z _. returning e (omega arith)) (λ z q. giving e (omega arith) q (omega (arith, most-return k e)))

  later-form : 10 ≤ k → Whole (later_fits t u k)
  unfolding later_fits
  later-form l =
      either-eq Whole k 10 _ _ (λ e q. going e q (omega (arith, least-goto k e))) (λ b.
      either Whole k 13 _ _ (λ c q. calling (omega arith) c q (omega (arith, most-call k l c))) (λ c.
      either-eq Whole k 13 _ _ return-form (λ d.
      either Whole k 20 _ _ (λ f q. let p : 14 ≤ k = omega arith in testing p f q (omega (arith, most-test k p f, least-test k p f))) (λ f.
      either-eq Whole k 21 _ _ (λ _ _. late f low) (λ _ _. late f low)))))

  statement-form : Whole (statement_fits t u k)
  unfolding statement_fits
  statement-form =
      either-eq Whole k 1 _ _ (λ e q. function e q (omega (arith, most-function k e))) (λ b.
      either Whole k 5 _ _ (λ c _. early c some b) (λ c.
      either Whole k 7 _ _ (λ d q. let p = both_if _ _ q in naming c d p.0 p.1 (omega (arith, most-let k c (omega arith)))) (λ d.
      either-eq Whole k 7 _ _ (λ e q. address e (a e) q (omega (arith, most-let k c (omega arith)))) (λ e.
      either Whole k 10 _ _ (λ f q. let p : 8 ≤ k = omega arith in setting p f q (omega (arith, most-set k p f, least-set k p f))) (λ f.
      later-form f)))))

-- ---- an `else if..` line

test-form : (t : List ℕ) (u : Span) (k : ℕ) → k ≡ 21 → statement_fits t u k ≡ true → (operand_count u ≡ 3) × (operands_from t (u.word + 2) u.next ≡ true)
unfolding statement_fits later_fits if_eq if_lt
test-form t u k e h =
    let z : if_eq (operand_count u) 3 (operands_from t (u.word + 2) u.next) false ≡ true = subst (λ (i : ℕ). statement_fits t u i ≡ true) e h in
    either-eq (λ (b : Bool). b ≡ true → (operand_count u ≡ 3) × (operands_from t (u.word + 2) u.next ≡ true)) (operand_count u) 3 _ _ (λ p q. (p, q)) (λ _ q. true-false (sym q)) z

-- ---- rows

row_low : (k : ℕ) → rows_of k ≡ 1 → (k < 25) × (k ≡ 0 → ⊥)
unfolding rows_of
row_low k =
    either-eq (λ (m : ℕ). m ≡ 1 → (k < 25) × (k ≡ 0 → ⊥)) k 0 _ _ (λ _ q. let z : ⊥ = omega arith in absurd z) (λ f.
    either-eq (λ (m : ℕ). m ≡ 1 → (k < 25) × (k ≡ 0 → ⊥)) k 21 _ _ (λ _ q. let z : ⊥ = omega arith in absurd z) (λ _.
    either (λ (m : ℕ). m ≡ 1 → (k < 25) × (k ≡ 0 → ⊥)) k 25 _ _ (λ l _. (l, f)) (λ _ q. let z : ⊥ = omega arith in absurd z)))

module _ (w : Width) (t : List ℕ) (n : ℕ) (u : Span) (k : ℕ) (h : Line w t n u k) (low : k < 25) (some : k ≡ 0 → ⊥) where
  line-order : u.word < u.next
  line-order = subst (λ (v : Span). v.word < v.next) (sym h.unit) (unit-order t h.at).2

  line-fits : shape_fits w t u k ≡ true
  line-fits = shape-fits w t n u k low some h.shape

  line-statement : statement_fits t u k ≡ true
  line-statement = shape-form w t n u k low some line-fits

  line-words : Says (word_at t u.word) (kind_at t (u.word + 1)) (word_at t (u.word + 1)) k
  line-words =
      subst (Says (word_at t u.word) (kind_at t (u.word + 1)) (word_at t (u.word + 1))) (sym h.kind)
      (line-says t u.word (subst (λ (i : ℕ). i < 25) h.kind low) (λ e. some (h.kind ∙ e)))

  line-form : Form t k u.word u.next
  line-form =
      let c : count_fits t u k ≡ true = shape-count w t n u k low some line-fits in
      let s : Says (word_at t u.word) (kind_at t (u.word + 1)) (word_at t (u.word + 1)) k = line-words in
      statement-form t u k line-order s.low some
      (omega (arith, s.enough, count-least t n u k c)) (omega (arith, s.few, few-operands t n u k c h.list)) s.address line-statement

module _ (w : Width) (t : List ℕ) (n : ℕ) (u : Span) (k : ℕ) (h : Line w t n u k) (e : k ≡ 21) where
  low-kind : k < 25
  low-kind = omega arith

  some-kind : k ≡ 0 → ⊥
  some-kind z = omega arith

  -- its second row is one of the six tests
  pub test-kinds : (14 ≤ kind_of_word (word_at t (u.word + 1))) × (kind_of_word (word_at t (u.word + 1)) < 20)
  test-kinds =
      let s = (line-words w t n u k h low-kind some-kind).test e in
      let q : kind_of_word (word_at t (u.word + 1)) ≡ word_at t (u.word + 1) - 13 = test-kind (word_at t (u.word + 1)) s.0 s.1 in
      (omega (arith, s.0), omega (arith, s.1))

  test_shape : (operand_count u ≡ 3) × (operands_from t (u.word + 2) u.next ≡ true)
  test_shape = test-form t u k e (line-statement w t n u k h low-kind some-kind)

  line-test : Form t (kind_of_word (word_at t (u.word + 1))) (u.word + 1) u.next
  line-test =
      let r : u.word + 2 ≡ u.word + 1 + 1 = omega arith in
      testing test-kinds.0 test-kinds.1 (subst (λ (j : ℕ). operands_from t j u.next ≡ true) r test_shape.1) (omega (arith, test_shape.0))

  test-order : u.word + 1 < u.next
  test-order = omega (arith, test_shape.0)

-- the form of a row
pub row-form : (w : Width) (t : List ℕ) (n kind i e operands : ℕ) → Lined w t n kind i e operands → Form t kind i e
row-form w t n kind i e operands h = by h.made
  where
    by : MadeOf t h.span h.is kind i e operands → Form t kind i e
    by (whole a b c d f) = let r = row_low h.is a in rw (b, c, d) (line-form w t n h.span h.is h.line r.0 r.1)
    by (jump a b c d f) = late (omega arith) (omega arith)
    by (test a b c d f) = rw (b, c, d) (line-test w t n h.span h.is h.line a)

-- ---- substitutes

-- a token that is no unknown substitute
abbrev pub Known : List ℕ → ℕ → Type 0
Known t j = (kind_at t j ≡ 4) ⊎ (kind_at t j ≡ 6) → (word_at t j ≡ 1) ⊎ (word_at t j ≡ 2)

substitute-known : (t : List ℕ) (n j : ℕ) → none ≤ substitute_key t n j → (word_at t j ≡ 1) ⊎ (word_at t j ≡ 2)
unfolding substitute_key
substitute-known t n j =
    either-eq (λ (x : ℕ). none ≤ x → (word_at t j ≡ 1) ⊎ (word_at t j ≡ 2)) (word_at t j) 1 _ _ (λ e _. inl e) (λ _.
    either-eq (λ (x : ℕ). none ≤ x → (word_at t j ≡ 1) ⊎ (word_at t j ≡ 2)) (word_at t j) 2 _ _ (λ e _. inr e) (λ _.
    either-eq (λ (x : ℕ). none ≤ x → (word_at t j ≡ 1) ⊎ (word_at t j ≡ 2)) (word_at t j) 3 _ _
    (λ _ h. no_key t n j 9 (omega arith) h) (λ _ h. no_key t n j 7 (omega arith) h)))

token-known : (t : List ℕ) (n own j : ℕ) → none ≤ token_key t n own j → Known t j
unfolding token_key
token-known t n own j =
    either-eq (λ (x : ℕ). none ≤ x → Known t j) (kind_at t j) 3 _ _ (λ e _. neither 3 e (λ z. omega arith) (λ z. omega arith)) (λ _.
    either-eq (λ (x : ℕ). none ≤ x → Known t j) (kind_at t j) 5 _ _ (λ e _. neither 5 e (λ z. omega arith) (λ z. omega arith)) (λ _.
    either-eq (λ (x : ℕ). none ≤ x → Known t j) (kind_at t j) 4 _ _ (λ _ h _. substitute-known t n j h) (λ f.
    either-eq (λ (x : ℕ). none ≤ x → Known t j) (kind_at t j) 6 _ _ (λ _ h _. substitute-known t n j h) (λ g _. by f g))))
  where
    by : (kind_at t j ≡ 4 → ⊥) → (kind_at t j ≡ 6 → ⊥) → Known t j
    by f g (inl e) = absurd (f e)
    by f g (inr e) = absurd (g e)

    neither : (v : ℕ) → kind_at t j ≡ v → (v ≡ 4 → ⊥) → (v ≡ 6 → ⊥) → Known t j
    neither v e f g (inl d) = absurd (f (sym e ∙ d))
    neither v e f g (inr d) = absurd (g (sym e ∙ d))

least_known : (left : ℕ) (t : List ℕ) (n own i : ℕ) → none ≤ tokens_least left t n own i → (j : ℕ) → i ≤ j → j < i + left → Known t j
unfolding tokens_least
least_known zero t n own i h j a b = let z : ⊥ = omega arith in absurd z
least_known (suc left) t n own i h j a b =
    elim (ℕ_discrete i j) [
      | yes e ↦ subst (Known t) e (token-known t n own i (omega arith))
      | no e ↦ least_known left t n own (i + 1) (omega arith) j (omega arith) (omega arith)
    ]

line_known : (w : Width) (t : List ℕ) (n : ℕ) (u : Span) (k : ℕ) → Line w t n u k → (j : ℕ) → u.word < j → j < u.next → Known t j
unfolding tokens_rule
line_known w t n u k h j a b = least_known (u.next - (u.word + 1)) t n _ (u.word + 1) h.tokens j (omega arith) (omega arith)

-- behind the magic word
pub row-known : (w : Width) (t : List ℕ) (n kind i e operands : ℕ) → Lined w t n kind i e operands → (j : ℕ) → i < j → j < e → Known t j
row-known w t n kind i e operands h j a b = by h.made
  where
    by : MadeOf t h.span h.is kind i e operands → Known t j
    by (whole p q c d f) = line_known w t n h.span h.is h.line j (omega arith) (omega arith)
    by (jump p q c d f) = let z : ⊥ = omega arith in absurd z
    by (test p q c d f) = line_known w t n h.span h.is h.line j (omega arith) (omega arith)

-- ---- the ends of a row

-- its magic word stands before its end
pub row-order : (w : Width) (t : List ℕ) (n kind i e operands : ℕ) → Lined w t n kind i e operands → i < e
row-order w t n kind i e operands h = by h.made
  where
    by : MadeOf t h.span h.is kind i e operands → i < e
    by (whole a b c d f) = let r = row_low h.is a in omega (arith, line-order w t n h.span h.is h.line r.0 r.1)
    by (jump a b c d f) = omega arith
    by (test a b c d f) = omega (arith, test-order w t n h.span h.is h.line a)

-- of a function all tokens behind the magic word are operands
pub function-count : (w : Width) (t : List ℕ) (n kind i e operands : ℕ) → Lined w t n kind i e operands → kind ≡ 1 → operands ≡ e - (i + 1)
function-count w t n kind i e operands h one = by h.made
  where
    by : MadeOf t h.span h.is kind i e operands → operands ≡ e - (i + 1)
    by (whole a b c d f) = omega arith
    by (jump a b c d f) = let z : ⊥ = omega arith in absurd z
    by (test a b c d f) = let z : ⊥ = omega (arith, (test-kinds w t n h.span h.is h.line a).0) in absurd z
