-- One law for each way through the functions on shapes.
-- Assumes nothing.
use mathlib.Core.Path.{◌≡◌, refl, sym, ◌∙◌, ap}
use mathlib.Core.Bool.{Bool, true, false}
use mathlib.Core.List.{List}
use Prim.Native.Nat.{ℕ, ◌+◌, ◌-◌, ◌^◌, ◌≤◌, ◌<◌}
use lib.Dec.{eqb, ltb}
use Rattle.base_prelude.specs.Choice.{pick, if_eq, if_true}
use Rattle.base_prelude.proofs.Choice.{tests, if_eq-yes, if_eq-no, if_true-yes, if_true-no, if_lt-yes, if_lt-no}
use Rattle.base_limits.specs.Width.{bits_of}
use Rattle.base_limits.specs.declared.Width.{Width}
use Rattle.base_limits.specs.declared.Width.TheVariants.{Bits32, Bits16}
use Rattle.lang_words.specs.Words.{least_operands, most_operands}
use Rattle.parse_lines.specs.Tokens.{token_word, all_from}
use Rattle.parse_shapes.specs.Shapes.{is_name, is_integer, is_string, operands_from, call_from, is_operator, operator_from, operand_at, symbol_from, expression_from, operand_count, is_listed, count_fits, form_fits, is_known, byte_fits, align_fits, range_fits, shape_fits}
use Rattle.parse_shapes.specs.Forms.{later_fits, statement_fits, other_fits, ranged_form}
use Rattle.parse_shapes.proofs.Forms.{form-by}
use Rattle.parse_lines.specs.declared.Span.{Span}

as-test : (b : Bool) → b ≡ pick b true false
as-test true = refl
as-test false = refl

module _ (t : List ℕ) (i k : ℕ) (p : k ≡ token_word t i 0) where
  pub name-is : eqb k 3 ≡ is_name t i
  unfolding is_name if_eq
  name-is = rw (← p) (as-test (eqb k 3))

  pub integer-plain : k ≡ 7 → true ≡ is_integer t i
  unfolding is_integer
  integer-plain e = rw (← p) (search tests)

  pub integer-substitute : (k ≡ 7 → ⊥) → k ≡ 4 → true ≡ is_integer t i
  unfolding is_integer
  integer-substitute e f = rw (← p) (search tests)

  pub integer-no : (k ≡ 7 → ⊥) → (k ≡ 4 → ⊥) → false ≡ is_integer t i
  unfolding is_integer
  integer-no e f = rw (← p) (search tests)

  pub string-is : eqb k 9 ≡ is_string t i
  unfolding is_string if_eq
  string-is = rw (← p) (as-test (eqb k 9))

  pub known-integer : k ≡ 7 → true ≡ is_known t i
  unfolding is_known
  known-integer e = rw (← p) (search tests)

  pub known-no : (k ≡ 7 → ⊥) → (k ≡ 4 → ⊥) → false ≡ is_known t i
  unfolding is_known
  known-no e f = rw (← p) (search tests)

  module _ (w : ℕ) (e : k ≡ 7 → ⊥) (f : k ≡ 4) (q : w ≡ token_word t i 5) where
    pub known-bits : w ≡ 1 → true ≡ is_known t i
    unfolding is_known
    known-bits g = rw (← p, ← q) (search tests)

    pub known_bytes : (w ≡ 1 → ⊥) → w ≡ 2 → true ≡ is_known t i
    unfolding is_known
    known_bytes g h = rw (← p, ← q) (search tests)

    pub known-other : (w ≡ 1 → ⊥) → (w ≡ 2 → ⊥) → false ≡ is_known t i
    unfolding is_known
    known-other g h = rw (← p, ← q) (search tests)

pub ruleset kinds-are =
    (name-is, integer-plain, integer-substitute, integer-no, string-is, known-integer, known-no, known-bits, known_bytes, known-other)

module _ (t : List ℕ) (i next : ℕ) (b : Bool) (p : b ≡ is_name t i) where
  pub call-named : (r : Bool) → b ≡ true → r ≡ operands_from t (i + 1) next → r ≡ call_from t i next
  unfolding call_from
  call-named r e q = rw (← p, ← q) (search tests)

  pub call-no : b ≡ false → false ≡ call_from t i next
  unfolding call_from
  call-no e = rw (← p) (search tests)

  pub expression-symbol : (r : Bool) → b ≡ true → r ≡ symbol_from t i next → r ≡ expression_from t i next
  unfolding expression_from
  expression-symbol r e q = rw (← p, ← q) (search tests)

  pub expression-operand : (r : Bool) → b ≡ false → r ≡ operand_at t i next → r ≡ expression_from t i next
  unfolding expression_from
  expression-operand r e q = rw (← p, ← q) (search tests)

module _ (t : List ℕ) (i next : ℕ) where
  pub operator-counted : (m w c : ℕ) (r : Bool) → m ≡ next - (i + 1) → w ≡ token_word t i 5 → c ≡ least_operands w → m ≡ c → r ≡ operands_from t (i + 1) next → r ≡ operator_from t i next
  unfolding operator_from
  operator-counted m w c r p q f e h = rw (← p, ← q, ← f, ← h) (search tests)

  pub operator-no : (m w c : ℕ) → m ≡ next - (i + 1) → w ≡ token_word t i 5 → c ≡ least_operands w → (m ≡ c → ⊥) → false ≡ operator_from t i next
  unfolding operator_from
  operator-no m w c p q f e = rw (← p, ← q, ← f) (search tests)

  pub operand-one : (r : Bool) → next ≡ i + 1 → r ≡ operands_from t i next → r ≡ operand_at t i next
  unfolding operand_at
  operand-one r e q = rw (← q) (search tests)

  pub operand-no : (next ≡ i + 1 → ⊥) → false ≡ operand_at t i next
  unfolding operand_at
  operand-no e = search tests

  module _ (w : ℕ) (r : Bool) (p : w ≡ token_word t i 5) where
    pub symbol-call : w ≡ 14 → r ≡ call_from t (i + 1) next → r ≡ symbol_from t i next
    unfolding symbol_from
    symbol-call e q = rw (← p, ← q) (search tests)

    module _ (b : Bool) (e : w ≡ 14 → ⊥) (f : b ≡ is_operator w) where
      pub symbol-operator : b ≡ true → r ≡ operator_from t i next → r ≡ symbol_from t i next
      unfolding symbol_from
      symbol-operator g q = rw (← p, ← f, ← q) (search tests)

      pub symbol-operand : b ≡ false → r ≡ operand_at t i next → r ≡ symbol_from t i next
      unfolding symbol_from
      symbol-operand g q = rw (← p, ← f, ← q) (search tests)

pub ruleset expressions =
    (call-named, call-no, expression-symbol, expression-operand, operator-counted, operator-no, operand-one, operand-no, symbol-call, symbol-operator, symbol-operand)

module _ (t : List ℕ) (u : Span) (k n w least : ℕ) (p : n ≡ operand_count u) (q : w ≡ token_word t u.word 5) (f : least ≡ least_operands w) where
  pub count-few : n < least → false ≡ count_fits t u k
  unfolding count_fits
  count-few h = rw (← p, ← q, ← f) (search tests)

  module _ (b : Bool) (h : least ≤ n) (g : b ≡ is_listed k) where
    pub count-listed : b ≡ true → true ≡ count_fits t u k
    unfolding count_fits
    count-listed e = rw (← p, ← q, ← f, ← g) (search tests)

    pub count-many : (most : ℕ) → b ≡ false → most ≡ most_operands w → most < n → false ≡ count_fits t u k
    unfolding count_fits
    count-many most e i j = rw (← p, ← q, ← f, ← g, ← i) (search tests)

    pub count-good : (most : ℕ) → b ≡ false → most ≡ most_operands w → n ≤ most → true ≡ count_fits t u k
    unfolding count_fits
    count-good most e i j = rw (← p, ← q, ← f, ← g, ← i) (search tests)

pub ruleset counts = (count-few, count-listed, count-many, count-good)

-- choices that stand in a contract
pub true-arm : (b c r d : Bool) → c ≡ b → c ≡ true → r ≡ d → r ≡ if_true b d false
true-arm b c r d p e q = q ∙ sym (if_true-yes d false (sym p ∙ e))

pub false-arm : (b c d : Bool) → c ≡ b → c ≡ false → false ≡ if_true b d false
false-arm b c d p e = sym (if_true-no d false (sym p ∙ e))

pub zero_arm : (m n : ℕ) (d : Bool) → n ≡ m → n ≡ 0 → true ≡ if_eq m 0 true d
zero_arm m n d p e = sym (if_eq-yes true d (sym p ∙ e))

pub some-arm : (m n : ℕ) (r d : Bool) → n ≡ m → (n ≡ 0 → ⊥) → r ≡ d → r ≡ if_eq m 0 true d
some-arm m n r d p e q = q ∙ sym (if_eq-no true d (λ z. e (p ∙ z)))

pub three-arm : (m n : ℕ) (r d : Bool) → n ≡ m → n ≡ 3 → r ≡ d → r ≡ if_eq m 3 d false
three-arm m n r d p e q = q ∙ sym (if_eq-yes d false (sym p ∙ e))

pub not-three-arm : (m n : ℕ) (d : Bool) → n ≡ m → (n ≡ 3 → ⊥) → false ≡ if_eq m 3 d false
not-three-arm m n d p e = sym (if_eq-no d false (λ z. e (p ∙ z)))

pub ruleset arms = (true-arm, false-arm, zero_arm, some-arm, three-arm, not-three-arm)

module _ (t : List ℕ) (u : Span) (k : ℕ) (r : Bool) where
  pub later-goto : k ≡ 10 → r ≡ is_name t (u.word + 1) → r ≡ later_fits t u k
  unfolding later_fits
  later-goto e q = rw (← q) (search tests)

  pub later-call : (k ≡ 10 → ⊥) → k < 13 → r ≡ call_from t (u.word + 1) u.next → r ≡ later_fits t u k
  unfolding later_fits
  later-call e h q = rw (← q) (search tests)

  pub later-return : (k ≡ 10 → ⊥) → 13 ≤ k → k ≡ 13 → r ≡ if_eq (operand_count u) 0 true (expression_from t (u.word + 1) u.next) → r ≡ later_fits t u k
  unfolding later_fits
  later-return e h f q = rw (← q) (search tests)

  pub later-test : (k ≡ 10 → ⊥) → 13 ≤ k → (k ≡ 13 → ⊥) → k < 20 → r ≡ operands_from t (u.word + 1) u.next → r ≡ later_fits t u k
  unfolding later_fits
  later-test e h f g q = rw (← q) (search tests)

  pub later-else-if : (k ≡ 10 → ⊥) → 13 ≤ k → (k ≡ 13 → ⊥) → 20 ≤ k → k ≡ 21 → r ≡ if_eq (operand_count u) 3 (operands_from t (u.word + 2) u.next) false → r ≡ later_fits t u k
  unfolding later_fits
  later-else-if e h f g i q = rw (← q) (search tests)

  pub fits-function : k ≡ 1 → r ≡ all_from t 3 4 (u.word + 1) u.next → r ≡ statement_fits t u k
  unfolding statement_fits
  fits-function e q = rw (← q) (search tests)

  pub fits-let : (k ≡ 1 → ⊥) → 5 ≤ k → k < 7 → r ≡ if_true (is_name t (u.word + 1)) (expression_from t (u.word + 2) u.next) false → r ≡ statement_fits t u k
  unfolding statement_fits
  fits-let e h g q = rw (← q) (search tests)

  pub fits-set-at : (k ≡ 1 → ⊥) → 5 ≤ k → 7 ≤ k → k ≡ 7 → r ≡ expression_from t (u.word + 2) u.next → r ≡ statement_fits t u k
  unfolding statement_fits
  fits-set-at e h g f q = rw (← q) (search tests)

  pub fits-store : (k ≡ 1 → ⊥) → 5 ≤ k → 7 ≤ k → (k ≡ 7 → ⊥) → k < 10 → r ≡ operands_from t (u.word + 1) u.next → r ≡ statement_fits t u k
  unfolding statement_fits
  fits-store e h g f i q = rw (← q) (search tests)

  pub fits-later : (k ≡ 1 → ⊥) → 5 ≤ k → 7 ≤ k → (k ≡ 7 → ⊥) → 10 ≤ k → r ≡ later_fits t u k → r ≡ statement_fits t u k
  unfolding statement_fits
  fits-later e h g f i q = rw (← q) (search tests)

  pub other-export : k ≡ 27 → r ≡ is_name t (u.word + 1) → r ≡ other_fits t u k
  unfolding other_fits
  other-export e q = rw (← q) (search tests)

  pub other-align : (k ≡ 27 → ⊥) → k ≡ 28 → r ≡ if_eq (operand_count u) 0 true (is_integer t (u.word + 1)) → r ≡ other_fits t u k
  unfolding other_fits
  other-align e f q = rw (← q) (search tests)

  pub other_byte : (k ≡ 27 → ⊥) → (k ≡ 28 → ⊥) → k ≡ 29 → r ≡ is_integer t (u.word + 1) → r ≡ other_fits t u k
  unfolding other_fits
  other_byte e f g q = rw (← q) (search tests)

  pub other_word : (k ≡ 27 → ⊥) → (k ≡ 28 → ⊥) → (k ≡ 29 → ⊥) → k ≡ 30 → r ≡ is_integer t (u.word + 1) → r ≡ other_fits t u k
  unfolding other_fits
  other_word e f g h q = rw (← q) (search tests)

  pub other-string : (k ≡ 27 → ⊥) → (k ≡ 28 → ⊥) → (k ≡ 29 → ⊥) → (k ≡ 30 → ⊥) → k ≡ 31 → r ≡ is_string t (u.word + 1) → r ≡ other_fits t u k
  unfolding other_fits
  other-string e f g h i q = rw (← q) (search tests)

  pub other-import : (k ≡ 27 → ⊥) → (k ≡ 28 → ⊥) → (k ≡ 29 → ⊥) → (k ≡ 30 → ⊥) → (k ≡ 31 → ⊥) → k ≡ 36 → r ≡ is_name t (u.word + 1) → r ≡ other_fits t u k
  unfolding other_fits
  other-import e f g h i j q = rw (← q) (search tests depth 16)

  pub form-statement : k < 25 → r ≡ statement_fits t u k → r ≡ form_fits t u k
  unfolding ranged_form
  form-statement h q = form-by t u k r (q ∙ sym (if_lt-yes _ _ h))

  pub form-other : 25 ≤ k → r ≡ other_fits t u k → r ≡ form_fits t u k
  unfolding ranged_form
  form-other h q = form-by t u k r (q ∙ sym (if_lt-no _ _ h))

module _ (t : List ℕ) (u : Span) (k : ℕ) where
  pub later-none : (k ≡ 10 → ⊥) → 13 ≤ k → (k ≡ 13 → ⊥) → 20 ≤ k → (k ≡ 21 → ⊥) → ltb k 23 ≡ later_fits t u k
  unfolding later_fits
  later-none e h f g i = search tests

  pub fits-bare : (k ≡ 1 → ⊥) → k < 5 → true ≡ statement_fits t u k
  unfolding statement_fits
  fits-bare e h = search tests

  pub other_none : (k ≡ 27 → ⊥) → (k ≡ 28 → ⊥) → (k ≡ 29 → ⊥) → (k ≡ 30 → ⊥) → (k ≡ 31 → ⊥) → (k ≡ 36 → ⊥) → ltb k 34 ≡ other_fits t u k
  unfolding other_fits
  other_none e f g h i j = search tests depth 16

pub ruleset laters = (later-goto, later-call, later-return, later-test, later-else-if, later-none)

pub ruleset statements = (fits-function, fits-bare, fits-let, fits-set-at, fits-store, fits-later)

pub ruleset others = (other-export, other-align, other_byte, other_word, other-string, other-import, other_none)

pub ruleset forms = (form-statement, form-other)

module _ (w : Width) where
  pub lowest-32 : w ≡ Bits32 → 4294967168 ≡ 2 ^ bits_of w - 128
  lowest-32 e = ap (λ (x : Width). 2 ^ bits_of x - 128) (sym e)

  pub lowest-16 : w ≡ Bits16 → 65408 ≡ 2 ^ bits_of w - 128
  lowest-16 e = ap (λ (x : Width). 2 ^ bits_of x - 128) (sym e)

  pub byte_small : (v : ℕ) → v < 256 → true ≡ byte_fits w v
  unfolding byte_fits
  byte_small v h = search tests

  pub byte-far : (v l : ℕ) → 256 ≤ v → l ≡ 2 ^ bits_of w - 128 → v < l → false ≡ byte_fits w v
  unfolding byte_fits
  byte-far v l h p g = rw (← p) (search tests)

  pub byte-negative : (v l : ℕ) → 256 ≤ v → l ≡ 2 ^ bits_of w - 128 → l ≤ v → true ≡ byte_fits w v
  unfolding byte_fits
  byte-negative v l h p g = rw (← p) (search tests)

  module _ (t : List ℕ) (u : Span) (k : ℕ) (b : Bool) (p : b ≡ is_known t (u.word + 1)) where
    pub range_none : b ≡ false → true ≡ range_fits w t u k
    unfolding range_fits
    range_none e = rw (← p) (search tests)

    pub range-byte : (v : ℕ) (r : Bool) → b ≡ true → k ≡ 29 → v ≡ token_word t (u.word + 1) 3 → r ≡ byte_fits w v → r ≡ range_fits w t u k
    unfolding range_fits
    range-byte v r e f g q = rw (← p, ← g, ← q) (search tests)

    pub range_align : (v : ℕ) (r : Bool) → b ≡ true → (k ≡ 29 → ⊥) → k ≡ 28 → v ≡ token_word t (u.word + 1) 3 → r ≡ align_fits v → r ≡ range_fits w t u k
    unfolding range_fits
    range_align v r e f h g q = rw (← p, ← g, ← q) (search tests)

    pub range-any : b ≡ true → (k ≡ 29 → ⊥) → (k ≡ 28 → ⊥) → true ≡ range_fits w t u k
    unfolding range_fits
    range-any e f h = rw (← p) (search tests)

  module _ (t : List ℕ) (u : Span) (k : ℕ) (b : Bool) (p : b ≡ count_fits t u k) where
    pub shape-count : b ≡ false → false ≡ shape_fits w t u k
    unfolding shape_fits
    shape-count e = rw (← p) (search tests)

    module _ (c : Bool) (e : b ≡ true) (q : c ≡ form_fits t u k) where
      pub shape-form : c ≡ false → false ≡ shape_fits w t u k
      unfolding shape_fits
      shape-form f = rw (← p, ← q) (search tests)

      pub shape-range : (r : Bool) → c ≡ true → r ≡ range_fits w t u k → r ≡ shape_fits w t u k
      unfolding shape_fits
      shape-range r f g = rw (← p, ← q, ← g) (search tests)

pub ruleset ranges = (lowest-32, lowest-16, byte_small, byte-far, byte-negative, range_none, range-byte, range_align, range-any)

pub ruleset shapes = (shape-count, shape-form, shape-range)
