-- What the kind of a line says of its first two tokens.
-- Assumes nothing.
use mathlib.Core.Path.{◌≡◌, refl, sym, ◌∙◌, ap, subst}
use mathlib.Core.Bool.{Bool, true, not}
use mathlib.Core.List.{List}
use mathlib.Core.Logic.{◌⊎◌, inl, inr}
use Prim.Native.Nat.{ℕ, suc, ◌+◌, ◌-◌, ◌≤◌, ◌<◌}
use native.Mathlib.Decide.{dec_lt}
use native.Mathlib.Omega.{arith}
use lib.Dec.{eqb, ltb}
use borrow.Author.Tests.{eqb-true, ltb-true, eq-eqb, lt-ltb}
use Rattle.base_prelude.specs.Choice.{if_lt, if_eq}
use Rattle.base_prelude.proofs.Choice.{either, either-eq, true-false, if_lt-yes, if_lt-no, if_eq-yes, if_eq-no}
use Rattle.lang_kinds.specs.Nesting.{kind_of_word}
use Rattle.lang_kinds.proofs.Cases.{kind-none}
use Rattle.lang_words.specs.Words.{words, first_of, is_number, entry_of, least_operands, most_operands}
use Rattle.parse_lines.specs.Tokens.{kind_at, word_at}
use Rattle.parse_lines.specs.Lines.{section_kind, end_kind, test_kind, else_kind, set_kind, symbol_kind, other_kind, line_kind}
use Rattle.prog_tables.specs.Tests.{both, given, all_below}
use Rattle.prog_tables.proofs.Each.{below_at, both_left, both_right, given-then}

-- operand tokens of the lines of a kind, where the shape of the line asks for it
abbrev pub least : ℕ → ℕ
least k = if_lt k 8 0 (if_lt k 10 3 (if_eq k 10 1 (if_lt k 14 0 (if_lt k 20 2 0))))

abbrev pub most : ℕ → ℕ
most k = if_eq k 1 8 (if_lt k 5 65 (if_lt k 8 11 (if_lt k 10 3 (if_lt k 13 9 (if_eq k 13 10 (if_lt k 20 2 65))))))

module _ (k : ℕ) where
  pub most-function : k ≡ 1 → most k ≡ 8
  most-function e = if_eq-yes _ _ e

  module _ (h : 5 ≤ k) where
    most-late : most k ≡ if_lt k 8 11 (if_lt k 10 3 (if_lt k 13 9 (if_eq k 13 10 (if_lt k 20 2 65))))
    most-late = if_eq-no _ _ (λ e. let z : ⊥ = omega arith in z) ∙ if_lt-no _ _ h

    pub most-let : k < 8 → most k ≡ 11
    most-let g = most-late ∙ if_lt-yes _ _ g

  module _ (h : 8 ≤ k) where
    most-later : most k ≡ if_lt k 10 3 (if_lt k 13 9 (if_eq k 13 10 (if_lt k 20 2 65)))
    most-later = most-late (omega arith) ∙ if_lt-no _ _ h

    pub most-set : k < 10 → most k ≡ 3
    most-set g = most-later ∙ if_lt-yes _ _ g

    pub least-set : k < 10 → least k ≡ 3
    least-set g = if_lt-no _ _ h ∙ if_lt-yes _ _ g

  pub least-goto : k ≡ 10 → least k ≡ 1
  least-goto e = if_lt-no _ _ (omega arith) ∙ if_lt-no _ _ (omega arith) ∙ if_eq-yes _ _ e

  pub most-call : 10 ≤ k → k < 13 → most k ≡ 9
  most-call h g = most-later (omega arith) ∙ if_lt-no _ _ h ∙ if_lt-yes _ _ g

  pub most-return : k ≡ 13 → most k ≡ 10
  most-return e = most-later (omega arith) ∙ if_lt-no _ _ (omega arith) ∙ if_lt-no _ _ (omega arith) ∙ if_eq-yes _ _ e

  module _ (h : 14 ≤ k) (g : k < 20) where
    other : (j : ℕ) → j < 14 → k ≡ j → ⊥
    other j l e = omega arith

    pub most-test : most k ≡ 2
    most-test = most-later (omega arith) ∙ if_lt-no _ _ (omega arith) ∙ if_lt-no _ _ (omega arith) ∙ if_eq-no _ _ (other 13 (omega arith)) ∙ if_lt-yes _ _ g

    pub least-test : least k ≡ 2
    least-test =
        if_lt-no _ _ (omega arith) ∙ if_lt-no _ _ (omega arith) ∙ if_eq-no _ _ (other 10 (omega arith)) ∙ if_lt-no _ _ h ∙ if_lt-yes _ _ g

-- what the kind k of a line says of its magic word w, and of the kind and the word of the token behind it
pub record Says (w kind second k : ℕ) : Type 0 where
  pub few : most_operands w ≤ most k
  pub enough : least k ≤ least_operands w
  pub low : k < 23
  pub address : k ≡ 7 → (kind ≡ 5) ⊎ ((kind ≡ 6) ⊎ (kind ≡ 8))
  pub test : k ≡ 21 → (27 ≤ second) × (second < 33)

unfoldable fit_test : ℕ → ℕ → Bool
fit_test w k = both (ltb (most_operands w) (suc (most k))) (both (ltb (least k) (suc (least_operands w))) (ltb k 23))

module _ (w kind second k : ℕ) (h : fit_test w k ≡ true) where
  fit-most : most_operands w ≤ most k
  unfolding fit_test
  fit-most = let z : most_operands w < suc (most k) = ltb-true _ _ (both_left _ _ h) in omega arith

  fit-least : least k ≤ least_operands w
  unfolding fit_test
  fit-least = let z : least k < suc (least_operands w) = ltb-true _ _ (both_left _ _ (both_right (ltb (most_operands w) (suc (most k))) _ h)) in omega arith

  fit_low : k < 23
  unfolding fit_test
  fit_low = ltb-true _ _ (both_right (ltb (least k) (suc (least_operands w))) _ (both_right (ltb (most_operands w) (suc (most k))) _ h))

  says : (k ≡ 7 → (kind ≡ 5) ⊎ ((kind ≡ 6) ⊎ (kind ≡ 8))) → (k ≡ 21 → (27 ≤ second) × (second < 33)) → Says w kind second k
  says a b = record { few = fit-most; enough = fit-least; low = fit_low; address = a; test = b }

-- over all words that begin a line alone
unfoldable word_test : ℕ → Bool
word_test w = given (ltb (kind_of_word w) 25) (both (fit_test w (kind_of_word w)) (both (not (eqb (kind_of_word w) 7)) (not (eqb (kind_of_word w) 21))))

words-fit : all_below word_test 33 ≡ true
unfolding all_below word_test fit_test kind_of_word least_operands most_operands entry_of first_of is_number words if_eq if_lt
words-fit = refl

fits-end : both (fit_test 11 2) (both (fit_test 11 4) (fit_test 11 22)) ≡ true
unfolding fit_test least_operands most_operands entry_of first_of is_number words if_eq if_lt
fits-end = refl

fits-else : both (fit_test 12 20) (fit_test 12 21) ≡ true
unfolding fit_test least_operands most_operands entry_of first_of is_number words if_eq if_lt
fits-else = refl

fits-set : both (fit_test 18 6) (fit_test 18 7) ≡ true
unfolding fit_test least_operands most_operands entry_of first_of is_number words if_eq if_lt
fits-set = refl

differs : (a b : ℕ) → not (eqb a b) ≡ true → a ≡ b → ⊥
differs a b h e = true-false (sym h ∙ ap not (eq-eqb a b e))

module _ (w kind second : ℕ) where
  -- of a line that makes a row
  abbrev Row : ℕ → Type 0
  Row k = k < 25 → (k ≡ 0 → ⊥) → Says w kind second k

  word_test_lem : w < 33 → kind_of_word w < 25 → both (fit_test w (kind_of_word w)) (both (not (eqb (kind_of_word w) 7)) (not (eqb (kind_of_word w) 21))) ≡ true
  unfolding word_test
  word_test_lem h l = given-then _ _ (below_at word_test 33 w words-fit h) (lt-ltb _ _ l)

  word-says : Row (kind_of_word w)
  word-says l z =
      elim (dec_lt w 33) [
        | yes h ↦
            let b : both (fit_test w (kind_of_word w)) (both (not (eqb (kind_of_word w) 7)) (not (eqb (kind_of_word w) 21))) ≡ true = word_test_lem h l in
            let d : both (not (eqb (kind_of_word w) 7)) (not (eqb (kind_of_word w) 21)) ≡ true = both_right (fit_test w (kind_of_word w)) _ b in
            says w kind second (kind_of_word w) (both_left _ _ b)
            (λ e. absurd (differs (kind_of_word w) 7 (both_left _ _ d) e))
            (λ e. absurd (differs (kind_of_word w) 21 (both_right (not (eqb (kind_of_word w) 7)) _ d) e))
        | no h ↦ let y : ⊥ = omega (arith, kind-none w (omega arith)) in absurd y
      ]

  past : (k : ℕ) → 25 ≤ k → Row k
  past k h l z = let y : ⊥ = omega arith in absurd y

  section-says : Row (section_kind second)
  unfolding section_kind
  section-says =
      either-eq Row second 52 _ _ (λ _. past 25 (omega arith)) (λ _.
      either-eq Row second 53 _ _ (λ _. past 26 (omega arith)) (λ _.
      either-eq Row second 54 _ _ (λ _. past 34 (omega arith)) (λ _. past 35 (omega arith))))

  plain : (v k : ℕ) → w ≡ v → fit_test v k ≡ true → not (eqb k 7) ≡ true → not (eqb k 21) ≡ true → Row k
  plain v k e h a b l z =
      says w kind second k (subst (λ (i : ℕ). fit_test i k ≡ true) (sym e) h) (λ q. absurd (differs k 7 a q)) (λ q. absurd (differs k 21 b q))

  end-says : w ≡ 11 → Row (end_kind second)
  unfolding end_kind
  end-says e =
      either-eq Row second 9 _ _ (λ _. plain 11 2 e (both_left _ _ fits-end) refl refl) (λ _.
      either-eq Row second 10 _ _ (λ _. plain 11 4 e (both_left _ _ (both_right (fit_test 11 2) _ fits-end)) refl refl) (λ _.
      either-eq Row second 13 _ _ (λ _. plain 11 22 e (both_right (fit_test 11 4) _ (both_right (fit_test 11 2) _ fits-end)) refl refl) (λ _.
      either-eq Row second 8 _ _ (λ _. past 33 (omega arith)) (λ _. past 35 (omega arith)))))

  test-says : w ≡ 12 → Row (test_kind second)
  unfolding test_kind
  test-says e =
      either Row second 27 _ _ (λ _. past 35 (omega arith)) (λ a.
      either Row second 33 _ _
      (λ b l z. says w kind second 21 (subst (λ (i : ℕ). fit_test i 21 ≡ true) (sym e) (both_right (fit_test 12 20) _ fits-else)) (λ q. let y : ⊥ = omega arith in absurd y) (λ _. (a, b)))
      (λ _. past 35 (omega arith)))

  else-says : w ≡ 12 → Row (else_kind kind second)
  unfolding else_kind
  else-says e =
      either Row kind 2 _ _ (λ _. plain 12 20 e (both_left _ _ fits-else) refl refl) (λ _.
      either-eq Row kind 3 _ _ (λ _. test-says e) (λ _. past 35 (omega arith)))

  set-address : w ≡ 18 → (kind ≡ 5) ⊎ ((kind ≡ 6) ⊎ (kind ≡ 8)) → Row 7
  set-address e a l z =
      says w kind second 7 (subst (λ (i : ℕ). fit_test i 7 ≡ true) (sym e) (both_right (fit_test 18 6) _ fits-set)) (λ _. a) (λ q. let y : ⊥ = omega arith in absurd y)

  set_says : w ≡ 18 → Row (set_kind kind)
  unfolding set_kind
  set_says e =
      either-eq Row kind 5 _ _ (λ q. set-address e (inl q)) (λ _.
      either-eq Row kind 6 _ _ (λ q. set-address e (inr (inl q))) (λ _.
      either-eq Row kind 8 _ _ (λ q. set-address e (inr (inr q))) (λ _. plain 18 6 e (both_left _ _ fits-set) refl refl)))

  symbol-says : Row (symbol_kind w kind second)
  unfolding symbol_kind
  symbol-says =
      either-eq Row w 1 _ _ (λ _. either-eq Row kind 3 _ _ (λ _. section-says) (λ _. past 35 (omega arith))) (λ _.
      either-eq Row w 11 _ _ (λ e. either-eq Row kind 3 _ _ (λ _. end-says e) (λ _. past 35 (omega arith))) (λ _.
      either-eq Row w 12 _ _ (λ e. else-says e) (λ _.
      either-eq Row w 18 _ _ (λ e. set_says e) (λ _. word-says))))

  other-says : (k : ℕ) → Row (other_kind k w)
  unfolding other_kind
  other-says k =
      either-eq Row k 0 _ _ (λ _ l z. absurd (z refl)) (λ _.
      either-eq Row k 4 _ _ (λ _. either-eq Row w 3 _ _ (λ _. past 34 (omega arith)) (λ _. past 35 (omega arith))) (λ _.
      either-eq Row k 6 _ _ (λ _. either-eq Row w 3 _ _ (λ _. past 34 (omega arith)) (λ _. past 35 (omega arith))) (λ _. past 35 (omega arith))))

-- a line that makes a row
pub line-says : (t : List ℕ) (i : ℕ) → line_kind t i < 25 → (line_kind t i ≡ 0 → ⊥) → Says (word_at t i) (kind_at t (i + 1)) (word_at t (i + 1)) (line_kind t i)
unfolding line_kind
line-says t i =
    either-eq (Row (word_at t i) (kind_at t (i + 1)) (word_at t (i + 1))) (kind_at t i) 3 _ _
    (λ _. symbol-says (word_at t i) (kind_at t (i + 1)) (word_at t (i + 1)))
    (λ _. other-says (word_at t i) (kind_at t (i + 1)) (word_at t (i + 1)) (kind_at t i))

-- the six tests
unfoldable six_test : ℕ → Bool
six_test w = given (ltb 26 w) (eqb (kind_of_word w) (w - 13))

six-are : all_below six_test 33 ≡ true
unfolding all_below six_test kind_of_word
six-are = refl

pub test-kind : (w : ℕ) → 27 ≤ w → w < 33 → kind_of_word w ≡ w - 13
unfolding six_test
test-kind w a b = eqb-true _ _ (given-then _ _ (below_at six_test 33 w six-are b) (lt-ltb 26 w a))
