-- What kinds lines have: a line that makes rows has a kind that docs/TABLES.md lists, and behind `else` on its line stands a test.
-- Assumes nothing.
use mathlib.Core.Path.{◌≡◌, refl}
use mathlib.Core.Bool.{Bool, true, not}
use mathlib.Core.List.{List, [], ◌∷◌}
use Prim.Native.Nat.{ℕ, ◌+◌, ◌≤◌, ◌<◌}
use native.Mathlib.Decide.{dec_lt}
use native.Mathlib.Omega.{arith}
use borrow.Author.Tests.{eqb-true, eq-eqb, lt-ltb}
use lib.Dec.{eqb, ltb}
use lib.ListN.{get_or, get_or-eq_default}
use Rattle.base_prelude.specs.Choice.{if_lt, if_eq, if_true}
use Rattle.base_prelude.proofs.Choice.{either, either-eq}
use Rattle.lang_kinds.specs.Nesting.{word_kinds, kind_of_word}
use Rattle.parse_lines.specs.Tokens.{kind_at, word_at}
use Rattle.parse_lines.specs.Lines.{section_kind, end_kind, test_kind, else_kind, set_kind, symbol_kind, other_kind, line_kind}
use Rattle.prog_tables.specs.Tests.{both, given, all, all_below}
use Rattle.prog_tables.specs.Statement.{is_test}
use Rattle.prog_tables.proofs.Each.{both_left, both_right, given-then, all-at, below_at}
use Rattle.prog_tables.proofs.Nested.{not-eq}

-- ---- words

word_facts : ℕ → ℕ → List Bool
word_facts w k =
    not (eqb k 23) ∷ not (eqb k 24) ∷ not (eqb k 21) ∷ given (ltb 26 w) (is_test k) ∷ given (eqb k 1) (eqb w 9) ∷ []

words-table : all_below (λ w. all (word_facts w (kind_of_word w))) 33 ≡ true
unfolding word_facts all_below all is_test kind_of_word if_eq if_lt if_true
words-table = refl

word-fact : (w j : ℕ) → w < 33 → j < 5 → get_or (word_facts w (kind_of_word w)) j true ≡ true
unfolding word_facts
word-fact w j h l = all-at (word_facts w (kind_of_word w)) j (below_at (λ w. all (word_facts w (kind_of_word w))) 33 w words-table h) l

word-past : (w : ℕ) → 33 ≤ w → kind_of_word w ≡ 35
unfolding kind_of_word
word-past w h = get_or-eq_default word_kinds 35 h

-- what a word alone decides
record WordKind (w k : ℕ) : Type 0 where
  listed : 23 ≤ k → 25 ≤ k
  no_jump : k ≡ 21 → ⊥
  function : k ≡ 1 → w ≡ 9

word-kind : (w : ℕ) → WordKind w (kind_of_word w)
unfolding word_facts
word-kind w =
    elim (dec_lt w 33) [
      | yes h ↦
          let a : (kind_of_word w ≡ 23 → ⊥) = not-eq (kind_of_word w) 23 (word-fact w 0 h (omega arith)) in
          let b : (kind_of_word w ≡ 24 → ⊥) = not-eq (kind_of_word w) 24 (word-fact w 1 h (omega arith)) in
          record {
            listed = λ l. omega arith;
            no_jump = not-eq (kind_of_word w) 21 (word-fact w 2 h (omega arith));
            function = λ e. eqb-true _ _ (given-then (eqb (kind_of_word w) 1) (eqb w 9) (word-fact w 4 h (omega arith)) (eq-eqb _ _ e));
          }
      | no h ↦
          let e : kind_of_word w ≡ 35 = word-past w (omega arith) in
          record { listed = λ l. omega arith; no_jump = λ q. omega arith; function = λ q. omega arith }
    ]

-- a test's word
word_test_lem : (w : ℕ) → 27 ≤ w → w < 33 → is_test (kind_of_word w) ≡ true
unfolding word_facts
word_test_lem w a h = given-then (ltb 26 w) (is_test (kind_of_word w)) (word-fact w 3 h (omega arith)) (lt-ltb 26 w a)

-- ---- lines

-- of a line whose first token has the word w, and the next one the word v
record Line (w v k : ℕ) : Type 0 where
  listed : 23 ≤ k → 25 ≤ k
  jump : k ≡ 21 → is_test (kind_of_word v) ≡ true
  function : k ≡ 1 → w ≡ 9

-- neither a function, nor a jump, nor a kind that no line has
abbrev is_plain : ℕ → Bool
is_plain k = both (both (not (eqb k 23)) (not (eqb k 24))) (both (not (eqb k 21)) (not (eqb k 1)))

module _ (w v : ℕ) where
  other : (k : ℕ) → is_plain k ≡ true → Line w v k
  other k h =
      let p : both (not (eqb k 23)) (not (eqb k 24)) ≡ true = both_left (both (not (eqb k 23)) (not (eqb k 24))) (both (not (eqb k 21)) (not (eqb k 1))) h in
      let q : both (not (eqb k 21)) (not (eqb k 1)) ≡ true = both_right (both (not (eqb k 23)) (not (eqb k 24))) (both (not (eqb k 21)) (not (eqb k 1))) h in
      let a : (k ≡ 23 → ⊥) = not-eq k 23 (both_left (not (eqb k 23)) (not (eqb k 24)) p) in
      let b : (k ≡ 24 → ⊥) = not-eq k 24 (both_right (not (eqb k 23)) (not (eqb k 24)) p) in
      record {
        listed = λ l. omega arith;
        jump = λ e. absurd (not-eq k 21 (both_left (not (eqb k 21)) (not (eqb k 1)) q) e);
        function = λ e. absurd (not-eq k 1 (both_right (not (eqb k 21)) (not (eqb k 1)) q) e);
      }

  section-line : (z : ℕ) → Line w v (section_kind z)
  unfolding section_kind
  section-line z =
      either-eq (Line w v) z 52 _ _ (λ _. other 25 refl) (λ _.
      either-eq (Line w v) z 53 _ _ (λ _. other 26 refl) (λ _.
      either-eq (Line w v) z 54 _ _ (λ _. other 34 refl)
      (λ _. other 35 refl)))

  end_line : (z : ℕ) → Line w v (end_kind z)
  unfolding end_kind
  end_line z =
      either-eq (Line w v) z 9 _ _ (λ _. other 2 refl) (λ _.
      either-eq (Line w v) z 10 _ _ (λ _. other 4 refl) (λ _.
      either-eq (Line w v) z 13 _ _ (λ _. other 22 refl) (λ _.
      either-eq (Line w v) z 8 _ _ (λ _. other 33 refl)
      (λ _. other 35 refl))))

  test-line : Line w v (test_kind v)
  unfolding test_kind
  test-line =
      either (Line w v) v 27 _ _ (λ _. other 35 refl) (λ a.
      either (Line w v) v 33 _ _ (λ b. record { listed = λ l. omega arith; jump = λ e. word_test_lem v a b; function = λ e. omega arith })
      (λ _. other 35 refl))

  else-line : (kind : ℕ) → Line w v (else_kind kind v)
  unfolding else_kind
  else-line kind =
      either (Line w v) kind 2 _ _ (λ _. other 20 refl) (λ _.
      either-eq (Line w v) kind 3 _ _ (λ _. test-line) (λ _. other 35 refl))

  set_line : (kind : ℕ) → Line w v (set_kind kind)
  unfolding set_kind
  set_line kind =
      either-eq (Line w v) kind 5 _ _ (λ _. other 7 refl) (λ _.
      either-eq (Line w v) kind 6 _ _ (λ _. other 7 refl) (λ _.
      either-eq (Line w v) kind 8 _ _ (λ _. other 7 refl)
      (λ _. other 6 refl)))

  symbol-line : (kind : ℕ) → Line w v (symbol_kind w kind v)
  unfolding symbol_kind
  symbol-line kind =
      either-eq (Line w v) w 1 _ _
      (λ _. either-eq (Line w v) kind 3 _ _ (λ _. section-line v) (λ _. other 35 refl)) (λ _.
      either-eq (Line w v) w 11 _ _
      (λ _. either-eq (Line w v) kind 3 _ _ (λ _. end_line v) (λ _. other 35 refl)) (λ _.
      either-eq (Line w v) w 12 _ _ (λ _. else-line kind) (λ _.
      either-eq (Line w v) w 18 _ _ (λ _. set_line kind)
      (λ _. let f = word-kind w in record { listed = f.listed; jump = λ e. absurd (f.no_jump e); function = f.function }))))

  other-line : (kind : ℕ) → Line w v (other_kind kind w)
  unfolding other_kind
  other-line kind =
      either-eq (Line w v) kind 0 _ _ (λ _. other 0 refl) (λ _.
      either-eq (Line w v) kind 4 _ _ (λ _. left) (λ _.
      either-eq (Line w v) kind 6 _ _ (λ _. left) (λ _. other 35 refl)))
    where
      left : Line w v (if_eq w 3 34 35)
      left =
          either-eq (Line w v) w 3 _ _ (λ _. other 34 refl)
          (λ _. other 35 refl)

line : (t : List ℕ) (i : ℕ) → Line (word_at t i) (word_at t (i + 1)) (line_kind t i)
unfolding line_kind
line t i =
    either-eq (Line (word_at t i) (word_at t (i + 1))) (kind_at t i) 3 _ _ (λ _. symbol-line (word_at t i) (word_at t (i + 1)) (kind_at t (i + 1)))
    (λ _. other-line (word_at t i) (word_at t (i + 1)) (kind_at t i))

module _ (t : List ℕ) (i : ℕ) where
  -- no line has the kinds 23 and 24
  pub line-listed : 23 ≤ line_kind t i → 25 ≤ line_kind t i
  line-listed = (line t i).listed

  -- "An `else if..` line is two statements: a jump to `end if`, then the test"
  pub line-jump : line_kind t i ≡ 21 → is_test (kind_of_word (word_at t (i + 1))) ≡ true
  line-jump = (line t i).jump

  pub line-function : line_kind t i ≡ 1 → word_at t i ≡ 9
  line-function = (line t i).function
