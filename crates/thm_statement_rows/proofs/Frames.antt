-- The frame words of rows with few parameters are small, so the table of words holds them as they are.
-- Assumes nothing.
use mathlib.Core.Path.{◌≡◌, refl, sym, ◌∙◌, ap, ap₂, subst}
use mathlib.Core.Bool.{Bool, true, false}
use mathlib.Core.List.{List}
use Prim.Native.Nat.{ℕ, zero, suc, ◌+◌, ◌*◌, ◌-◌, ◌%◌, ◌≤◌, ◌<◌, max}
use native.Mathlib.Nat.{mod-eq_of_lt, max-le}
use native.Mathlib.Decide.{ℕ_discrete}
use native.Mathlib.Omega.{arith}
use lib.Dec.{eqb, ltb, leb}
use lib.ListN.{length, get_or}
use Rattle.base_prelude.specs.Choice.{pick, if_eq, if_true}
use Rattle.base_prelude.proofs.Choice.{either-eq, either_true, if_eq-yes, if_eq-no, if_true-yes}
use Rattle.prog_tables.specs.Tests.{both, first_from, count_below, greatest_below}
use Rattle.prog_tables.specs.Statement.{Row, is_test}
use Rattle.prog_tables.specs.Nesting.{is_arm, is_end_if, next_arm, end_if_of, past_arm, target_of, has_target}
use Rattle.prog_tables.specs.Frames.{frame_depth, is_in, lets_before, block_need, need_of, frame_size, first_let, block_word, let_word, let_seen, locals_at}
use Rattle.res_frame_words.specs.Framing.{frame_value, word_of, words_of}
use Rattle.res_frame_words.proofs.Laws.{word_at}

count_low : (p : ℕ → Bool) (n : ℕ) → count_below p n ≤ n
unfolding count_below
count_low p zero = omega arith
count_low p (suc n) = by (p n) (count_low p n)
  where
    by : (b : Bool) → count_below p n ≤ n → pick b (suc (count_below p n)) (count_below p n) ≤ suc n
    by true h = omega arith
    by false h = omega arith

greatest-low : (q : ℕ → ℕ) (m n : ℕ) → ((i : ℕ) → q i ≤ m) → greatest_below q n ≤ m
unfolding greatest_below
greatest-low q m zero h = omega arith
greatest-low q m (suc n) h = let a = greatest-low q m n h in let b = h n in omega (arith, a, b)

first-high : (p : ℕ → Bool) (left i : ℕ) → first_from p left i ≤ i + left
unfolding first_from
first-high p zero i = omega arith
first-high p (suc left) i = by (p i) (first-high p left (suc i))
  where
    by : (b : Bool) → first_from p left (suc i) ≤ suc i + left → pick b i (first_from p left (suc i)) ≤ i + suc left
    by true h = omega arith
    by false h = omega arith

module _ (g : ℕ → Row) (c : ℕ) (hc : c ≤ 1024) (few : (i : ℕ) → (g i).b ≤ 8) where
  lets-low : (s n : ℕ) → n ≤ c → lets_before g s n ≤ 1024
  unfolding lets_before
  lets-low s n h = let a = count_low (is_in g 5 s) n in omega (arith, a)

  first-low : (fuel s : ℕ) → first_let g c fuel s ≤ 11 + fuel * 1025
  unfolding first_let
  first-low zero s = omega arith
  first-low (suc fuel) s =
      either-eq (λ (v : ℕ). v ≤ 11 + suc fuel * 1025) (g s).kind 3 _ _
      (λ _. let a = first-low fuel (g s).scope in let b = lets-low (g s).scope c (omega arith) in omega (arith, a, b))
      (λ _. let a = few s in omega (arith, a))

  block-low : (need : ℕ → ℕ) (m s i : ℕ) → need i ≤ m → block_need g s need i ≤ suc m
  unfolding block_need
  block-low need m s i h = either_true (λ (v : ℕ). v ≤ suc m) (is_in g 3 s i) _ _ (λ _. omega arith) (λ _. omega arith)

  need-low : (depth s : ℕ) → need_of g c depth s ≤ depth * 1025
  unfolding need_of
  need-low zero s = omega arith
  need-low (suc depth) s =
      let a = lets-low s c (omega arith) in
      let b = greatest-low (block_need g s (need_of g c depth)) (suc (depth * 1025)) c (λ i. block-low (need_of g c depth) (depth * 1025) s i (need-low depth i)) in
      omega (arith, a, b)

  size_low : (s : ℕ) → frame_size g c s < 4294967296
  unfolding frame_size
  size_low s = let a = few s in let b = need-low frame_depth s in omega (arith, a, b)

  block-word-low : (s : ℕ) → block_word g c s < 4294967296
  unfolding block_word
  block-word-low s = let a = first-low frame_depth (g s).scope in let b = lets-low (g s).scope c (omega arith) in omega (arith, a, b)

  let-word-low : (n : ℕ) → n ≤ c → let_word g c n < 4294967296
  unfolding let_word
  let-word-low n h = let a = first-low frame_depth (g n).scope in let b = lets-low (g n).scope n h in omega (arith, a, b)

  arm-high : (n : ℕ) → n < c → next_arm g c n ≤ 1024
  unfolding next_arm
  arm-high n h = let a = first-high (is_arm g (g n).up) (c - suc n) (suc n) in omega (arith, a)

  end-high : (n : ℕ) → n < c → end_if_of g c n < 4294967296
  unfolding end_if_of
  end-high n h = let a = first-high (is_end_if g (g n).up) (c - suc n) (suc n) in omega (arith, a)

  arm-past : (m : ℕ) → m ≤ 1024 → past_arm g m < 4294967296
  unfolding past_arm
  arm-past m h = either-eq (λ (v : ℕ). v < 4294967296) (g m).kind 22 _ _ (λ _. omega arith) (λ _. omega arith)

  target-low : (n : ℕ) → n < c → target_of g c n < 4294967296
  unfolding target_of
  target-low n h =
      either_true (λ (v : ℕ). v < 4294967296) (is_test (g n).kind) _ _ (λ _. arm-past (next_arm g c n) (arm-high n h)) (λ _. end-high n h)

  value_low : (n : ℕ) → n < c → frame_value g c n < 4294967296
  unfolding frame_value
  value_low n h =
      either-eq (λ (v : ℕ). v < 4294967296) (g n).kind 1 _ _ (λ _. size_low n) (λ _.
      either-eq (λ (v : ℕ). v < 4294967296) (g n).kind 3 _ _ (λ _. block-word-low n) (λ _.
      either-eq (λ (v : ℕ). v < 4294967296) (g n).kind 4 _ _ (λ _. block-word-low (g n).scope) (λ _.
      either-eq (λ (v : ℕ). v < 4294967296) (g n).kind 5 _ _ (λ _. let-word-low n (omega arith)) (λ _.
      either_true (λ (v : ℕ). v < 4294967296) (has_target (g n).kind) _ _ (λ _. target-low n h) (λ _. omega arith)))))

  -- the table of words has the value of each row
  pub word-is : (n : ℕ) → n < c → get_or (words_of g c) n 0 ≡ frame_value g c n
  unfolding word_of
  word-is n h = word_at g c n hc h ∙ mod-eq_of_lt (value_low n h)

  module _ (n : ℕ) (h : n < c) where
    pub word-function : (g n).kind ≡ 1 → get_or (words_of g c) n 0 ≡ frame_size g c n
    unfolding frame_value
    word-function e = word-is n h ∙ if_eq-yes _ _ e

    pub word-block : (g n).kind ≡ 3 → get_or (words_of g c) n 0 ≡ block_word g c n
    unfolding frame_value
    word-block e = word-is n h ∙ if_eq-no _ _ (λ q. absurd (omega arith)) ∙ if_eq-yes _ _ e

    pub word_end_lem : (g n).kind ≡ 4 → get_or (words_of g c) n 0 ≡ block_word g c (g n).scope
    unfolding frame_value
    word_end_lem e = word-is n h ∙ if_eq-no _ _ (λ q. absurd (omega arith)) ∙ if_eq-no _ _ (λ q. absurd (omega arith)) ∙ if_eq-yes _ _ e

    pub word-let : (g n).kind ≡ 5 → get_or (words_of g c) n 0 ≡ let_word g c n
    unfolding frame_value
    word-let e =
        word-is n h ∙ if_eq-no _ _ (λ q. absurd (omega arith)) ∙ if_eq-no _ _ (λ q. absurd (omega arith)) ∙ if_eq-no _ _ (λ q. absurd (omega arith)) ∙ if_eq-yes _ _ e

    pub word-target : has_target (g n).kind ≡ true → 14 ≤ (g n).kind → get_or (words_of g c) n 0 ≡ target_of g c n
    unfolding frame_value
    word-target e l =
        word-is n h ∙ if_eq-no _ _ (λ q. absurd (omega arith)) ∙ if_eq-no _ _ (λ q. absurd (omega arith)) ∙ if_eq-no _ _ (λ q. absurd (omega arith)) ∙ if_eq-no _ _ (λ q. absurd (omega arith))
        ∙ if_true-yes _ _ e

  pub locals-low : (n : ℕ) → n < c → locals_at g n < 4294967296
  unfolding locals_at
  locals-low n h = let a = few (g n).func in let b = count_low (let_seen g (g n).scope) n in omega (arith, a, b)
