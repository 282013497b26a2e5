-- One law for each way through a function of this crate.
-- Assumes nothing.
use mathlib.Core.Path.{◌≡◌, refl, ◌∙◌, ap}
use mathlib.Core.Bool.{Bool, true, false}
use mathlib.Core.List.{List}
use Prim.Native.Nat.{ℕ, ◌+◌, ◌-◌, ◌≤◌, ◌<◌}
use native.Mathlib.Numerals.{add-one}
use native.Mathlib.Omega.{arith}
use lib.ListN.{length, set, length-set}
use Rattle.base_prelude.specs.Lists.{zeros, cleared_from}
use Rattle.base_prelude.proofs.Choice.{tests}
use Rattle.prog_tables.specs.Statement.{Row}
use Rattle.prog_tables.specs.Nesting.{has_target, target_of}
use Rattle.prog_tables.specs.Frames.{frame_size, block_word, let_word}
use Rattle.res_frame_words.specs.Framing.{frame_value, word_of, words_in, words_of}

module _ (f : ℕ → Row) (c n k v : ℕ) (p : k ≡ (f n).kind) where
  pub value-function : k ≡ 1 → v ≡ frame_size f c n → v ≡ frame_value f c n
  unfolding frame_value
  value-function e q = rw (← p) (search tests)

  pub value-block : k ≡ 3 → v ≡ block_word f c n → v ≡ frame_value f c n
  unfolding frame_value
  value-block e q = rw (← p) (search tests)

  pub value-end : (s : ℕ) → k ≡ 4 → s ≡ (f n).scope → v ≡ block_word f c s → v ≡ frame_value f c n
  unfolding frame_value
  value-end s e d q = rw (← p, ← d) (search tests)

  pub value-let : k ≡ 5 → v ≡ let_word f c n → v ≡ frame_value f c n
  unfolding frame_value
  value-let e q = rw (← p) (search tests)

  module _ (b : Bool) (a1 : k ≡ 1 → ⊥) (a3 : k ≡ 3 → ⊥) (a4 : k ≡ 4 → ⊥) (a5 : k ≡ 5 → ⊥) (d : b ≡ has_target k) where
    pub value-target : b ≡ true → v ≡ target_of f c n → v ≡ frame_value f c n
    unfolding frame_value
    value-target e q = rw (← p, ← d) (search tests)

    pub value_none : b ≡ false → 0 ≡ frame_value f c n
    unfolding frame_value
    value_none e = rw (← p, ← d) (search tests)

pub ruleset values = (value-function, value-block, value-end, value-let, value-target, value_none)

-- the loop of `put_words`
pub record Putting (w₀ : List ℕ) (f : ℕ → Row) (c : ℕ) (w : List ℕ) (n : ℕ) : Type 0 where
  pub long : length w ≡ 1024
  pub below : n ≤ c
  pub so_far : w ≡ words_in w₀ f c n

module _ (w₀ : List ℕ) (f : ℕ → Row) (c : ℕ) where
  pub putting-start : length w₀ ≡ 1024 → Putting w₀ f c w₀ 0
  unfolding words_in
  putting-start l = record { long = l; below = omega arith; so_far = refl }

  module _ (w : List ℕ) (n : ℕ) (h : Putting w₀ f c w n) where
    pub putting-room : n < c → c ≤ 1024 → n < length w
    putting-room l g = omega (arith, h.long)

    pub putting-more : (v : ℕ) → n < c → v ≡ word_of f c n → Putting w₀ f c (set w n v) (n + 1)
    unfolding words_in
    putting-more v l e =
        record {
          long = length-set w n v ∙ h.long;
          below = omega arith;
          so_far = rw (add-one n, e) (ap (λ (y : List ℕ). set y n (word_of f c n)) h.so_far);
        }

    pub putting-done : c ≤ n → w ≡ words_in w₀ f c c
    putting-done l = let e : n ≡ c = omega (arith, h.below) in h.so_far ∙ ap (words_in w₀ f c) e

pub ruleset putting = (putting-start, putting-more, putting-done)

pub words_are : (f : ℕ → Row) (c : ℕ) (w w' w'' : List ℕ) → length w ≡ 1024 → w' ≡ cleared_from w 0 → w'' ≡ words_in w' f c c → w'' ≡ words_of f c
unfolding words_of cleared_from
words_are f c w w' w'' l e q =
    let z : length w - 0 ≡ 1024 = omega arith in
    q ∙ ap (λ (y : List ℕ). words_in y f c c) (e ∙ ap zeros z)
