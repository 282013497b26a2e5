-- The words read back.
-- Assumes nothing.
use mathlib.Core.Path.{◌≡◌, refl, sym, ◌∙◌, ap}
use mathlib.Core.List.{List}
use Prim.Native.Nat.{ℕ, zero, suc, ◌≤◌, ◌<◌}
use native.Mathlib.Decide.{dec_lt, ℕ_discrete}
use native.Mathlib.Nat.{not-suc-le-zero, mod-lt}
use native.Mathlib.Omega.{arith}
use lib.ListN.{length, get_or, set, length-set, length-replicate, get_or-replicate, get_or-eq_default}
use lib.Seq.{get_or-set_same, get_or-set_other}
use Rattle.base_prelude.specs.Lists.{zeros}
use Rattle.prog_tables.specs.Statement.{Row}
use Rattle.res_frame_words.specs.Framing.{frame_value, word_of, words_in, words_of}

length-words-in : (w : List ℕ) (f : ℕ → Row) (c n : ℕ) → length (words_in w f c n) ≡ length w
unfolding words_in
length-words-in w f c zero = refl
length-words-in w f c (suc n) = length-set (words_in w f c n) n (word_of f c n) ∙ length-words-in w f c n

length-zeros : (n : ℕ) → length (zeros n) ≡ n
length-zeros n = length-replicate {A = ℕ} n 0

pub length-words : (f : ℕ → Row) (c : ℕ) → length (words_of f c) ≡ 1024
unfolding words_of
length-words f c = length-words-in (zeros 1024) f c c ∙ length-zeros 1024

in-at : (w : List ℕ) (f : ℕ → Row) (c m n : ℕ) → m ≤ length w → n < m → get_or (words_in w f c m) n 0 ≡ word_of f c n
unfolding words_in
in-at w f c zero n h l = absurd (not-suc-le-zero l)
in-at w f c (suc m) n h l =
    elim (ℕ_discrete n m) [
      | yes e ↦
          ap (λ (i : ℕ). get_or (set (words_in w f c m) m (word_of f c m)) i 0) e
          ∙ get_or-set_same (words_in w f c m) m (word_of f c m) 0 (omega (arith, length-words-in w f c m)) ∙ ap (word_of f c) (sym e)
      | no e ↦ get_or-set_other (words_in w f c m) m n (word_of f c m) 0 e ∙ in-at w f c m n (omega arith) (omega arith)
    ]

in-behind : (w : List ℕ) (f : ℕ → Row) (c m n : ℕ) → m ≤ n → get_or (words_in w f c m) n 0 ≡ get_or w n 0
unfolding words_in
in-behind w f c zero n h = refl
in-behind w f c (suc m) n h = get_or-set_other (words_in w f c m) m n (word_of f c m) 0 (λ e. omega arith) ∙ in-behind w f c m n (omega arith)

zero_word : (n i : ℕ) → get_or (zeros n) i 0 ≡ 0
zero_word n i =
    elim (dec_lt i n) [
      | yes h ↦ get_or-replicate n i 0 0 h
      | no h ↦ get_or-eq_default (zeros n) 0 (omega (arith, length-zeros n))
    ]

module _ (f : ℕ → Row) (c n : ℕ) where
  -- the word of row n
  pub word_at : c ≤ 1024 → n < c → get_or (words_of f c) n 0 ≡ word_of f c n
  unfolding words_of
  word_at h l = in-at (zeros 1024) f c c n (omega (arith, length-zeros 1024)) l

  -- behind the rows
  pub word-behind : c ≤ n → get_or (words_of f c) n 0 ≡ 0
  unfolding words_of
  word-behind h = in-behind (zeros 1024) f c c n h ∙ zero_word 1024 n

  pub word_small : word_of f c n < 4294967296
  unfolding word_of
  word_small = mod-lt (frame_value f c n) (omega arith)
