-- The kind of a word, within the table and past it.
-- Assumes nothing.
use mathlib.Core.Path.{◌≡◌, sym}
use Prim.Native.Nat.{ℕ, ◌≤◌, ◌<◌}
use lib.ListN.{get_or, get_or-eq_default}
use Rattle.base_prelude.proofs.Bytes.{get_d-within}
use Rattle.lang_kinds.specs.Nesting.{word_kinds, kind_of_word}

pub kind-none : (w : ℕ) → 33 ≤ w → 35 ≡ kind_of_word w
unfolding kind_of_word
kind-none w h = sym (get_or-eq_default word_kinds 35 h)

pub kind-known : (w : ℕ) → w < 33 → get_or word_kinds w 0 ≡ kind_of_word w
unfolding kind_of_word
kind-known w h = get_d-within word_kinds w 0 35 h
