-- What `is_word` compares: the letters that a row spells.
-- Assumes nothing.
use mathlib.Core.Path.{◌≡◌, refl, ◌∙◌, ap, ap₂}
use mathlib.Core.List.{List}
use Prim.Native.Nat.{ℕ, ◌+◌, ◌-◌}
use native.Mathlib.Omega.{arith}
use lib.Dec.{eqb}
use lib.ListN.{length, take, drop}
use Rattle.base_prelude.specs.Lists.{same_list}
use lib.Pointwise.{pointwise}
use Rattle.std.specs.List.{between}
use Rattle.base_prelude.proofs.Lists.{pointwise-same}
use Rattle.lang_words.specs.Words.{words}
use Rattle.lang_words.specs.Table.{all_letters, spelled}

pub joined_length : length (all_letters words) ≡ 283
unfolding words all_letters
joined_length = refl

-- the part of the letters that a row spells
pub part-spelled : (t name : List ℕ) (start size : ℕ) → t ≡ all_letters words → pointwise eqb name (between start (start + size) t) ≡ same_list name (spelled start size)
unfolding spelled
part-spelled t name start size e =
    pointwise-same name (between start (start + size) t) ∙ ap (same_list name) (ap₂ (λ (n : ℕ) (l : List ℕ). take n (drop start l)) long e)
  where
    long : start + size - start ≡ size
    long = omega arith
