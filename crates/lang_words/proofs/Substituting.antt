-- A law for each return of `substitute`.
-- Assumes nothing.
use mathlib.Core.Path.{◌≡◌, refl, sym, ◌∙◌}
use mathlib.Core.Bool.{Bool, true, false}
use mathlib.Core.List.{List}
use Prim.Native.Nat.{ℕ}
use Rattle.base_prelude.specs.Lists.{same_list}
use Rattle.base_prelude.proofs.Choice.{is-yes, is-no}
use Rattle.lang_words.specs.Substitutes.{bits-per-word, bytes-per-word, saved-frame-size, bits_per_word, bytes_per_word, saved_frame_size, substitute_of}

module _ (name : List ℕ) (a : Bool) (p : a ≡ same_list name bits-per-word) where
  pub is-bits : a ≡ true → bits_per_word ≡ substitute_of name
  unfolding substitute_of
  is-bits e = is-yes _ _ _ _ (sym p ∙ e) refl

  module _ (n : a ≡ false) (b : Bool) (q : b ≡ same_list name bytes-per-word) where
    pub is-bytes : b ≡ true → bytes_per_word ≡ substitute_of name
    unfolding substitute_of
    is-bytes e = is-no _ _ _ _ (sym p ∙ n) (is-yes _ _ _ _ (sym q ∙ e) refl)

    module _ (m : b ≡ false) (c : Bool) (s : c ≡ same_list name saved-frame-size) where
      pub is-saved : c ≡ true → saved_frame_size ≡ substitute_of name
      unfolding substitute_of
      is-saved e = is-no _ _ _ _ (sym p ∙ n) (is-no _ _ _ _ (sym q ∙ m) (is-yes _ _ _ _ (sym s ∙ e) refl))

      pub is-neither : c ≡ false → 0 ≡ substitute_of name
      unfolding substitute_of
      is-neither e = is-no _ _ _ _ (sym p ∙ n) (is-no _ _ _ _ (sym q ∙ m) (is-no _ _ _ _ (sym s ∙ e) refl))

pub ruleset substitutes = (is-bits, is-bytes, is-saved, is-neither)
