-- A law for each return of `section` and `known`.
-- Assumes nothing.
use mathlib.Core.Path.{◌≡◌, refl, sym, ◌∙◌}
use mathlib.Core.Bool.{Bool, true, false}
use mathlib.Core.List.{List}
use Prim.Native.Nat.{ℕ}
use Rattle.base_prelude.specs.Lists.{same_list}
use Rattle.base_prelude.proofs.Choice.{is-yes, is-no}
use Rattle.base_prelude.proofs.Choice.{is_eq, is_ne}
use Rattle.lang_words.specs.Numbers as word
use Rattle.lang_words.specs.Words.{number_of}
use Rattle.lang_words.specs.Sections.{data-name, functions-name, code-name, section_of, known_of}

module _ (name : List ℕ) (a : Bool) (p : a ≡ same_list name data-name) where
  pub is-data : a ≡ true → word.data_section ≡ section_of name
  unfolding section_of
  is-data e = is-yes _ _ _ _ (sym p ∙ e) refl

  module _ (n : a ≡ false) (b : Bool) (q : b ≡ same_list name functions-name) where
    pub is-functions : b ≡ true → word.functions_section ≡ section_of name
    unfolding section_of
    is-functions e = is-no _ _ _ _ (sym p ∙ n) (is-yes _ _ _ _ (sym q ∙ e) refl)

    module _ (m : b ≡ false) (c : Bool) (s : c ≡ same_list name code-name) where
      pub is_code : c ≡ true → word.code_section ≡ section_of name
      unfolding section_of
      is_code e = is-no _ _ _ _ (sym p ∙ n) (is-no _ _ _ _ (sym q ∙ m) (is-yes _ _ _ _ (sym s ∙ e) refl))

      pub is-no-section : c ≡ false → 0 ≡ section_of name
      unfolding section_of
      is-no-section e = is-no _ _ _ _ (sym p ∙ n) (is-no _ _ _ _ (sym q ∙ m) (is-no _ _ _ _ (sym s ∙ e) refl))

pub ruleset sections = (is-data, is-functions, is_code, is-no-section)

module _ (name : List ℕ) (k : ℕ) (p : k ≡ number_of name) where
  pub known-other : (r : ℕ) → k ≡ 0 → r ≡ section_of name → r ≡ known_of name
  unfolding known_of
  known-other r e q = is_eq _ _ _ _ _ (sym p ∙ e) q

  pub known-word : (k ≡ 0 → ⊥) → k ≡ known_of name
  unfolding known_of
  known-word e = is_ne _ _ _ _ _ (λ z. e (p ∙ z)) p

pub ruleset knowing = (known-other, known-word)
