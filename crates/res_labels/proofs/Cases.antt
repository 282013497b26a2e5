-- One law for each way through a function of this crate.
-- Assumes nothing.
use mathlib.Core.Path.{◌≡◌, refl, sym, ◌∙◌, ap}
use mathlib.Core.Bool.{false}
use mathlib.Core.List.{List, [], ◌∷◌, ◌++◌}
use Prim.Native.Nat.{ℕ, suc, ◌+◌, ◌*◌, ◌-◌, ◌/◌, ◌%◌, ◌≤◌, ◌<◌}
use native.Mathlib.Numerals.{add-one, add-two, add-three}
use native.Mathlib.Omega.{arith}
use lib.ListN.{length, take, drop, set, length-append, length-take, length-drop}
use lib.Seq.{sets-eq}
use Rattle.base_prelude.specs.Lists.{overlay}
use Rattle.base_prelude.proofs.Choice.{tests}
use Rattle.base_limits.specs.declared.Width.{Width}
use Rattle.lex_spelling.specs.Text.{spelled_at, name_at}
use Rattle.parse_lines.specs.Tokens.{token_word}
use Rattle.res_data.specs.Sizes.{address_of}
use Rattle.res_data.proofs.Cases.{overlay-long}
use Rattle.res_labels.specs.Labelling.{outline_word, final_number, final_arguments, label_words, put_words, labels_from, label_table, label_name, put_name, names_from, name_table}

module _ (w : Width) (t : List ℕ) (kind number : ℕ) where
  pub number-data : (a : ℕ) → kind ≡ 1 → a ≡ address_of w t number → a ≡ final_number w t kind number
  unfolding final_number
  number-data a e p = search tests

  pub number-import : (a : ℕ) → (kind ≡ 1 → ⊥) → kind ≡ 6 → a ≡ number - 1 → a / 16 ≡ final_number w t kind number
  unfolding final_number
  number-import a e h p = rw (← p) (search tests)

  pub number-less : (a : ℕ) → (kind ≡ 1 → ⊥) → (kind ≡ 6 → ⊥) → a ≡ number - 1 → a ≡ final_number w t kind number
  unfolding final_number
  number-less a e h p = search tests

pub ruleset numbering = (number-data, number-import, number-less)

module _ (kind number : ℕ) where
  pub arguments-import : (a : ℕ) → kind ≡ 6 → a ≡ number - 1 → a % 16 ≡ final_arguments kind number
  unfolding final_arguments
  arguments-import a h p = rw (← p) (search tests)

  pub arguments-none : (kind ≡ 6 → ⊥) → 0 ≡ final_arguments kind number
  unfolding final_arguments
  arguments-none h = search tests

pub ruleset arguing = (arguments-import, arguments-none)

pub words-put : (out : List ℕ) (j kind number arguments size : ℕ) → j * 4 + 4 ≤ length out
    → set (set (set (set out (j * 4) kind) (j * 4 + 1) number) (j * 4 + 2) arguments) (j * 4 + 3) size ≡ put_words out j (kind ∷ number ∷ arguments ∷ size ∷ [])
unfolding put_words
words-put out j kind number arguments size h =
    rw (add-one, add-two, add-three) (sets-eq (kind ∷ number ∷ arguments ∷ size ∷ []) out (j * 4) (omega arith))

pub words_long : (w : Width) (t y flags : List ℕ) (j : ℕ) (out : List ℕ) → j * 4 + 4 ≤ length out → length (put_words out j (label_words w t y flags j)) ≡ length out
unfolding put_words label_words
words_long w t y flags j out h =
    let words = label_words w t y flags j in
    omega (
      arith,
      length-append (take (j * 4) out ++ words) (drop (j * 4 + 4) out),
      length-append (take (j * 4) out) words,
      length-take (j * 4) out,
      length-drop (j * 4 + 4) out,
    )

-- the loop of `write_rows`
pub record Rows (w : Width) (t y flags : List ℕ) (l : ℕ) (out₀ out : List ℕ) (j : ℕ) : Type 0 where
  pub long : length out ≡ length out₀
  pub rest : labels_from (l - j) w t y flags j out ≡ label_table w t y flags l out₀

module _ (w : Width) (t y flags : List ℕ) (l : ℕ) (out₀ : List ℕ) where
  pub rows_start : Rows w t y flags l out₀ out₀ 0
  unfolding label_table
  rows_start =
      let q : l - 0 ≡ l = omega arith in record { long = refl; rest = ap (λ (n : ℕ). labels_from n w t y flags 0 out₀) q }

  row_is : (left j : ℕ) (out : List ℕ) → labels_from (suc left) w t y flags j out ≡ labels_from left w t y flags (j + 1) (put_words out j (label_words w t y flags j))
  unfolding labels_from
  row_is left j out = refl

  rows_end_lem : (j : ℕ) (out : List ℕ) → labels_from 0 w t y flags j out ≡ out
  unfolding labels_from
  rows_end_lem j out = refl

  module _ (out : List ℕ) (j : ℕ) (h : Rows w t y flags l out₀ out j) where
    pub rows-room : j < l → l * 4 ≤ length out₀ → j * 4 + 4 ≤ length out
    rows-room g m = omega (arith, h.long)

    pub rows_more : (x : List ℕ) → j < l → l * 4 ≤ length out₀ → x ≡ put_words out j (label_words w t y flags j) → Rows w t y flags l out₀ x (j + 1)
    rows_more x g m e =
        let q : l - j ≡ suc (l - (j + 1)) = omega arith in
        record {
          long = ap length e ∙ words_long w t y flags j out (rows-room g m) ∙ h.long;
          rest = ap (λ (z : List ℕ). labels_from (l - (j + 1)) w t y flags (j + 1) z) e ∙ sym (ap (λ (n : ℕ). labels_from n w t y flags j out) q ∙ row_is (l - (j + 1)) j out) ∙ h.rest;
        }

    pub rows-done : l ≤ j → out ≡ label_table w t y flags l out₀
    rows-done g =
        let q : l - j ≡ 0 = omega arith in
        sym (ap (λ (n : ℕ). labels_from n w t y flags j out) q ∙ rows_end_lem j out) ∙ h.rest

pub ruleset rowing = (rows_start, rows_more, rows-done)

-- a part of the name table, written and back
pub name-put : (s t y : List ℕ) (j : ℕ) (names : List ℕ) (i f : ℕ) (x : List ℕ) → i ≡ outline_word y j 0 → f ≡ token_word t i 1
    → x ≡ overlay (spelled_at false s f).bytes (take (j * 64 + 64 - j * 64) (drop (j * 64) names))
    → take (j * 64) names ++ (x ++ drop (j * 64 + 64 - j * 64) (drop (j * 64) names)) ≡ put_name names j (label_name s t y j)
unfolding put_name label_name name_at
name-put s t y j names i f x p q r =
    let e : j * 64 + 64 - j * 64 ≡ 64 = omega arith in
    ap (λ (z : List ℕ). take (j * 64) names ++ (z ++ drop (j * 64 + 64 - j * 64) (drop (j * 64) names))) r
    ∙ ap (λ (n : ℕ). take (j * 64) names ++ (overlay (spelled_at false s f).bytes (take n (drop (j * 64) names)) ++ drop n (drop (j * 64) names))) e
    ∙ ap (λ (n : ℕ). take (j * 64) names ++ (overlay (spelled_at false s n).bytes (take 64 (drop (j * 64) names)) ++ drop 64 (drop (j * 64) names))) (q ∙ ap (λ (m : ℕ). token_word t m 1) p)

pub name-long : (names : List ℕ) (j : ℕ) (bytes : List ℕ) → length (put_name names j bytes) ≡ length names
unfolding put_name
name-long names j bytes =
    omega (
      arith,
      length-append (take (j * 64) names) (overlay bytes (take 64 (drop (j * 64) names)) ++ drop 64 (drop (j * 64) names)),
      length-append (overlay bytes (take 64 (drop (j * 64) names))) (drop 64 (drop (j * 64) names)),
      overlay-long bytes (take 64 (drop (j * 64) names)),
      length-take (j * 64) names,
      length-take 64 (drop (j * 64) names),
      length-drop 64 (drop (j * 64) names),
      length-drop (j * 64) names,
    )

-- the loop of `write_names`
pub record Names (s t y : List ℕ) (l : ℕ) (names₀ names : List ℕ) (j : ℕ) : Type 0 where
  pub long : length names ≡ length names₀
  pub rest : names_from (l - j) s t y j names ≡ name_table s t y l names₀

module _ (s t y : List ℕ) (l : ℕ) (names₀ : List ℕ) where
  pub names-start : Names s t y l names₀ names₀ 0
  unfolding name_table
  names-start =
      let q : l - 0 ≡ l = omega arith in record { long = refl; rest = ap (λ (n : ℕ). names_from n s t y 0 names₀) q }

  name-is : (left j : ℕ) (names : List ℕ) → names_from (suc left) s t y j names ≡ names_from left s t y (j + 1) (put_name names j (label_name s t y j))
  unfolding names_from
  name-is left j names = refl

  names-end : (j : ℕ) (names : List ℕ) → names_from 0 s t y j names ≡ names
  unfolding names_from
  names-end j names = refl

  module _ (names : List ℕ) (j : ℕ) (h : Names s t y l names₀ names j) where
    pub names-room : j < l → l * 64 ≤ length names₀ → j * 64 + 64 ≤ length names
    names-room g m = omega (arith, h.long)

    pub names_more : (x : List ℕ) → j < l → x ≡ put_name names j (label_name s t y j) → Names s t y l names₀ x (j + 1)
    names_more x g e =
        let q : l - j ≡ suc (l - (j + 1)) = omega arith in
        record {
          long = ap length e ∙ name-long names j (label_name s t y j) ∙ h.long;
          rest = ap (λ (z : List ℕ). names_from (l - (j + 1)) s t y (j + 1) z) e ∙ sym (ap (λ (n : ℕ). names_from n s t y j names) q ∙ name-is (l - (j + 1)) j names) ∙ h.rest;
        }

    pub names-done : l ≤ j → names ≡ name_table s t y l names₀
    names-done g =
        let q : l - j ≡ 0 = omega arith in
        sym (ap (λ (n : ℕ). names_from n s t y j names) q ∙ names-end j names) ∙ h.rest

pub ruleset naming = (names-start, names_more, names-done)
