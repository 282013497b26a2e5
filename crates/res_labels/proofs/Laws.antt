-- What later stages use: the rows and names that were written are read back, and the buffers keep their length and what lies behind.
-- Assumes nothing.
use mathlib.Core.Path.{◌≡◌, refl, sym, ◌∙◌, ap, subst}
use mathlib.Core.List.{List, ◌++◌, append_assoc}
use Prim.Native.Nat.{ℕ, zero, suc, ◌+◌, ◌*◌, ◌≤◌, ◌<◌}
use native.Mathlib.Nat.{zero-add}
use native.Mathlib.Omega.{arith}
use lib.ListN.{length, get_or, take, drop}
use lib.Seq.{drop-drop, get_or-take, get_or-drop}
use Rattle.base_prelude.specs.Lists.{overlay}
use Rattle.base_limits.specs.declared.Width.{Width}
use Rattle.res_data.proofs.Cases.{overlay-long}
use Rattle.res_labels.specs.Labelling.{label_words, put_words, labels_from, label_table, label_name, put_name, names_from, name_table}
use Rattle.res_labels.proofs.Rows.{put_row, rows_from, rows_long, row_is, rows_behind}

module _ (w : Width) (t y flags : List ℕ) where
  abbrev label_row : ℕ → List ℕ → List ℕ
  label_row j x = label_words w t y flags j

  four : (j : ℕ) (x : List ℕ) → length x ≡ 4 → length (label_row j x) ≡ 4
  unfolding label_words
  four j x h = refl

  put_is : (j : ℕ) (out : List ℕ) → put_words out j (label_words w t y flags j) ≡ put_row 4 label_row four j out
  unfolding put_words
  put_is j out =
      append_assoc (take (j * 4) out) (label_words w t y flags j) (drop (j * 4 + 4) out)
      ∙ ap (λ (x : List ℕ). take (j * 4) out ++ (label_words w t y flags j ++ x)) (sym (drop-drop 4 (j * 4) out))

  from_is : (left j : ℕ) (out : List ℕ) → labels_from left w t y flags j out ≡ rows_from 4 label_row four left j out
  unfolding labels_from rows_from
  from_is zero j out = refl
  from_is (suc left) j out =
      from_is left (j + 1) (put_words out j (label_words w t y flags j)) ∙ ap (rows_from 4 label_row four left (j + 1)) (put_is j out)

  module _ (l : ℕ) (out : List ℕ) (h : l * 4 ≤ length out) where
    table_is : label_table w t y flags l out ≡ rows_from 4 label_row four l 0 out
    unfolding label_table
    table_is = from_is l 0 out

    room : (0 + l) * 4 ≤ length out
    room = omega arith

    pub labels-long : length (label_table w t y flags l out) ≡ length out
    labels-long = ap length table_is ∙ rows_long 4 label_row four l 0 out room

    pub label-row : (j : ℕ) → j < l → take 4 (drop (j * 4) (label_table w t y flags l out)) ≡ label_words w t y flags j
    label-row j g =
        ap (λ (x : List ℕ). take 4 (drop (j * 4) x)) table_is ∙ row_is 4 label_row four l 0 j out room (omega arith) (omega arith)

    -- word i of row j
    pub label-word : (j i : ℕ) → j < l → i < 4 → get_or (label_table w t y flags l out) (j * 4 + i) 0 ≡ get_or (label_words w t y flags j) i 0
    label-word j i g a =
        sym (get_or-drop (j * 4) (label_table w t y flags l out) i 0) ∙ sym (get_or-take 4 (drop (j * 4) (label_table w t y flags l out)) i 0 a)
        ∙ ap (λ (x : List ℕ). get_or x i 0) (label-row j g)

    pub labels-behind : drop (l * 4) (label_table w t y flags l out) ≡ drop (l * 4) out
    labels-behind =
        let e : 0 + l ≡ l = zero-add l in
        ap (drop (l * 4)) table_is
        ∙ subst (λ (n : ℕ). drop (n * 4) (rows_from 4 label_row four l 0 out) ≡ drop (n * 4) out) e (rows_behind 4 label_row four l 0 out room)

module _ (s t y : List ℕ) where
  abbrev name_row : ℕ → List ℕ → List ℕ
  name_row j x = overlay (label_name s t y j) x

  same : (j : ℕ) (x : List ℕ) → length x ≡ 64 → length (name_row j x) ≡ 64
  same j x h = overlay-long (label_name s t y j) x ∙ h

  names-are : (left j : ℕ) (names : List ℕ) → names_from left s t y j names ≡ rows_from 64 name_row same left j names
  unfolding names_from rows_from put_name
  names-are zero j names = refl
  names-are (suc left) j names = names-are left (j + 1) (put_name names j (label_name s t y j))

  module _ (l : ℕ) (names : List ℕ) (h : l * 64 ≤ length names) where
    name-table-is : name_table s t y l names ≡ rows_from 64 name_row same l 0 names
    unfolding name_table
    name-table-is = names-are l 0 names

    name-room : (0 + l) * 64 ≤ length names
    name-room = omega arith

    pub names-long : length (name_table s t y l names) ≡ length names
    names-long = ap length name-table-is ∙ rows_long 64 name_row same l 0 names name-room

    pub name-row : (j : ℕ) → j < l → take 64 (drop (j * 64) (name_table s t y l names)) ≡ overlay (label_name s t y j) (take 64 (drop (j * 64) names))
    name-row j g =
        ap (λ (x : List ℕ). take 64 (drop (j * 64) x)) name-table-is ∙ row_is 64 name_row same l 0 j names name-room (omega arith) (omega arith)

    pub names-behind : drop (l * 64) (name_table s t y l names) ≡ drop (l * 64) names
    names-behind =
        let e : 0 + l ≡ l = zero-add l in
        ap (drop (l * 64)) name-table-is
        ∙ subst (λ (n : ℕ). drop (n * 64) (rows_from 64 name_row same l 0 names) ≡ drop (n * 64) names) e (rows_behind 64 name_row same l 0 names name-room)
