-- The label table and the name table: unused words and bytes are 0, and so is what lies behind the labels.
-- Assumes nothing.
use mathlib.Core.Path.{◌≡◌, sym, ◌∙◌, ap}
use mathlib.Core.Bool.{true, false}
use mathlib.Core.List.{List}
use Prim.Native.Nat.{ℕ, ◌+◌, ◌*◌, ◌≤◌, ◌<◌}
use native.Mathlib.Omega.{arith}
use lib.Dec.{eqb, ltb}
use lib.ListN.{length, get_or, take, drop, length-take, length-drop, length-replicate}
use lib.Seq.{get_or-take, get_or-drop}
use native.Mathlib.Nat.{add-zero}
use borrow.Author.Tests.{eqb-false, ltb-false}
use Rattle.base_prelude.specs.Lists.{zeros}
use Rattle.base_limits.specs.declared.Width.{Width}
use Rattle.parse_lines.specs.Tokens.{value_at}
use Rattle.base_prelude.proofs.Choice.{either-eq, if_eq-no}
use Rattle.prog_tables.specs.Tests.{one_of, all_of}
use Rattle.prog_tables.specs.Label.{label_at}
use Rattle.prog_tables.specs.Canonical.{label_unused_zero, zero_from}
use Rattle.prog_tables.proofs.Each.{both_true}
use Rattle.res_labels.specs.Labelling.{outline_word, flag_at, exported_kind, final_kind, final_arguments, label_words, label_table, label_name, name_table}
use Rattle.res_labels.proofs.Laws.{label-word, labels-behind, name-row, names-behind}
use Rattle.thm_statement_rows.proofs.Zeros.{below_all, used-or-zero, zeros-at, zeros-zero, overlay-behind}

room : (l m k : ℕ) → l * k ≤ m → l * k ≤ length (zeros m)
room l m k h = omega (arith, length-replicate {A = ℕ} m 0)

-- an import stays one
pub import-final : (kind flag : ℕ) → kind ≡ 6 → final_kind kind flag ≡ 6
unfolding final_kind exported_kind
import-final kind flag e =
    either-eq (λ (v : ℕ). v ≡ 6) flag 1 _ _ (λ _. if_eq-no _ _ (λ z. omega (arith, e, z)) ∙ if_eq-no _ _ (λ z. omega (arith, e, z)) ∙ e) (λ _. e)

module _ (w : Width) (t y flags : List ℕ) (l m : ℕ) (h : l * 4 ≤ m) where
  pub labels-zero : zero_from (l * 4) (label_table w t y flags l (zeros m)) ≡ true
  unfolding zero_from
  labels-zero =
      ap (all_of (λ (x : ℕ). eqb x 0)) (labels-behind w t y flags l (zeros m) (room l m 4 h)) ∙ zeros-zero (l * 4) m

  kind-is : (j : ℕ) → j < l → get_or (label_table w t y flags l (zeros m)) (j * 4) 0 ≡ final_kind (outline_word y j 1) (flag_at flags j)
  unfolding label_words
  kind-is j g =
      ap (λ (i : ℕ). get_or (label_table w t y flags l (zeros m)) i 0) (sym (add-zero (j * 4))) ∙ label-word w t y flags l (zeros m) (room l m 4 h) j 0 g (omega arith)

  -- word 2, but for that of an import
  word-is : (j : ℕ) → j < l → get_or (label_table w t y flags l (zeros m)) (j * 4 + 2) 0 ≡ final_arguments (outline_word y j 1) (outline_word y j 2)
  unfolding label_words
  word-is j g = label-word w t y flags l (zeros m) (room l m 4 h) j 2 g (omega arith)

  word-unused : (j : ℕ) → j < l → one_of (eqb (get_or (label_table w t y flags l (zeros m)) (j * 4) 0) 6) (eqb (get_or (label_table w t y flags l (zeros m)) (j * 4 + 2) 0) 0) ≡ true
  unfolding final_arguments
  word-unused j g =
      used-or-zero _ _ (λ u. word-is j g ∙ if_eq-no _ _ (λ e. eqb-false _ 6 u (kind-is j g ∙ import-final (outline_word y j 1) (flag_at flags j) e)))

  size_is : (j : ℕ) → j < l → get_or (label_table w t y flags l (zeros m)) (j * 4 + 3) 0 ≡ value_at t (outline_word y j 0)
  unfolding label_words
  size_is j g = label-word w t y flags l (zeros m) (room l m 4 h) j 3 g (omega arith)

module _ (s t y : List ℕ) (l m : ℕ) (h : l * 64 ≤ m) where
  pub names-zero : zero_from (l * 64) (name_table s t y l (zeros m)) ≡ true
  unfolding zero_from
  names-zero =
      ap (all_of (λ (x : ℕ). eqb x 0)) (names-behind s t y l (zeros m) (room l m 64 h)) ∙ zeros-zero (l * 64) m

  -- a byte behind the name of label j
  byte-unused : (j i : ℕ) → j < l → i < 64 → length (label_name s t y j) ≤ i → get_or (name_table s t y l (zeros m)) (j * 64 + i) 0 ≡ 0
  byte-unused j i g a b =
      let n = name_table s t y l (zeros m) in
      let z = zeros m in
      sym (get_or-drop (j * 64) n i 0) ∙ sym (get_or-take 64 (drop (j * 64) n) i 0 a)
      ∙ ap (λ (x : List ℕ). get_or x i 0) (name-row s t y l z (room l m 64 h) j g)
      ∙ overlay-behind (label_name s t y j) (take 64 (drop (j * 64) z)) i b
      (omega (arith, length-take 64 (drop (j * 64) z), length-drop (j * 64) z, length-replicate {A = ℕ} m 0))
      ∙ get_or-take 64 (drop (j * 64) z) i 0 a ∙ get_or-drop (j * 64) z i 0 ∙ zeros-at m (j * 64 + i)

-- label j, whose token's value is the length of its name
module _ (w : Width) (s t y flags : List ℕ) (l m n : ℕ) (h : l * 4 ≤ m) (o : l * 64 ≤ n) where
  pub label-unused : (j : ℕ) → j < l → value_at t (outline_word y j 0) ≡ length (label_name s t y j)
      → label_unused_zero (label_table w t y flags l (zeros m)) (name_table s t y l (zeros n)) j ≡ true
  unfolding label_unused_zero label_at
  label-unused j g e =
      both_true _ _ (word-unused w t y flags l m h j g)
      (below_all _ 64 (λ i a. used-or-zero _ _ (λ (u : ltb i (get_or (label_table w t y flags l (zeros m)) (j * 4 + 3) 0) ≡ false).
      byte-unused s t y l n o j i g a (omega (arith, ltb-false i (get_or (label_table w t y flags l (zeros m)) (j * 4 + 3) 0) u, size_is w t y flags l m h j g, e)))))
