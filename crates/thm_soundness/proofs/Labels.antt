-- The label rows that an accepted source leaves.
-- Assumes nothing.
use mathlib.Core.Path.{◌≡◌, refl, sym, ◌∙◌, ap, ap₂, subst}
use mathlib.Core.Bool.{Bool, true, false}
use mathlib.Core.List.{List, [], ◌∷◌}
use Prim.Native.Nat.{ℕ, zero, suc, ◌+◌, ◌*◌, ◌-◌, ◌≤◌, ◌<◌}
use native.Mathlib.Decide.{ℕ_discrete}
use native.Mathlib.Omega.{arith}
use lib.Dec.{eqb}
use lib.ListN.{length, get_or, length-replicate}
use Rattle.base_prelude.specs.Choice.{if_eq}
use Rattle.base_prelude.specs.Lists.{zeros}
use Rattle.base_prelude.proofs.Choice.{either-eq, if_eq-yes, if_eq-no}
use Rattle.base_limits.specs.declared.Width.{Width}
use Rattle.prog_tables.specs.Statement.{Row, row_at}
use Rattle.prog_tables.specs.Label.{Label, label_at, is_data, is_function_label}
use Rattle.parse_outline.specs.Outline.{Outlined, outline_of}
use Rattle.parse_outline.specs.Outline as outline
use Rattle.parse_outline.specs.Parsed as answer
use Rattle.res_skeleton.specs.Skeleton.{skeleton_of}
use Rattle.res_scope.specs.Lines.{label_token, label_kind, label_statement, label_arguments}
use Rattle.res_labels.specs.Labelling.{outline_word, flag_at, exported_kind, final_kind, final_number, final_arguments, label_words, label_table, name_table}
use Rattle.res_labels.proofs.Laws.{label-word}
use Rattle.res_rows.specs.Rows.{label_number}
use Rattle.prog_tables.specs.Hosts.{mark_number, mark_arguments}
use Rattle.thm_statement_rows.proofs.Labels.{import-final}
use Rattle.thm_outline.proofs.LabelRows.{LabelRow, label-rows}
use Rattle.thm_soundness.proofs.Tests.{Labels}

pub final-data : (flag : ℕ) → is_data (final_kind 1 flag) ≡ true
unfolding final_kind exported_kind is_data if_eq
final-data flag = either-eq (λ (v : ℕ). is_data v ≡ true) flag 1 _ _ (λ _. refl) (λ _. refl)

pub final-function : (flag : ℕ) → is_function_label (final_kind 3 flag) ≡ true
unfolding final_kind exported_kind is_function_label if_eq
final-function flag = either-eq (λ (v : ℕ). is_function_label v ≡ true) flag 1 _ _ (λ _. refl) (λ _. refl)

pub final-place : (flag : ℕ) → final_kind 5 flag ≡ 5
unfolding final_kind exported_kind if_eq
final-place flag = either-eq (λ (v : ℕ). v ≡ 5) flag 1 _ _ (λ _. refl) (λ _. refl)

module _ (w : Width) (s t : List ℕ) (y flags : List ℕ) (l i j : ℕ) (room : l * 4 ≤ i) where
  abbrev z : List ℕ
  z = label_table w t y flags l (zeros i)

  pub word_of : (e v : ℕ) → e < l → v < 4 → get_or (label_table w t y flags l (zeros i)) (e * 4 + v) 0 ≡ get_or (label_words w t y flags e) v 0
  word_of e v g a = let q = length-replicate {A = ℕ} i 0 in label-word w t y flags l (zeros i) (omega (arith, q)) e v g a

  pub kind-of : (e : ℕ) → e < l → (label_at (label_table w t y flags l (zeros i)) (name_table s t y l (zeros j)) e).kind ≡ final_kind (label_kind y e) (flag_at flags e)
  unfolding label_at label_words outline_word label_kind
  kind-of e g =
      let q : e * 4 + 0 ≡ e * 4 = omega arith in
      ap (λ (v : ℕ). get_or (label_table w t y flags l (zeros i)) v 0) (sym q) ∙ word_of e 0 g (omega arith)

  pub number-of : (e : ℕ) → e < l → label_number (label_table w t y flags l (zeros i)) e ≡ final_number w t (label_kind y e) (get_or y (e * 4 + 2) 0)
  unfolding label_number label_words outline_word label_kind
  number-of e g = word_of e 1 g (omega arith)

  pub number_same : (e : ℕ) → (label_at (label_table w t y flags l (zeros i)) (name_table s t y l (zeros j)) e).number ≡ label_number (label_table w t y flags l (zeros i)) e
  unfolding label_at label_number
  number_same e = refl

  pub statement-of : (e : ℕ) → e < l → (label_kind y e ≡ 1 → ⊥) → (label_kind y e ≡ 6 → ⊥) → label_number (label_table w t y flags l (zeros i)) e ≡ label_statement y e
  unfolding final_number label_statement
  statement-of e g d f = number-of e g ∙ if_eq-no _ _ d ∙ if_eq-no _ _ f

  -- of an import: its number, and its argument count
  pub import-of : (e : ℕ) → e < l → label_kind y e ≡ 6 → label_number (label_table w t y flags l (zeros i)) e ≡ mark_number (get_or y (e * 4 + 2) 0)
  unfolding final_number
  import-of e g q = number-of e g ∙ if_eq-no _ _ (λ d. let v : ⊥ = omega (arith, q, d) in v) ∙ if_eq-yes _ _ q

  pub arguments-of : (e : ℕ) → e < l → label_kind y e ≡ 6
      → (label_at (label_table w t y flags l (zeros i)) (name_table s t y l (zeros j)) e).arguments ≡ mark_arguments (get_or y (e * 4 + 2) 0)
  unfolding label_at label_words final_arguments outline_word label_kind
  arguments-of e g q = word_of e 2 g (omega arith) ∙ if_eq-yes _ _ q

  arguments-same : (e : ℕ) → e < l → label_kind y e ≡ 6
      → (label_at (label_table w t y flags l (zeros i)) (name_table s t y l (zeros j)) e).arguments ≡ label_arguments y e
  unfolding label_arguments
  arguments-same e g q = arguments-of e g q

  module _ (n c : ℕ) (x : List ℕ) (long : length t ≡ 32768) (oh : outline_of w t n ≡ outline.parsed (answer.accepted c l) x y) where
    row : (e : ℕ) → e < l → LabelRow t y (row_at (skeleton_of x c)) c e
    row e g = label-rows w t n c l x y long oh e g

    pub labels-are : Labels (skeleton_of x c) y l (label_table w t y flags l (zeros i)) c (label_at (label_table w t y flags l (zeros i)) (name_table s t y l (zeros j)))
    labels-are =
        record {
          numbers = λ e g. number_same e;
          values = λ e g q. ap is_data (kind-of e g ∙ ap (λ (v : ℕ). final_kind v (flag_at flags e)) q) ∙ final-data (flag_at flags e);
          functions = λ e g q. (
            ap is_function_label (kind-of e g ∙ ap (λ (v : ℕ). final_kind v (flag_at flags e)) q) ∙ final-function (flag_at flags e),
            statement-of e g (λ d. absurd (omega arith)) (λ d. absurd (omega arith)),
          );
          places = λ e g q. (
            kind-of e g ∙ ap (λ (v : ℕ). final_kind v (flag_at flags e)) q ∙ final-place (flag_at flags e),
            statement-of e g (λ d. absurd (omega arith)) (λ d. absurd (omega arith)),
          );
          imports = λ e g q. (
            kind-of e g ∙ import-final (label_kind y e) (flag_at flags e) q,
            arguments-same e g q,
          );
          callees = λ e g q. ((row e g).below (λ d. absurd (omega arith)) (λ d. absurd (omega arith)), (row e g).function q);
          spots = λ e g q. (row e g).below (λ d. absurd (omega arith)) (λ d. absurd (omega arith));
        }
