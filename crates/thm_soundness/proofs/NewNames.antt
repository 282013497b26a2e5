-- No two labels of an accepted source have one name.
-- Assumes nothing.
use mathlib.Core.Path.{◌≡◌, refl, sym, ◌∙◌, ap, ap₂, subst}
use mathlib.Core.Bool.{Bool, true, false, not}
use mathlib.Core.List.{List, [], ◌∷◌}
use mathlib.Core.Logic.{◌⊎◌, inl, inr}
use Prim.Native.Nat.{ℕ, zero, suc, ◌+◌, ◌*◌, ◌-◌, ◌≤◌, ◌<◌}
use native.Mathlib.Decide.{ℕ_discrete, dec_lt}
use native.Mathlib.Omega.{arith}
use lib.Dec.{eqb, ltb}
use lib.ListN.{length}
use borrow.Author.Tests.{lt-ltb}
use Rattle.base_prelude.specs.Choice.{pick, if_lt, if_true}
use Rattle.base_prelude.specs.Fault.{none}
use Rattle.base_prelude.specs.Lists.{same_list}
use Rattle.base_prelude.proofs.Choice.{if_lt-yes, if_lt-no, if_true-yes, true-false}
use Rattle.parse_lines.specs.Tokens.{kind_at}
use Rattle.prog_tables.specs.Tests.{one_of, some_below, first_from}
use Rattle.prog_tables.specs.Label.{Label}
use Rattle.prog_tables.specs.WellFormed.{name_new}
use Rattle.prog_tables.proofs.Targets.{First, first_found}
use Rattle.prog_tables.proofs.Whole.{Found, some-found}
use Rattle.res_scope.specs.Lines.{label_token}
use Rattle.res_scope.specs.Names.{has_name, label_named, label_of}
use Rattle.res_names.specs.Naming.{label_fault}
use Rattle.res_text.specs.Same.{name_of, same_text}
use Rattle.parse_verdict.specs.Verdict.{Clean}
use Rattle.thm_acceptance.specs.Faults.{label_faults, statements_faults, all_name_faults}
use Rattle.parse_lines.proofs.Keys.{no_key}
use Rattle.thm_statement_rows.proofs.Statements.{clean-left}

label-clean : (left : ℕ) (same : ℕ → ℕ → Bool) (t : List ℕ) (n : ℕ) (y : List ℕ) (l j e : ℕ) → Clean (label_faults left same t n y l j) → j ≤ e → e < j + left → none ≤ label_fault same t n y l e
unfolding label_faults
label-clean zero same t n y l j e h a b = let z : ⊥ = omega arith in absurd z
label-clean (suc left) same t n y l j e h a b =
    elim (ℕ_discrete j e) [
      | yes d ↦ subst (λ (v : ℕ). none ≤ label_fault same t n y l v) d h.0
      | no d ↦ label-clean left same t n y l (j + 1) e h.1 (omega arith) (omega arith)
    ]

between : (t : List ℕ) (i : ℕ) → (kind_at t i ≡ 2) ⊎ (kind_at t i ≡ 3) → (2 ≤ kind_at t i) × (kind_at t i < 7)
between t i (inl e) = (omega arith, omega arith)
between t i (inr e) = (omega arith, omega arith)

named : (t : List ℕ) (i : ℕ) → (kind_at t i ≡ 2) ⊎ (kind_at t i ≡ 3) → has_name t i ≡ true
unfolding has_name
named t i e = let r = between t i e in if_lt-no false (ltb (kind_at t i) 7) r.0 ∙ lt-ltb (kind_at t i) 7 r.1

module _ (s t : List ℕ) (n : ℕ) (y : List ℕ) (l : ℕ) (h : ℕ → Label) (tokens : (e : ℕ) → e < l → (kind_at t (label_token y e) ≡ 2) ⊎ (kind_at t (label_token y e) ≡ 3)) (are : (e : ℕ) → e < l → (h e).name ≡ name_of s t (label_token y e)) where
  same-token : (i e : ℕ) → i < l → e < l → same_list (h i).name (h e).name ≡ true → same_text s t (label_token y i) (label_token y e) ≡ true
  unfolding same_text
  same-token i e a b q =
      if_true-yes _ _ (named t (label_token y i) (tokens i a)) ∙ if_true-yes _ _ (named t (label_token y e) (tokens e b))
      ∙ sym (ap₂ same_list (are i a) (are e b)) ∙ q

  fault-some : (i e : ℕ) → i < e → e < l → same_text s t (label_token y i) (label_token y e) ≡ true → none ≤ label_fault (same_text s t) t n y l e → ⊥
  unfolding label_fault label_of
  fault-some i e a b q g =
      let u : first_from (label_named (same_text s t) y (label_token y e)) l 0 ≤ i = (first_found (label_named (same_text s t) y (label_token y e)) l 0 i q (omega arith) (omega arith)).upto in
      no_key t n (label_token y e) 12 (omega arith) (subst (λ (v : ℕ). none ≤ v) (if_lt-yes _ _ (omega arith)) g)

  new_by : (e : ℕ) → e < l → none ≤ label_fault (same_text s t) t n y l e → (b : Bool) → some_below (λ i. same_list (h i).name (h e).name) e ≡ b → not b ≡ true
  new_by e g f true q =
      let v = some-found (λ i. same_list (h i).name (h e).name) e q in
      absurd (fault-some v.i e v.below g (same-token v.i e (omega (arith, v.below)) g v.passes) f)
  new_by e g f false q = refl

  pub names-new : (k : List ℕ) (c : ℕ) → Clean (all_name_faults (same_text s t) t n k y l c) → (e : ℕ) → e < l → name_new h e ≡ true
  unfolding name_new all_name_faults
  names-new k c clean e g =
      new_by e g (label-clean l (same_text s t) t n y l 0 e (clean-left (label_faults l (same_text s t) t n y l 0) _ clean) (omega arith) (omega arith)) _ refl
