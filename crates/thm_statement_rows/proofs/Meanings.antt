-- What a name without a fault means, and what it becomes in a row.
-- Assumes nothing.
use mathlib.Core.Path.{◌≡◌, refl, sym, ◌∙◌, ap, ap₂, subst}
use mathlib.Core.Bool.{Bool, true, false}
use mathlib.Core.List.{List, [], ◌∷◌, ◌++◌}
use mathlib.Core.Logic.{◌⊎◌, inl, inr}
use Prim.Native.Nat.{ℕ, zero, suc, ◌+◌, ◌*◌, ◌-◌, ◌%◌, ◌≤◌, ◌<◌}
use native.Mathlib.Nat.{mod-eq_of_lt}
use native.Mathlib.Decide.{dec_lt, ℕ_discrete}
use native.Mathlib.Omega.{arith}
use lib.Dec.{eqb, ltb, leb}
use lib.ListN.{length, get_or}
use borrow.Author.Tests.{eq-eqb, lt-ltb, le-leb}
use Rattle.base_prelude.specs.Choice.{pick, if_lt, if_eq, if_true}
use Rattle.base_prelude.specs.Fault.{none, key}
use Rattle.base_prelude.proofs.Choice.{either, either-eq, either_true, if_eq-yes, if_eq-no, if_lt-yes, if_lt-no, true-false}
use Rattle.parse_lines.specs.Tokens.{kind_at, value_at}
use Rattle.parse_lines.proofs.Keys.{no_key}
use Rattle.prog_tables.specs.Tests.{both, one_of, some_below, first_from}
use Rattle.prog_tables.specs.Statement.{Row, row_at}
use Rattle.prog_tables.specs.Nesting.{encloses}
use Rattle.prog_tables.specs.Frames.{frame_depth, let_seen, is_parameter, seen_at, in_scope}
use Rattle.prog_tables.specs.Label.{Label, is_data, is_function_label}
use Rattle.prog_tables.specs.WellFormed.{labelled, operand_good}
use Rattle.prog_tables.specs.declared.Operand.{Operand}
use Rattle.prog_tables.specs.declared.Operand.TheVariants.{Constant, Local, Address, AtConstant, AtLocal, AtAddress, Unlisted}
use Rattle.res_scope.specs.Lines.{first_token, end_token, label_kind, label_statement, label_arguments}
use Rattle.res_scope.specs.Names.{last_from, let_named, parameter_named, let_of, parameter_of, label_of, label_meaning, outer_meaning, meaning_of}
use Rattle.res_scope.specs.declared.Meaning.{Meaning}
use Rattle.res_scope.specs.declared.Meaning.TheVariants as meaning
use Rattle.res_scope.proofs.Cases.{from_start}
use Rattle.res_names.specs.Naming.{data_fault, value_fault, set_fault, import_fault, function_fault, callee_fault, place_fault, goto_fault}
use Rattle.res_rows.specs.Rows.{label_number, word_of_let, word_of_parameter, local_word, label_target, plain_operand, at_operand, constant_operand, token_operand, address_constant, address_operand}
use Rattle.thm_statement_rows.proofs.Views.{Alike, seen_same}

-- ---- what a fault of `none` says

module _ (t : List ℕ) (n : ℕ) (k y : List ℕ) (r i : ℕ) where
  pub data-kind : (j : ℕ) → none ≤ data_fault t n y i j → label_kind y j ≡ 1
  unfolding data_fault
  data-kind j = either-eq (λ (v : ℕ). none ≤ v → label_kind y j ≡ 1) (label_kind y j) 1 _ _ (λ e _. e) (λ _ h. no_key t n i 11 (omega arith) h)

  -- a function with its parameter count, or an imported one with its argument count
  abbrev pub Callable : ℕ → ℕ → Type 0
  Callable count j = ((label_kind y j ≡ 3) × ((row_at k (label_statement y j)).b ≡ count)) ⊎ ((label_kind y j ≡ 6) × (label_arguments y j ≡ count))

  import-good : (count j : ℕ) → none ≤ import_fault t n y i count j → (label_kind y j ≡ 6) × (label_arguments y j ≡ count)
  unfolding import_fault
  import-good count j =
      either-eq (λ (v : ℕ). none ≤ v → (label_kind y j ≡ 6) × (label_arguments y j ≡ count)) (label_kind y j) 6 _ _
      (λ e. either-eq (λ (v : ℕ). none ≤ v → (label_kind y j ≡ 6) × (label_arguments y j ≡ count)) (label_arguments y j) count _ _
      (λ q _. (e, q)) (λ _ h. no_key t n i 13 (omega arith) h))
      (λ _ h. no_key t n i 11 (omega arith) h)

  pub function-good : (count j : ℕ) → none ≤ function_fault t n k y i count j → Callable count j
  unfolding function_fault
  function-good count j =
      either-eq (λ (v : ℕ). none ≤ v → Callable count j) (label_kind y j) 3 _ _
      (λ e. either-eq (λ (v : ℕ). none ≤ v → Callable count j) (row_at k (label_statement y j)).b count _ _
      (λ q _. inl (e, q)) (λ _ h. no_key t n i 13 (omega arith) h))
      (λ _ h. inr (import-good count j h))

  pub place-good : (j : ℕ) → none ≤ place_fault t n k y r i j
      → (label_kind y j ≡ 5) × ((row_at k (label_statement y j)).func ≡ (row_at k r).func) × ((row_at k (label_statement y j)).scope ≡ (row_at k r).scope)
  unfolding place_fault
  place-good j =
      either-eq P (label_kind y j) 5 _ _
      (λ a. either-eq P (row_at k (label_statement y j)).func (row_at k r).func _ _
      (λ b. either-eq P (row_at k (label_statement y j)).scope (row_at k r).scope _ _ (λ d _. (a, b, d)) (λ _ h. no_key t n i 11 (omega arith) h))
      (λ _ h. no_key t n i 11 (omega arith) h))
      (λ _ h. no_key t n i 11 (omega arith) h)
    where
      P : ℕ → Type 0
      P v = none ≤ v → (label_kind y j ≡ 5) × ((row_at k (label_statement y j)).func ≡ (row_at k r).func) × ((row_at k (label_statement y j)).scope ≡ (row_at k r).scope)

-- ---- where a meaning comes from

last-passes : (p : ℕ → Bool) (left base m : ℕ) → last_from p left base ≡ suc m → (base ≤ m) × (m < base + left) × (p m ≡ true)
unfolding last_from
last-passes p zero base m e = let z : ⊥ = omega arith in absurd z
last-passes p (suc left) base m e = by (p (base + left)) refl e (λ q. last-passes p left base m q)
  where
    by : (b : Bool) → p (base + left) ≡ b → pick b (suc (base + left)) (last_from p left base) ≡ suc m
        → (last_from p left base ≡ suc m → (base ≤ m) × (m < base + left) × (p m ≡ true)) → (base ≤ m) × (m < base + suc left) × (p m ≡ true)
    by true q d h = let z : base + left ≡ m = omega arith in (omega arith, omega arith, ap p (sym z) ∙ q)
    by false q d h = let x = h d in (x.0, omega (arith, x.1), x.2)

start-low : (same : ℕ → ℕ → Bool) (k : List ℕ) (f i : ℕ) → first_token k f + 1 ≤ parameter_of same k f i
unfolding parameter_of
start-low same k f i = from_start (parameter_named same i) (end_token k f - (first_token k f + 1)) (first_token k f + 1)

module _ (same : ℕ → ℕ → Bool) (k y : List ℕ) (l r i : ℕ) where
  -- a let before the row, in scope there
  pub record IsLet (m : ℕ) : Type 0 where
    pub before : m < r
    pub named : let_named same k (row_at k r).scope i m ≡ true

  -- a parameter of the function
  pub record IsParameter (j : ℕ) : Type 0 where
    pub few : j < end_token k (row_at k r).func - (first_token k (row_at k r).func + 1)

  abbrev pub From : Meaning → Type 0
  From (meaning.Let m) = IsLet m
  From (meaning.Parameter j) = IsParameter j
  From (meaning.Label j) = j < l
  From meaning.Unknown = Unit {0}

  label-from : (j : ℕ) → From (label_meaning l j)
  unfolding label_meaning
  label-from j = either From j l _ _ (λ h. h) (λ _. tt)

  outer-from : (j : ℕ) → From (outer_meaning k l (row_at k r).func (parameter_of same k (row_at k r).func i) j)
  unfolding outer_meaning
  outer-from j =
      either From (parameter_of same k (row_at k r).func i) (end_token k (row_at k r).func) _ _
      (λ h. record { few = let a = start-low same k (row_at k r).func i in omega (arith, a, h) }) (λ _. label-from j)

  let-from : (v : ℕ) → let_of same k r i ≡ v → (v ≡ 0 → ⊥) → IsLet (v - 1)
  unfolding let_of
  let-from v e d =
      let q : v ≡ suc (v - 1) = omega arith in
      let x = last-passes (let_named same k (row_at k r).scope i) (r - (row_at k r).func) (row_at k r).func (v - 1) (e ∙ q) in
      record { before = omega (arith, x.0, x.1); named = x.2 }

  pub meaning-from : From (meaning_of same k y l r i)
  unfolding meaning_of
  meaning-from =
      either-eq From (let_of same k r i) 0 _ _ (λ _. outer-from (label_of same y l i)) (λ d. let-from (let_of same k r i) refl d)
