-- The rows of an accepted source: as many operands as the tables ask, of kinds that can be operands, and names where names must stand.
-- Assumes nothing.
use mathlib.Core.Path.{◌≡◌, sym, ◌∙◌}
use mathlib.Core.Bool.{true, false}
use mathlib.Core.List.{List}
use mathlib.Core.Logic.{◌⊎◌}
use Prim.Native.Nat.{ℕ, ◌+◌, ◌-◌, ◌≤◌, ◌<◌}
use native.Mathlib.Omega.{arith}
use lib.ListN.{length}
use Rattle.base_prelude.proofs.Choice.{if_eq-yes}
use Rattle.base_limits.specs.declared.Width.{Width}
use Rattle.parse_lines.specs.Tokens.{kind_at, word_at}
use Rattle.parse_units.specs.Outline.{row_at}
use Rattle.parse_outline.specs.Outline.{outline_of}
use Rattle.parse_outline.specs.Outline as outline
use Rattle.parse_outline.specs.Parsed as answer
use Rattle.prog_tables.specs.Statement.{has_expression, is_call_row, is_call, used_by}
use Rattle.prog_tables.specs.Statement as statement
use Rattle.prog_tables.specs.Tests.{one_of}
use Rattle.prog_tables.specs.Faults.{expression_fault}
use Rattle.prog_tables.specs.WellFormed.{has_operands}
use Rattle.res_skeleton.specs.Skeleton.{parameters_of, skeleton_of}
use Rattle.res_skeleton.proofs.Laws.{kind-is, parameters-are}
use Rattle.res_scope.specs.Lines.{first_token, end_token}
use Rattle.res_scope.specs.Parts.{parts_of}
use Rattle.res_scope.specs.declared.Parts.{Parts}
use Rattle.thm_outline.specs.Lined.{Lined}
use Rattle.thm_outline.specs.Parted.{Parted}
use Rattle.thm_outline.proofs.Lines.{few-rows, row_line}
use Rattle.thm_outline.proofs.Forms.{Form, row-form, row-known, row-order, function-count}
use Rattle.thm_outline.proofs.Parts.{form-parted, form-kind, form-local, form-goto, form-address, form-function}

-- the kind of row m of the skeleton k, and its parts
abbrev pub kind_of : List ℕ → ℕ → ℕ
kind_of k m = (statement.row_at k m).kind

abbrev pub parts_at : List ℕ → List ℕ → ℕ → Parts
parts_at t k m = parts_of t (kind_of k m) (first_token k m) (end_token k m)

module _ (w : Width) (t : List ℕ) (n c l : ℕ) (x y : List ℕ) (long : length t ≡ 32768) (h : outline_of w t n ≡ outline.parsed (answer.accepted c l) x y)
    (m : ℕ) (g : m < c) where
  abbrev k : List ℕ
  k = skeleton_of x c

  line : Lined w t n (kind_of k m) (first_token k m) (end_token k m) (row_at x (m + 1)).operands
  line = row_line w t n c l x y long h m g

  form : Form t (kind_of k m) (first_token k m) (end_token k m)
  form = row-form w t n _ _ _ _ line

  -- a magic word stands before the end of its line
  pub row-ordered : first_token k m < end_token k m
  row-ordered = row-order w t n _ _ _ _ line

  pub row-parted : Parted t (kind_of k m) (first_token k m) (end_token k m) (parts_at t k m)
  row-parted = form-parted t _ _ _ row-ordered form

  -- a kind that is listed
  pub row-kind : (1 ≤ kind_of k m) × (kind_of k m < 23)
  row-kind = form-kind t _ _ _ form

  -- "as many operands as its operator, call or statement takes"
  pub row-shaped : has_operands (kind_of k m) ≡ true
      → used_by (kind_of k m) (parts_at t k m).expr (end_token k m - (parts_at t k m).first) ≡ end_token k m - (parts_at t k m).first
  row-shaped = row-parted.shaped

  pub row_listed : expression_fault (kind_of k m) (parts_at t k m).expr ≡ false
  row_listed = row-parted.listed

  pub row-few : end_token k m - (parts_at t k m).first ≤ 8
  row-few = row-parted.few

  -- a row of another kind has neither
  pub row-idle : has_operands (kind_of k m) ≡ false → end_token k m - (parts_at t k m).first ≡ 0
  row-idle q = omega (arith, row-parted.idle q)

  pub row_plain : one_of (has_expression (kind_of k m)) (is_call_row (kind_of k m)) ≡ false → (parts_at t k m).expr ≡ 0
  row_plain = row-parted.plain

  -- operand tokens
  pub row_operands : (j : ℕ) → (parts_at t k m).first ≤ j → j < end_token k m → (3 ≤ kind_at t j) × (kind_at t j < 9)
  row_operands = row-parted.operands

  -- a substitute behind the magic word is a known one
  pub row-substitutes : (j : ℕ) → first_token k m < j → j < end_token k m → (kind_at t j ≡ 4) ⊎ (kind_at t j ≡ 6) → (word_at t j ≡ 1) ⊎ (word_at t j ≡ 2)
  row-substitutes = row-known w t n _ _ _ _ line

  pub operand-substitutes : (j : ℕ) → (parts_at t k m).first ≤ j → j < end_token k m → (kind_at t j ≡ 4) ⊎ (kind_at t j ≡ 6) → (word_at t j ≡ 1) ⊎ (word_at t j ≡ 2)
  operand-substitutes j a b = row-substitutes j (omega (arith, row-parted.behind)) b

  -- the name of `let` and `set`
  pub local-named : 5 ≤ kind_of k m → kind_of k m < 7 → (first_token k m + 1 < end_token k m) × (kind_at t (first_token k m + 1) ≡ 3)
  local-named a b = form-local t _ _ _ a b form

  pub goto-named : kind_of k m ≡ 10 → (first_token k m + 1 < end_token k m) × (kind_at t (first_token k m + 1) ≡ 3)
  goto-named a = form-goto t _ _ _ a form

  -- the `@` of `set @`
  pub address-marked : kind_of k m ≡ 7
      → (first_token k m + 1 < end_token k m) × ((kind_at t (first_token k m + 1) ≡ 5) ⊎ ((kind_at t (first_token k m + 1) ≡ 6) ⊎ (kind_at t (first_token k m + 1) ≡ 8)))
  address-marked a = form-address t _ _ _ a form

  -- a row that calls names a function behind its magic word
  pub callee_named : is_call (kind_of k m) (parts_at t k m).expr ≡ true
      → (first_token k m < (parts_at t k m).callee) × ((parts_at t k m).callee < end_token k m) × (kind_at t (parts_at t k m).callee ≡ 3)
  callee_named = row-parted.called

  pub callee-some : is_call (kind_of k m) (parts_at t k m).expr ≡ true → (parts_at t k m).callee ≡ 0 → ⊥
  callee-some a b = omega (arith, (callee_named a).0)

  -- no other row does
  pub callee-none : is_call (kind_of k m) (parts_at t k m).expr ≡ false → (parts_at t k m).callee ≡ 0
  callee-none = row-parted.uncalled

  -- parameters of a function: the tokens of its line, at most 8, each a name
  parameters-count : kind_of k m ≡ 1 → (statement.row_at k m).b ≡ (row_at x (m + 1)).operands
  unfolding parameters_of
  parameters-count a =
      parameters-are x c (few-rows w t n c l x y long h) m g ∙ if_eq-yes _ _ (sym (kind-is x c (few-rows w t n c l x y long h) m g) ∙ a)

  pub function-parameters : kind_of k m ≡ 1 → ((statement.row_at k m).b ≡ end_token k m - (first_token k m + 1)) × (end_token k m - (first_token k m + 1) ≤ 8)
  function-parameters a =
      (parameters-count a ∙ function-count w t n _ _ _ _ line a, (form-function t _ _ _ a form).0)

  pub parameters-named : kind_of k m ≡ 1 → (j : ℕ) → first_token k m < j → j < end_token k m → kind_at t j ≡ 3
  parameters-named a = (form-function t _ _ _ a form).1
