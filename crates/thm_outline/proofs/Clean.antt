-- What a line without a fault says of its place and its list.
-- Assumes nothing.
use mathlib.Core.Path.{◌≡◌, refl, sym, ◌∙◌, ap}
use mathlib.Core.Bool.{true}
use mathlib.Core.List.{List}
use Prim.Native.Nat.{ℕ, ◌+◌, ◌≤◌, ◌<◌}
use native.Mathlib.Omega.{arith}
use Rattle.base_prelude.specs.Choice.{if_lt}
use Rattle.base_prelude.specs.Fault.{none, least_of}
use Rattle.base_prelude.proofs.Choice.{either, either_true, if_eq-yes, if_true-yes}
use Rattle.base_limits.specs.declared.Width.{Width}
use Rattle.lang_kinds.specs.Nesting.{stands_in}
use Rattle.lang_kinds.specs.Standing.{stands_on}
use Rattle.lang_kinds.proofs.Standing.{stands-range}
use Rattle.parse_lines.specs.Tokens.{key_at, word_at}
use Rattle.parse_lines.specs.declared.Span.{Span}
use Rattle.parse_rules.specs.Rules.{past_most, list_rule}
use Rattle.parse_shapes.specs.Shapes.{operand_count}
use Rattle.parse_shapes.proofs.Forms.{listed_by}
use Rattle.lang_words.specs.Words.{words, most_operands, entry_of, first_of, is_number}
use Rattle.parse_lines.specs.Lines.{line_kind}
use Rattle.parse_lines.proofs.Keys.{key-low}
use Rattle.thm_outline.proofs.LineKinds.{line-function}
use Rattle.parse_units.specs.Places.{place_rule, line_faults, limit_faults, unit_fault}
use Rattle.parse_units.specs.declared.State.{State}

place-by : (t : List ℕ) (n : ℕ) (u : Span) (k g : ℕ) → none ≤ place_rule t n u k g → ((stands_in k).start ≤ g) × (g < (stands_in k).end)
unfolding place_rule
place-by t n u k g =
    either_true (λ (x : ℕ). none ≤ x → ((stands_in k).start ≤ g) × (g < (stands_in k).end)) (stands_on g k) _ _ (λ e _. stands-range g k e)
    (λ _ h. let z : ⊥ = omega (arith, key-low t n u.word 8 (omega arith)) in absurd z)

-- a function has at most 8 parameters
function-most : most_operands 9 ≡ 8
unfolding most_operands entry_of first_of is_number words
function-most = refl

list-by : (t : List ℕ) (n : ℕ) (u : Span) (k : ℕ) → k ≡ 1 → word_at t u.word ≡ 9 → none ≤ list_rule t n u k → operand_count u ≤ 8
unfolding list_rule past_most
list-by t n u k e q h =
    let m : most_operands (word_at t u.word) ≡ 8 = ap most_operands q ∙ function-most in
    let z : if_lt (u.word + 1 + most_operands (word_at t u.word)) u.next (key_at t n (u.word + 1 + most_operands (word_at t u.word)) 14) none ≡ list_rule t n u k = sym (if_true-yes _ _ (sym (listed_by k true (sym (if_eq-yes _ _ e))))) in
    either (λ (x : ℕ). none ≤ x → operand_count u ≤ 8) (u.word + 1 + most_operands (word_at t u.word)) u.next (key_at t n (u.word + 1 + most_operands (word_at t u.word)) 14) none
    (λ _ h. let z : ⊥ = omega (arith, key-low t n (u.word + 1 + most_operands (word_at t u.word)) 14 (omega arith)) in absurd z) (λ l _. omega arith)
    (omega arith)

module _ (w : Width) (t : List ℕ) (n : ℕ) (u : Span) (k g : ℕ) (s : State) (c : none ≤ unit_fault w t n u k g s) where
  lines-clean : none ≤ least_of (line_faults w t n u k g s)
  unfolding unit_fault
  lines-clean = omega arith

  place-clean : none ≤ place_rule t n u k g
  unfolding line_faults least_of
  place-clean = omega (arith, lines-clean)

  pub clean-place : ((stands_in k).start ≤ g) × (g < (stands_in k).end)
  clean-place = place-by t n u k g place-clean

  limits-clean : none ≤ least_of (limit_faults t n u k s)
  unfolding unit_fault
  limits-clean = omega arith

  list-clean : none ≤ list_rule t n u k
  unfolding limit_faults least_of
  list-clean = omega (arith, limits-clean)

  pub clean-list : k ≡ line_kind t u.word → k ≡ 1 → operand_count u ≤ 8
  clean-list p e = list-by t n u k e (line-function t u.word (sym p ∙ e)) list-clean
