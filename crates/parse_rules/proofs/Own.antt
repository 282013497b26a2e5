-- The ranges by which the code finds a line's own word say what its shape says.
-- Assumes nothing.
use mathlib.Core.Path.{◌≡◌, refl, sym, ◌∙◌, ap}
use mathlib.Core.List.{List}
use Prim.Native.Nat.{ℕ, ◌+◌, ◌≤◌}
use native.Mathlib.Decide.{dec_lt}
use native.Mathlib.Omega.{arith}
use Rattle.base_prelude.specs.Choice.{if_lt, if_eq}
use Rattle.base_prelude.proofs.Choice.{if_lt-no, if_eq-no}
use Rattle.base_prelude.proofs.Table.{Each, each_at}
use Rattle.parse_lines.specs.declared.Span.{Span}
use Rattle.parse_shapes.specs.Shapes.{shapes, shape_in, shape_of}
use Rattle.parse_shapes.proofs.Forms.{past-shapes}
use Rattle.parse_rules.specs.Rules.{head_at, own_in, own_word}

abbrev pub own_range : List ℕ → Span → ℕ → ℕ
own_range t u k =
    if_eq k 2 (u.word + 1)
    (if_eq k 4 (u.word + 1)
    (if_eq k 22 (u.word + 1)
    (if_eq k 33 (u.word + 1)
    (if_eq k 21 (u.word + 1)
    (if_eq k 13 (head_at t (u.word + 1))
    (if_lt k 5 0
    (if_lt k 8 (head_at t (u.word + 2))
    0)))))))

module _ (t : List ℕ) (u : Span) where
  abbrev Says : ℕ → Type 0
  Says k = own_word t u k ≡ own_range t u k

  each-says : Each Says 37
  unfolding own_word own_in shape_of shape_in shapes if_lt if_eq
  each-says = (((((((((((((((((((((((((((((((((((((tt, refl), refl), refl), refl), refl), refl), refl), refl), refl), refl), refl), refl), refl), refl), refl), refl), refl), refl), refl), refl), refl), refl), refl), refl), refl), refl), refl), refl), refl), refl), refl), refl), refl), refl), refl), refl), refl)

  past-own : (k : ℕ) → 37 ≤ k → own_range t u k ≡ 0
  past-own k h =
      if_eq-no _ _ (λ e. omega arith) ∙ if_eq-no _ _ (λ e. omega arith) ∙ if_eq-no _ _ (λ e. omega arith) ∙ if_eq-no _ _ (λ e. omega arith)
      ∙ if_eq-no _ _ (λ e. omega arith) ∙ if_eq-no _ _ (λ e. omega arith) ∙ if_lt-no _ _ (omega arith) ∙ if_lt-no _ _ (omega arith)

  past-says : (k : ℕ) → 37 ≤ k → Says k
  unfolding own_word own_in
  past-says k h = ap (own_in t u) (past-shapes k h) ∙ sym (past-own k h)

  own-says : (k : ℕ) → own_word t u k ≡ own_range t u k
  own-says k = elim (dec_lt k 37) [ yes l ↦ each_at Says 37 k each-says l | no l ↦ past-says k (omega arith) ]

  pub own-by : (k r : ℕ) → r ≡ own_range t u k → r ≡ own_word t u k
  own-by k r e = e ∙ sym (own-says k)
