-- Addresses of data are within its length: data only grows from line to line.
-- Assumes nothing.
use mathlib.Core.Path.{◌≡◌, refl, sym, ◌∙◌, ap, subst}
use mathlib.Core.List.{List}
use Prim.Native.Nat.{ℕ, zero, suc, ◌+◌, ◌-◌, ◌≤◌, ◌<◌}
use native.Mathlib.Nat.{not-suc-le-zero}
use native.Mathlib.Decide.{dec_lt, ℕ_discrete}
use native.Mathlib.Omega.{arith}
use lib.ListN.{length}
use Rattle.base_prelude.specs.Choice.{if_lt, if_eq}
use Rattle.base_prelude.specs.Walk.{Step, go, stop, walk}
use Rattle.base_prelude.proofs.Choice.{either, either-eq, if_lt-yes, if_lt-no, if_eq-yes, if_eq-no}
use Rattle.base_prelude.proofs.Walk.{walk-go, walk-stop, Ends, walk_ends}
use Rattle.base_limits.specs.Width.{data_limit}
use Rattle.base_limits.specs.declared.Width.{Width}
use Rattle.parse_lines.specs.Units.{unit_at}
use Rattle.parse_lines.specs.Lines.{line_kind}
use Rattle.parse_lines.specs.declared.Span.{Span}
use Rattle.parse_units.proofs.Bounds.{unit-order, unit-next, line-some}
use Rattle.res_data.specs.Sizes.{size_of, cursor_behind, add_line, next_of, next_at, measured, measure_step, measure_from, measure_of, length_of, length_in, address_of, first_cursor}
use Rattle.res_data.specs.declared.Cursor.{Cursor}
use Rattle.std.specs.Prelude.{Result, Ok, Err, Option, Some, None}

-- a length is not below a number
abbrev AtLeast : ℕ → Result ℕ ℕ → Type 0
AtLeast b (Ok n) = b ≤ n
AtLeast b (Err i) = Unit {0}

module _ (w : Width) (t : List ℕ) (long : length t ≡ 32768) where
  abbrev left : Cursor → ℕ
  left s = 4097 - s.at

  -- not smaller, and within the table
  abbrev From : ℕ → Cursor → Type 0
  From b s = (b ≤ s.size) × (s.at ≤ 4097)

  abbrev Onward : ℕ → Cursor → Result (Option Cursor) ℕ → Type 0
  Onward b s (Ok (Some y)) = From b y × (s.at < y.at)
  Onward b s (Err i) = Unit {0}
  Onward b s (Ok None) = Unit {0}

  next-onward : (end b : ℕ) (s : Cursor) → From b s → Onward b s (next_at w t end s)
  unfolding next_at next_of add_line cursor_behind
  next-onward end b s h =
      either-eq (Onward b s) (line_kind t (unit_at t s.at).word) 0 _ _ (λ _. tt) (λ d.
      either (Onward b s) (unit_at t s.at).word end _ _
      (λ _. either (Onward b s) (data_limit w - s.size) _ _ _ (λ _. tt) (λ l.
      let o = unit-order t s.at in
      let i : (unit_at t s.at).word < 4096 = line-some t (unit_at t s.at).word long d in
      let x : (unit_at t s.at).next ≤ 4097 = unit-next t s.at long (omega arith) in
      ((omega (arith, h.0), x), omega (arith, o.0, o.1, o.2))))
      (λ _. tt))

  step-ends : (b : ℕ) (s : Cursor) (r : Result (Option Cursor) ℕ) → From b s → Onward b s r → Ends (From b) (AtLeast b) left s (measured s r)
  step-ends b s (Ok (Some y)) h g = (g.0, omega (arith, g.1, g.0.1))
  step-ends b s (Err i) h g = tt
  step-ends b s (Ok None) h g = h.0

  -- the whole length is not below what a cursor has
  rest-least : (end fuel : ℕ) (s : Cursor) → s.at ≤ 4097 → left s < fuel → AtLeast s.size (walk (measure_step w t end) (Ok 0) fuel s)
  unfolding measure_step
  rest-least end fuel s a l =
      walk_ends (From s.size) (AtLeast s.size) left (λ (y : Cursor). measured y (next_at w t end y)) (Ok 0)
      (λ y h. step-ends s.size y (next_at w t end y) h (next-onward end s.size y h)) fuel s l (omega arith, a)

  -- the length of what stands before a token, and that of all
  abbrev Under : Result ℕ ℕ → Result ℕ ℕ → Type 0
  Under a b = AtLeast (length_in a) b

  module _ (word : ℕ) (s : Cursor) where
    abbrev u : Span
    u = unit_at t s.at

    abbrev k : ℕ
    k = line_kind t (unit_at t s.at).word

    over-end : (end : ℕ) → k ≡ 0 → measure_step w t end s ≡ stop (Ok s.size)
    unfolding measure_step next_at next_of
    over-end end e = ap (measured s) (if_eq-yes _ _ e)

    over-here : (k ≡ 0 → ⊥) → word ≤ u.word → measure_step w t word s ≡ stop (Ok s.size)
    unfolding measure_step next_at next_of
    over-here d l = ap (measured s) (if_eq-no _ _ d ∙ if_lt-no _ _ l)

    on-is : (end : ℕ) → (k ≡ 0 → ⊥) → u.word < end → next_at w t end s ≡ add_line w u k (size_of w t u k s.section s.size) s
    unfolding next_at next_of
    on-is end d l = if_eq-no _ _ d ∙ if_lt-yes _ _ l

    step_is : (end : ℕ) (r : Result (Option Cursor) ℕ) → next_at w t end s ≡ r → measure_step w t end s ≡ measured s r
    unfolding measure_step
    step_is end r e = ap (measured s) e

    walk-on : (end fuel : ℕ) (y : Cursor) → next_at w t end s ≡ Ok (Some y) → walk (measure_step w t end) (Ok 0) (suc fuel) s ≡ walk (measure_step w t end) (Ok 0) fuel y
    walk-on end fuel y e = walk-go (measure_step w t end) (Ok 0) fuel s y (step_is end (Ok (Some y)) e)

    -- a line that both count
    same_next : (fuel : ℕ) (r : Result (Option Cursor) ℕ) → next_at w t 4098 s ≡ r → next_at w t word s ≡ r → Onward s.size s r → left s < suc fuel
        → ((y : Cursor) → y.at ≤ 4097 → left y < fuel → Under (walk (measure_step w t word) (Ok 0) fuel y) (walk (measure_step w t 4098) (Ok 0) fuel y))
        → Under (walk (measure_step w t word) (Ok 0) (suc fuel) s) (walk (measure_step w t 4098) (Ok 0) (suc fuel) s)
    unfolding length_in
    same_next fuel (Ok (Some y)) e q o l f =
        subst (λ (x : Result ℕ ℕ). Under x (walk (measure_step w t 4098) (Ok 0) (suc fuel) s)) (sym (walk-on word fuel y q))
        (subst (λ (x : Result ℕ ℕ). Under (walk (measure_step w t word) (Ok 0) fuel y) x) (sym (walk-on 4098 fuel y e)) (f y o.0.1 (omega (arith, o.0.1, o.1))))
    same_next fuel (Err i) e q o l f =
        subst (λ (x : Result ℕ ℕ). Under (walk (measure_step w t word) (Ok 0) (suc fuel) s) x) (sym (walk-stop (measure_step w t 4098) (Ok 0) fuel s (Err i) (step_is 4098 (Err i) e))) tt
    same_next fuel (Ok None) e q o l f =
        subst (λ (x : Result ℕ ℕ). Under x (walk (measure_step w t 4098) (Ok 0) (suc fuel) s)) (sym (walk-stop (measure_step w t word) (Ok 0) fuel s (Ok s.size) (step_is word (Ok None) q)))
        (subst (λ (x : Result ℕ ℕ). Under (Ok s.size) x) (sym (walk-stop (measure_step w t 4098) (Ok 0) fuel s (Ok s.size) (step_is 4098 (Ok None) e))) (omega arith))

  lengths-under : (word fuel : ℕ) (s : Cursor) → s.at ≤ 4097 → left s < fuel
      → Under (walk (measure_step w t word) (Ok 0) fuel s) (walk (measure_step w t 4098) (Ok 0) fuel s)
  unfolding length_in
  lengths-under word zero s a l = absurd (not-suc-le-zero l)
  lengths-under word (suc fuel) s a l =
      elim (ℕ_discrete (line_kind t (unit_at t s.at).word) 0) [
        | yes e ↦
            subst (λ (x : Result ℕ ℕ). Under x (walk (measure_step w t 4098) (Ok 0) (suc fuel) s)) (sym (walk-stop (measure_step w t word) (Ok 0) fuel s _ (over-end word s word e)))
            (rest-least 4098 (suc fuel) s a l)
        | no d ↦
            elim (dec_lt (unit_at t s.at).word word) [
              | no g ↦
                  subst (λ (x : Result ℕ ℕ). Under x (walk (measure_step w t 4098) (Ok 0) (suc fuel) s)) (sym (walk-stop (measure_step w t word) (Ok 0) fuel s _ (over-here word s d (omega arith))))
                  (rest-least 4098 (suc fuel) s a l)
              | yes g ↦
                  let i : (unit_at t s.at).word < 4096 = line-some t (unit_at t s.at).word long d in
                  same_next word s fuel (next_at w t 4098 s) refl (on-is word s word d g ∙ sym (on-is word s 4098 d (omega arith))) (next-onward 4098 s.size s (omega arith, a)) l
                  (λ y b c. lengths-under word fuel y b c)
            ]
      ]

  measures-under : (word : ℕ) → Under (measure_of w t word) (measure_of w t 4098)
  unfolding measure_of measure_from
  measures-under word = lengths-under word (suc (length t)) first_cursor (omega arith) (omega arith)

  -- an address is within the length of data
  pub address-within : (word size : ℕ) → length_of w t ≡ Ok size → address_of w t word ≤ size
  unfolding address_of
  address-within word size e = subst (λ (x : Result ℕ ℕ). AtLeast (length_in (measure_of w t word)) x) e (measures-under word)
