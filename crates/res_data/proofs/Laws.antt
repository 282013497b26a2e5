-- What later stages use: data stays within its limit, and the image within its buffer.
-- Assumes nothing.
use mathlib.Core.Path.{◌≡◌, refl, ◌∙◌, subst}
use mathlib.Core.List.{List}
use Prim.Native.Nat.{ℕ, suc, ◌-◌, ◌≤◌}
use native.Mathlib.Omega.{arith}
use lib.ListN.{length}
use Rattle.base_prelude.proofs.Choice.{either, either-eq}
use Rattle.base_prelude.proofs.Walk.{Kept, walk_kept}
use Rattle.base_limits.specs.Width.{data_limit}
use Rattle.base_limits.specs.declared.Width.{Width}
use Rattle.parse_lines.specs.Units.{unit_at}
use Rattle.parse_lines.specs.Lines.{line_kind}
use Rattle.res_data.specs.Sizes.{cursor_behind, add_line, next_of, next_at, measured, measure_step, measure_from, measure_of, length_in, address_of, first_cursor}
use Rattle.res_data.specs.Image.{Laying, laying, laid, put_unit, lay_step, lay_from, image_of}
use Rattle.res_data.specs.declared.Cursor.{Cursor}
use Rattle.std.specs.Prelude.{Result, Ok, Err, Option, Some, None}
use Rattle.res_data.proofs.Walks.{unit-long}

abbrev Low : Width → Cursor → Type 0
Low w s = s.size ≤ data_limit w

abbrev LengthLow : Width → Result ℕ ℕ → Type 0
LengthLow w (Ok n) = n ≤ data_limit w
LengthLow w (Err i) = Unit {0}

abbrev NextLow : Width → Result (Option Cursor) ℕ → Type 0
NextLow w (Ok (Some y)) = Low w y
NextLow w (Err i) = Unit {0}
NextLow w (Ok None) = Unit {0}

next_low : (w : Width) (t : List ℕ) (end : ℕ) (s : Cursor) → Low w s → NextLow w (next_at w t end s)
unfolding next_at next_of add_line cursor_behind
next_low w t end s h =
    either-eq (NextLow w) (line_kind t (unit_at t s.at).word) 0 _ _ (λ _. tt) (λ _.
    either (NextLow w) (unit_at t s.at).word end _ _
    (λ _. either (NextLow w) (data_limit w - s.size) _ _ _ (λ _. tt) (λ l. omega arith)) (λ _. tt))

step-low : (w : Width) (s : Cursor) (r : Result (Option Cursor) ℕ) → Low w s → NextLow w r → Kept (Low w) (LengthLow w) (measured s r)
step-low w s (Ok (Some y)) h l = l
step-low w s (Err i) h l = tt
step-low w s (Ok None) h l = h

measured-low : (w : Width) (t : List ℕ) (end : ℕ) → LengthLow w (measure_of w t end)
unfolding measure_of measure_from measure_step
measured-low w t end =
    walk_kept (Low w) (LengthLow w) _ (Ok 0) (omega arith) (λ s h. step-low w s (next_at w t end s) h (next_low w t end s h))
    (suc (length t)) first_cursor (omega arith)

-- a length is within the limit of data
pub measure-low : (w : Width) (t : List ℕ) (end n : ℕ) → measure_of w t end ≡ Ok n → n ≤ data_limit w
measure-low w t end n e = subst (LengthLow w) e (measured-low w t end)

in-low : (w : Width) (m : Result ℕ ℕ) → LengthLow w m → length_in m ≤ data_limit w
unfolding length_in
in-low w (Ok n) h = h
in-low w (Err i) h = omega arith

-- and so is an address
pub address-low : (w : Width) (t : List ℕ) (word : ℕ) → address_of w t word ≤ data_limit w
unfolding address_of
address-low w t word = in-low w (measure_of w t word) (measured-low w t word)

laid-long : (n : ℕ) (r : Result (Option Cursor) ℕ) (x out : List ℕ) → length x ≡ n → length out ≡ n
    → Kept (λ (m : Laying). length m.image ≡ n) (λ (y : List ℕ). length y ≡ n) (laid r x out)
laid-long n (Ok (Some y)) x out h l = h
laid-long n (Err i) x out h l = l
laid-long n (Ok None) x out h l = l

-- the image is as long as its buffer
pub image-long : (w : Width) (s t out : List ℕ) → length (image_of w s t out) ≡ length out
unfolding image_of lay_from lay_step
image-long w s t out =
    walk_kept (λ (m : Laying). length m.image ≡ length out) (λ (y : List ℕ). length y ≡ length out) _ out refl
    (λ m h. laid-long (length out) (next_at w t 4098 m.cursor) (put_unit w s t m) m.image (unit-long w s t m ∙ h) h)
    (suc (length t)) (laying first_cursor out) refl
