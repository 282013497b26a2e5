-- Rows and labels are what reads of their words give.
-- Assumes nothing.
use mathlib.Core.Path.{◌≡◌, refl, sym, ◌∙◌, ap, fun_ext}
use mathlib.Core.List.{List, [], ◌∷◌, ◌++◌}
use Prim.Native.Nat.{ℕ, zero, suc, ◌+◌, ◌-◌, ◌*◌, ◌<◌, ◌≤◌}
use native.Mathlib.Decide.{dec_lt}
use native.Mathlib.Omega.{arith}
use lib.ListN.{length, get_or, take, drop, length-drop, get_or-eq_default}
use lib.Seq.{take-append-le, drop-append-le}
use Rattle.base_prelude.specs.Lists.{zeros, overlay}
use Rattle.prog_tables.specs.Layout.{statement_row}
use Rattle.prog_tables.specs.Statement.{Row, operand_of, operand_at, slots, used_by, row_from, row_at}
use Rattle.prog_tables.specs.Label.{Label, label_at}
use Rattle.file_views.proofs.Zeros.{over_zeros, over-at}

-- the row whose first word is at a place, g giving the words
row_by : (ℕ → ℕ) → ℕ → Row
row_by g at =
    record {
      kind = g at;
      func = g (at + 1);
      scope = g (at + 2);
      up = g (at + 3);
      a = g (at + 4);
      b = g (at + 5);
      expr = g (at + 6);
      callee = g (at + 7);
      count = g (at + 8);
      address = operand_of (g (at + 9)) (g (at + 9 + 1));
      operands =
          take (used_by (g at) (g (at + 6)) (g (at + 8)))
          (operand_of (g (at + 11)) (g (at + 11 + 1)) ∷ operand_of (g (at + 13)) (g (at + 13 + 1)) ∷ operand_of (g (at + 15)) (g (at + 15 + 1))
          ∷ operand_of (g (at + 17)) (g (at + 17 + 1)) ∷ operand_of (g (at + 19)) (g (at + 19 + 1)) ∷ operand_of (g (at + 21)) (g (at + 21 + 1))
          ∷ operand_of (g (at + 23)) (g (at + 23 + 1)) ∷ operand_of (g (at + 25)) (g (at + 25 + 1)) ∷ []);
    }

row-by : (t : List ℕ) (at : ℕ) → row_from t at ≡ row_by (λ i. get_or t i 0) at
unfolding row_by row_from slots operand_at
row-by t at = refl

-- tables that read alike have the same rows
pub rows_same : (s t : List ℕ) → ((i : ℕ) → get_or s i 0 ≡ get_or t i 0) → row_at s ≡ row_at t
unfolding row_at
rows_same s t h =
    fun_ext (λ n. row-by s (n * statement_row) ∙ ap (λ (g : ℕ → ℕ). row_by g (n * statement_row)) (fun_ext h) ∙ sym (row-by t (n * statement_row)))

-- label tables that read alike and have the same names have the same labels
label_by : (ℕ → ℕ) → ℕ → List ℕ → Label
label_by g n name =
    record { kind = g (n * 4); number = g (n * 4 + 1); arguments = g (n * 4 + 2); size = g (n * 4 + 3); name = name }

label-by : (t names : List ℕ) (n : ℕ) → label_at t names n ≡ label_by (λ i. get_or t i 0) n (take (get_or t (n * 4 + 3) 0) (drop (n * 64) names))
unfolding label_by label_at
label-by t names n = refl

module _ (s t m n : List ℕ) (h : (i : ℕ) → get_or s i 0 ≡ get_or t i 0)
    (named : (j : ℕ) → take (get_or t (j * 4 + 3) 0) (drop (j * 64) m) ≡ take (get_or t (j * 4 + 3) 0) (drop (j * 64) n)) where
  pub labels-same : label_at s m ≡ label_at t n
  labels-same =
      fun_ext
      (λ j. label-by s m j
      ∙ ap (λ (g : ℕ → ℕ). label_by g j (take (g (j * 4 + 3)) (drop (j * 64) m))) (fun_ext h)
      ∙ ap (label_by (λ i. get_or t i 0) j) (named j)
      ∙ sym (label-by t n j))

-- names with zeros behind them, of k labels with names of at most 64 bytes
module _ (l names : List ℕ) (k m : ℕ) (few : length l ≡ k * 4) (long : length names ≡ k * 64) (room : length names ≤ m)
    (small : (j : ℕ) → j < k → get_or l (j * 4 + 3) 0 ≤ 64) where
  pub names_same : (j : ℕ) → take (get_or l (j * 4 + 3) 0) (drop (j * 64) (overlay names (zeros m))) ≡ take (get_or l (j * 4 + 3) 0) (drop (j * 64) names)
  names_same j =
      elim (dec_lt j k) [
        | yes p ↦
            let q : j * 64 ≤ length names = omega arith in
            let s : get_or l (j * 4 + 3) 0 ≤ length (drop (j * 64) names) = omega (arith, length-drop (j * 64) names, small j p) in
            rw (over_zeros names m room, drop-append-le (j * 64) names (zeros (m - length names)) q, take-append-le (get_or l (j * 4 + 3) 0) (drop (j * 64) names) (zeros (m - length names)) s)
        | no p ↦
            let z : get_or l (j * 4 + 3) 0 ≡ 0 = get_or-eq_default l 0 (omega arith) in
            rw z
      ]
