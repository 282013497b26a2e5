-- Rows of one width, each made anew from what it held, one after the other: each is read back, and what lies behind is as it was.
-- Assumes nothing.
use mathlib.Core.Path.{◌≡◌, refl, sym, ◌∙◌, ap, subst}
use mathlib.Core.List.{List, ◌++◌}
use Prim.Native.Nat.{ℕ, zero, suc, ◌+◌, ◌*◌, ◌-◌, ◌≤◌, ◌<◌}
use native.Mathlib.Nat.{mul-le-mul_right, suc-mul}
use native.Mathlib.Decide.{ℕ_discrete}
use native.Mathlib.Omega.{arith}
use lib.ListN.{length, take, drop, length-append, length-take, length-drop, take-append-drop}
use lib.Seq.{length-take-le, take-append-le, drop-append-le, take_at, drop_at, drop-drop}

module _ (k : ℕ) (f : ℕ → List ℕ → List ℕ) (keeps : (j : ℕ) (x : List ℕ) → length x ≡ k → length (f j x) ≡ k) where
  abbrev pub row_of : ℕ → List ℕ → List ℕ
  row_of j out = take k (drop (j * k) out)

  abbrev pub put_row : ℕ → List ℕ → List ℕ
  put_row j out = take (j * k) out ++ (f j (take k (drop (j * k) out)) ++ drop k (drop (j * k) out))

  unfoldable pub rows_from : ℕ → ℕ → List ℕ → List ℕ
  rows_from zero j out = out
  rows_from (suc left) j out = rows_from left (j + 1) (put_row j out)

  rows_apart : (i j : ℕ) → i < j → i * k + k ≤ j * k
  rows_apart i j h = omega (arith, mul-le-mul_right {m = suc i} {n = j} k h, suc-mul i k)

  row-length : (j : ℕ) (out : List ℕ) → j * k + k ≤ length out → length (row_of j out) ≡ k
  row-length j out h = omega (arith, length-take k (drop (j * k) out), length-drop (j * k) out)

  module _ (j : ℕ) (out : List ℕ) (h : j * k + k ≤ length out) where
    front : length (take (j * k) out) ≡ j * k
    front = length-take-le (j * k) out (omega arith)

    made : length (f j (row_of j out)) ≡ k
    made = keeps j (row_of j out) (row-length j out h)

    put-long : length (put_row j out) ≡ length out
    put-long =
        omega (
          arith,
          length-append (take (j * k) out) (f j (row_of j out) ++ drop k (drop (j * k) out)),
          length-append (f j (row_of j out)) (drop k (drop (j * k) out)),
          front,
          made,
          length-drop k (drop (j * k) out),
          length-drop (j * k) out,
        )

    put_same : row_of j (put_row j out) ≡ f j (row_of j out)
    put_same =
        ap (take k) (drop_at (take (j * k) out) (f j (row_of j out) ++ drop k (drop (j * k) out)) (j * k) front)
        ∙ take_at (f j (row_of j out)) (drop k (drop (j * k) out)) k made

    -- a row before it
    row-front : (i : ℕ) (xs : List ℕ) → i < j → row_of i (take (j * k) out ++ xs) ≡ row_of i (take (j * k) out)
    row-front i xs g =
        let a : i * k + k ≤ j * k = rows_apart i j g in
        ap (take k) (drop-append-le (i * k) (take (j * k) out) xs (omega (arith, front)))
        ∙ take-append-le k (drop (i * k) (take (j * k) out)) xs (omega (arith, front, length-drop (i * k) (take (j * k) out)))

    put-before : (i : ℕ) → i < j → row_of i (put_row j out) ≡ row_of i out
    put-before i g =
        row-front i _ g ∙ sym (row-front i (drop (j * k) out) g) ∙ ap (row_of i) (take-append-drop (j * k) out)

    put-behind : drop (j * k + k) (put_row j out) ≡ drop (j * k + k) out
    put-behind =
        sym (drop-drop k (j * k) (put_row j out))
        ∙ ap (drop k) (drop_at (take (j * k) out) (f j (row_of j out) ++ drop k (drop (j * k) out)) (j * k) front)
        ∙ drop_at (f j (row_of j out)) (drop k (drop (j * k) out)) k made ∙ drop-drop k (j * k) out

    -- from a place behind it
    drop-after : (n : ℕ) → j * k + k ≤ n → drop n (put_row j out) ≡ drop n out
    drop-after n g =
        let e : j * k + k + (n - (j * k + k)) ≡ n = omega arith in
        sym (drop-drop (n - (j * k + k)) (j * k + k) (put_row j out) ∙ ap (λ (m : ℕ). drop m (put_row j out)) e)
        ∙ ap (drop (n - (j * k + k))) put-behind ∙ drop-drop (n - (j * k + k)) (j * k + k) out ∙ ap (λ (m : ℕ). drop m out) e

  room-here : (j left : ℕ) (out : List ℕ) → (j + suc left) * k ≤ length out → j * k + k ≤ length out
  room-here j left out h = omega (arith, rows_apart j (j + suc left) (omega arith))

  room_next : (j left : ℕ) (out : List ℕ) → (j + suc left) * k ≤ length out → (j + 1 + left) * k ≤ length (put_row j out)
  room_next j left out h =
      let e : j + 1 + left ≡ j + suc left = omega arith in
      omega (arith, put-long j out (room-here j left out h), ap (λ (n : ℕ). n * k) e)

  pub rows_long : (left j : ℕ) (out : List ℕ) → (j + left) * k ≤ length out → length (rows_from left j out) ≡ length out
  unfolding rows_from
  rows_long zero j out h = refl
  rows_long (suc left) j out h =
      rows_long left (j + 1) (put_row j out) (room_next j left out h) ∙ put-long j out (room-here j left out h)

  rows_before : (left j i : ℕ) (out : List ℕ) → (j + left) * k ≤ length out → i < j → row_of i (rows_from left j out) ≡ row_of i out
  unfolding rows_from
  rows_before zero j i out h g = refl
  rows_before (suc left) j i out h g =
      rows_before left (j + 1) i (put_row j out) (room_next j left out h) (omega arith) ∙ put-before j out (room-here j left out h) i g

  pub row_is : (left j i : ℕ) (out : List ℕ) → (j + left) * k ≤ length out → j ≤ i → i < j + left → row_of i (rows_from left j out) ≡ f i (row_of i out)
  unfolding rows_from
  row_is zero j i out h a b = let z : ⊥ = omega arith in absurd z
  row_is (suc left) j i out h a b =
      elim (ℕ_discrete i j) [
        | yes e ↦ subst (λ (n : ℕ). row_of n (rows_from left (j + 1) (put_row j out)) ≡ f n (row_of n out)) (sym e) (rows_before left (j + 1) j (put_row j out) (room_next j left out h) (omega arith) ∙ put_same j out (room-here j left out h))
        | no e ↦ row_is left (j + 1) i (put_row j out) (room_next j left out h) (omega arith) (omega arith) ∙ ap (λ (x : List ℕ). f i (take k x)) (drop-after j out (room-here j left out h) (i * k) (rows_apart j i (omega arith)))
      ]

  pub rows_behind : (left j : ℕ) (out : List ℕ) → (j + left) * k ≤ length out → drop ((j + left) * k) (rows_from left j out) ≡ drop ((j + left) * k) out
  unfolding rows_from
  rows_behind zero j out h = refl
  rows_behind (suc left) j out h =
      let e : j + 1 + left ≡ j + suc left = omega arith in
      ap (λ (n : ℕ). drop (n * k) (rows_from left (j + 1) (put_row j out))) (sym e) ∙ rows_behind left (j + 1) (put_row j out) (room_next j left out h)
      ∙ ap (λ (n : ℕ). drop (n * k) (put_row j out)) e
      ∙ drop-after j out (room-here j left out h) ((j + suc left) * k) (rows_apart j (j + suc left) (omega arith))
