-- The rows of the statement table are read back: row m is `row_of`, and behind the rows stand zeros.
-- Assumes nothing.
use mathlib.Core.Path.{◌≡◌, refl, sym, ◌∙◌, ap, ap₂, subst}
use mathlib.Core.Bool.{Bool}
use mathlib.Core.List.{List, [], ◌∷◌, ◌++◌, append_assoc}
use Prim.Native.Nat.{ℕ, zero, suc, ◌+◌, ◌*◌, ◌-◌, ◌≤◌, ◌<◌, min}
use native.Mathlib.Omega.{arith}
use lib.ListN.{length, take, drop, get_or, replicate, length-append, length-drop, length-replicate}
use lib.Seq.{take_at, drop_at, drop-drop}
use Rattle.base_prelude.specs.Lists.{zeros}
use Rattle.prog_tables.specs.Statement.{Row, row_at, row_from, encode, slot_words}
use Rattle.prog_tables.proofs.Rows.{Fits, row-again}
use Rattle.prog_tables.specs.declared.Operand.{Operand}
use Rattle.res_rows.specs.Rows.{row_of, put_row, rows_below, statement_table}

slots-long : (n : ℕ) (os : List Operand) → length (slot_words n os) ≡ n + n
unfolding slot_words
slots-long zero os = refl
slots-long (suc n) [] = let h = slots-long n [] in omega (arith, h)
slots-long (suc n) (o ∷ os) = let h = slots-long n os in omega (arith, h)

pub encode-long : (r : Row) → length (encode r) ≡ 27
unfolding encode
encode-long r = let h = slots-long 8 r.operands in omega (arith, h)

-- rows one behind the other
pub rows : (ℕ → Row) → ℕ → List ℕ
rows g zero = []
rows g (suc n) = rows g n ++ encode (g n)

pub rows_long : (g : ℕ → Row) (n : ℕ) → length (rows g n) ≡ n * 27
unfolding rows
rows_long g zero = refl
rows_long g (suc n) =
    let h = rows_long g n in
    length-append (rows g n) (encode (g n)) ∙ omega (arith, h, encode-long (g n))

-- row m stands behind those before it
pub rows_split : (g : ℕ → Row) (m d : ℕ) → (ys : List ℕ) × (rows g (m + suc d) ≡ rows g m ++ (encode (g m) ++ ys))
unfolding rows
rows_split g m zero =
    let e : m + 1 ≡ suc m = omega arith in
    ([], ap (rows g) e ∙ ap (λ (x : List ℕ). rows g m ++ x) (sym (append-nil-of (encode (g m)))))
  where
    append-nil-of : (x : List ℕ) → x ++ [] ≡ x
    append-nil-of x = mathlib.Core.List.append-nil x
rows_split g m (suc d) =
    let p = rows_split g m d in
    let e : m + suc (suc d) ≡ suc (m + suc d) = omega arith in (
      p.0 ++ encode (g (m + suc d)),
      ap (rows g) e ∙ ap (λ (x : List ℕ). x ++ encode (g (m + suc d))) p.1
          ∙ append_assoc (rows g m) (encode (g m) ++ p.0) (encode (g (m + suc d)))
          ∙ ap (λ (x : List ℕ). rows g m ++ x) (append_assoc (encode (g m)) p.0 (encode (g (m + suc d)))),
    )

module _ (same : ℕ → ℕ → Bool) (t k y : List ℕ) (l : ℕ) (w z : List ℕ) (c : ℕ) (out : List ℕ) where
  abbrev g : ℕ → Row
  g = row_of same t k y l w z c

  below-is : (n : ℕ) → n * 27 ≤ length out → rows_below n same t k y l w z c out ≡ rows (row_of same t k y l w z c) n ++ drop (n * 27) out
  unfolding rows_below rows put_row
  below-is zero h = refl
  below-is (suc n) h =
      let q = below-is n (omega arith) in
      let e : n * 27 + 27 ≡ suc n * 27 = omega arith in
      let a = rows_long (row_of same t k y l w z c) n in
      ap (λ (x : List ℕ). take (n * 27) x ++ encode (row_of same t k y l w z c n) ++ drop (n * 27 + 27) x) q
      ∙ ap₂ (λ (x u : List ℕ). x ++ encode (row_of same t k y l w z c n) ++ u)
      (take_at (rows (row_of same t k y l w z c) n) (drop (n * 27) out) (n * 27) a)
      (sym (drop-drop 27 (n * 27) (rows (row_of same t k y l w z c) n ++ drop (n * 27) out))
      ∙ ap (drop 27) (drop_at (rows (row_of same t k y l w z c) n) (drop (n * 27) out) (n * 27) a)
      ∙ drop-drop 27 (n * 27) out ∙ ap (λ (i : ℕ). drop i out) e)

  module _ (room : c * 27 ≤ length out) where
    pub table_is : statement_table same t k y l w z c out ≡ rows (row_of same t k y l w z c) c ++ drop (c * 27) out
    unfolding statement_table
    table_is = below-is c room

    -- row m of the finished table
    pub row_back : (m : ℕ) → m < c → Fits (row_of same t k y l w z c m) → row_at (statement_table same t k y l w z c out) m ≡ row_of same t k y l w z c m
    row_back m h f =
        let e : m + suc (c - suc m) ≡ c = omega arith in
        let p = rows_split (row_of same t k y l w z c) m (c - suc m) in
        ap (λ (x : List ℕ). row_at x m)
        (table_is ∙ ap (λ (i : ℕ). rows (row_of same t k y l w z c) i ++ drop (c * 27) out) (sym e)
        ∙ ap (λ (x : List ℕ). x ++ drop (c * 27) out) p.1
        ∙ append_assoc (rows (row_of same t k y l w z c) m) (encode (row_of same t k y l w z c m) ++ p.0) (drop (c * 27) out)
        ∙ ap (λ (x : List ℕ). rows (row_of same t k y l w z c) m ++ x) (append_assoc (encode (row_of same t k y l w z c m)) p.0 (drop (c * 27) out)))
        ∙ row-again (rows (row_of same t k y l w z c) m) (p.0 ++ drop (c * 27) out) m (row_of same t k y l w z c m) f (rows_long (row_of same t k y l w z c) m)

    pub table-long : length (statement_table same t k y l w z c out) ≡ length out
    table-long =
        ap length table_is ∙ length-append (rows (row_of same t k y l w z c) c) (drop (c * 27) out)
        ∙ omega (arith, rows_long (row_of same t k y l w z c) c, length-drop (c * 27) out)

    pub table-behind : drop (c * 27) (statement_table same t k y l w z c out) ≡ drop (c * 27) out
    table-behind =
        ap (drop (c * 27)) table_is ∙ drop_at (rows (row_of same t k y l w z c) c) (drop (c * 27) out) (c * 27) (rows_long (row_of same t k y l w z c) c)
