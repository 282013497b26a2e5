-- Token rows written and read back.
-- Assumes nothing.
use mathlib.Core.Path.{◌≡◌, refl, sym, ◌∙◌, ap, subst}
use mathlib.Core.List.{List, [], ◌∷◌, ◌++◌, append_assoc, append-nil}
use Prim.Native.Nat.{ℕ, zero, suc, ◌+◌, ◌*◌, ◌≤◌, ◌<◌}
use native.Mathlib.Nat.{le_of_suc-le-suc, not-suc-le-zero}
use native.Mathlib.Numerals.{add-one, add-two, add-three, add-four, add_five, add_six, add_seven}
use native.Mathlib.Omega.{arith}
use lib.ListN.{length, get_or, take, drop, set, length-append, length-set, get_or-append}
use lib.Seq.{sets-eq, take_at, length-take-le, get_or-take, get_or-append-add}
use Rattle.lex_source.specs.Token.{Token}
use Rattle.lex_source.specs.Rows.{row_of, rows_of}
use Rattle.lex_source.specs.Filling.{words_of, put_row}
use Rattle.lex_source.specs.declared.Row.{Row}

pub take_long : (n : ℕ) (l : List ℕ) → n ≤ length l → n ≡ length (take n l)
take_long n l h = sym (length-take-le n l h)

-- the eight stores of `put_row`
pub row_put : (t : List ℕ) (n : ℕ) (r : Row) → n * 8 + 8 ≤ length t
    → set (set (set (set (set (set (set (set t (n * 8) r.kind) (n * 8 + 1) r.first) (n * 8 + 2) r.next) (n * 8 + 3) r.value) (n * 8 + 4) r.name) (n * 8 + 5) r.word) (n * 8 + 6) r.hash) (n * 8 + 7) 0
    ≡ put_row t n r
unfolding put_row
row_put t n r h = rw (add-one, add-two, add-three, add-four, add_five, add_six, add_seven) (sets-eq (words_of r) t (n * 8) h)

pub length-put : (t : List ℕ) (n : ℕ) (r : Row) → n * 8 + 8 ≤ length t → length (put_row t n r) ≡ length t
length-put t n r h = ap length (sym (row_put t n r h)) ∙ simp length-set

-- the rows up to one that was put
pub taken-put : (t : List ℕ) (n : ℕ) (r : Row) → n * 8 + 8 ≤ length t → take ((n + 1) * 8) (put_row t n r) ≡ take (n * 8) t ++ words_of r
unfolding put_row
taken-put t n r h =
    take_at (take (n * 8) t ++ words_of r) (drop (n * 8 + 8) t) ((n + 1) * 8)
    (length-append (take (n * 8) t) (words_of r) ∙ ap (λ (m : ℕ). m + 8) (length-take-le (n * 8) t (omega arith)) ∙ eight n)
  where
    eight : (n : ℕ) → n * 8 + 8 ≡ (n + 1) * 8
    eight n = omega arith

pub length-row : (t : Token) → length (row_of t) ≡ 8
unfolding row_of
length-row t = refl

pub length-rows : (ts : List Token) → length (rows_of ts) ≡ length ts * 8
unfolding rows_of
length-rows [] = refl
length-rows (t ∷ ts) =
    let e : length (rows_of ts) ≡ length ts * 8 = length-rows ts in
    length-append (row_of t) (rows_of ts) ∙ omega (arith, length-row t)

pub rows_more : (ts : List Token) (t : Token) → rows_of (ts ++ (t ∷ [])) ≡ rows_of ts ++ row_of t
unfolding rows_of
rows_more [] t = append-nil (row_of t)
rows_more (x ∷ ts) t = ap (λ (l : List ℕ). row_of x ++ l) (rows_more ts t) ∙ sym (append_assoc (row_of x) (rows_of ts) (row_of t))

-- word j of row k is that of token k
pub row_read : (d : Token) (ts : List Token) (k j : ℕ) → k < length ts → j < 8 → get_or (rows_of ts) (k * 8 + j) 0 ≡ get_or (row_of (get_or ts k d)) j 0
unfolding rows_of
row_read d [] k j h g = absurd (not-suc-le-zero h)
row_read d (t ∷ ts) zero j h g =
    let e : 0 * 8 + j ≡ j = omega arith in
    ap (λ (i : ℕ). get_or (row_of t ++ rows_of ts) i 0) e ∙ get_or-append (row_of t) (rows_of ts) 0 j (omega (arith, length-row t))
row_read d (t ∷ ts) (suc k) j h g =
    let e : suc k * 8 + j ≡ 8 + (k * 8 + j) = omega arith in
    ap (λ (i : ℕ). get_or (row_of t ++ rows_of ts) i 0) (e ∙ ap (λ (m : ℕ). m + (k * 8 + j)) (sym (length-row t)))
    ∙ get_or-append-add (row_of t) (rows_of ts) (k * 8 + j) 0 ∙ row_read d ts k j (le_of_suc-le-suc h) g

-- the same in a table whose front the rows are
pub table-read : (d : Token) (ts : List Token) (t : List ℕ) (n k j : ℕ) → take (n * 8) t ≡ rows_of ts → n ≡ length ts → k < n → j < 8
    → get_or t (k * 8 + j) 0 ≡ get_or (row_of (get_or ts k d)) j 0
table-read d ts t n k j e q h g =
    sym (get_or-take (n * 8) t (k * 8 + j) 0 (omega arith)) ∙ ap (λ (l : List ℕ). get_or l (k * 8 + j) 0) e ∙ row_read d ts k j (subst (λ (m : ℕ). k < m) q h) g
