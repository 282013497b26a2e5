-- The skeleton read back: its length, the words of each row, and zeros behind the last.
-- Assumes nothing.
use mathlib.Core.Path.{◌≡◌, refl, sym, ◌∙◌, ap}
use mathlib.Core.List.{List, ◌++◌}
use Prim.Native.Nat.{ℕ, zero, suc, ◌+◌, ◌*◌, ◌-◌, ◌≤◌, ◌<◌}
use native.Mathlib.Decide.{dec_lt, ℕ_discrete}
use native.Mathlib.Nat.{add-zero, not-suc-le-zero}
use native.Mathlib.Omega.{arith}
use lib.ListN.{length, get_or, take, drop, length-append, length-replicate, get_or-replicate, get_or-append, get_or-eq_default}
use lib.Seq.{length-take-le, get_or-take, get_or-drop, get_or-append-add}
use Rattle.base_prelude.specs.Lists.{zeros}
use Rattle.prog_tables.specs.Layout.{statement_words}
use Rattle.prog_tables.specs.Statement as statement
use Rattle.parse_units.specs.Outline.{row_at}
use Rattle.res_skeleton.specs.Skeleton.{parameters_of, bare, statement_of, words_of, put_row, rows_in, skeleton_of, token_of, next_of}
use Rattle.res_skeleton.specs.declared.SkeletonRow.{SkeletonRow}
use Rattle.res_skeleton.proofs.Cases.{length-put}

length-rows : (k x : List ℕ) (c : ℕ) → c ≤ 1024 → length k ≡ 27648 → length (rows_in k x c) ≡ 27648
unfolding rows_in
length-rows k x zero h l = l
length-rows k x (suc n) h l = length-put (rows_in k x n) n (statement_of x n) h (length-rows k x n (omega arith) l)

length-zeros : (n : ℕ) → length (zeros n) ≡ n
length-zeros n = length-replicate {A = ℕ} n 0

pub length-skeleton : (x : List ℕ) (c : ℕ) → c ≤ 1024 → length (skeleton_of x c) ≡ 27648
unfolding skeleton_of
length-skeleton x c h = length-rows (zeros statement_words) x c h (length-zeros statement_words)

-- ---- a word of a table in which a row was put

module _ (k : List ℕ) (n : ℕ) (r : SkeletonRow) (h : n < 1024) (l : length k ≡ 27648) where
  front : length (take (n * 27) k) ≡ n * 27
  front = length-take-le (n * 27) k (omega arith)

  head : length (take (n * 27) k ++ words_of r) ≡ n * 27 + 11
  head = length-append (take (n * 27) k) (words_of r) ∙ ap (λ (m : ℕ). m + 11) front

  -- before the row
  put-before : (i : ℕ) → i < n * 27 → get_or (put_row k n r) i 0 ≡ get_or k i 0
  unfolding put_row
  put-before i g =
      get_or-append (take (n * 27) k ++ words_of r) (drop (n * 27 + 11) k) 0 i (omega (arith, head))
      ∙ get_or-append (take (n * 27) k) (words_of r) 0 i (omega (arith, front)) ∙ get_or-take (n * 27) k i 0 g

  -- in it
  put_same : (j : ℕ) → j < 11 → get_or (put_row k n r) (n * 27 + j) 0 ≡ get_or (words_of r) j 0
  unfolding put_row
  put_same j g =
      get_or-append (take (n * 27) k ++ words_of r) (drop (n * 27 + 11) k) 0 (n * 27 + j) (omega (arith, head))
      ∙ ap (λ (m : ℕ). get_or (take (n * 27) k ++ words_of r) (m + j) 0) (sym front) ∙ get_or-append-add (take (n * 27) k) (words_of r) j 0

  -- behind it
  put-behind : (i : ℕ) → n * 27 + 11 ≤ i → get_or (put_row k n r) i 0 ≡ get_or k i 0
  unfolding put_row
  put-behind i g =
      let e : i ≡ length (take (n * 27) k ++ words_of r) + (i - (n * 27 + 11)) = omega (arith, head) in
      let q : n * 27 + 11 + (i - (n * 27 + 11)) ≡ i = omega arith in
      ap (λ (m : ℕ). get_or (take (n * 27) k ++ words_of r ++ drop (n * 27 + 11) k) m 0) e
      ∙ get_or-append-add (take (n * 27) k ++ words_of r) (drop (n * 27 + 11) k) (i - (n * 27 + 11)) 0
      ∙ get_or-drop (n * 27 + 11) k (i - (n * 27 + 11)) 0 ∙ ap (λ (m : ℕ). get_or k m 0) q

-- ---- the rows

zero_word : (n i : ℕ) → get_or (zeros n) i 0 ≡ 0
zero_word n i =
    elim (dec_lt i n) [
      | yes h ↦ get_or-replicate n i 0 0 h
      | no h ↦ get_or-eq_default (zeros n) 0 (omega (arith, length-zeros n))
    ]

-- words 11 to 26 of every row, and all words behind the last, are as they were
rows_behind : (k x : List ℕ) (c i : ℕ) → c ≤ 1024 → length k ≡ 27648 → c * 27 ≤ i → get_or (rows_in k x c) i 0 ≡ get_or k i 0
unfolding rows_in
rows_behind k x zero i h l g = refl
rows_behind k x (suc n) i h l g =
    put-behind (rows_in k x n) n (statement_of x n) h (length-rows k x n (omega arith) l) i (omega arith)
    ∙ rows_behind k x n i (omega arith) l (omega arith)

rows-rest : (k x : List ℕ) (c n j : ℕ) → c ≤ 1024 → length k ≡ 27648 → n < c → 11 ≤ j → j < 27 → get_or (rows_in k x c) (n * 27 + j) 0 ≡ get_or k (n * 27 + j) 0
unfolding rows_in
rows-rest k x zero n j h l m a b = absurd (not-suc-le-zero m)
rows-rest k x (suc c) n j h l m a b =
    elim (ℕ_discrete n c) [
      | yes e ↦
          put-behind (rows_in k x c) c (statement_of x c) h (length-rows k x c (omega arith) l) (n * 27 + j) (omega arith)
          ∙ rows_behind k x c (n * 27 + j) (omega arith) l (omega arith)
      | no e ↦
          put-before (rows_in k x c) c (statement_of x c) h (length-rows k x c (omega arith) l) (n * 27 + j) (omega arith)
          ∙ rows-rest k x c n j (omega arith) l (omega arith) a b
    ]

rows-word : (k x : List ℕ) (c n j : ℕ) → c ≤ 1024 → length k ≡ 27648 → n < c → j < 11 → get_or (rows_in k x c) (n * 27 + j) 0 ≡ get_or (words_of (statement_of x n)) j 0
unfolding rows_in
rows-word k x zero n j h l m a = absurd (not-suc-le-zero m)
rows-word k x (suc c) n j h l m a =
    elim (ℕ_discrete n c) [
      | yes e ↦
          ap (λ (i : ℕ). get_or (put_row (rows_in k x c) c (statement_of x c)) (i * 27 + j) 0) e
          ∙ put_same (rows_in k x c) c (statement_of x c) h (length-rows k x c (omega arith) l) j a
          ∙ ap (λ (i : ℕ). get_or (words_of (statement_of x i)) j 0) (sym e)
      | no e ↦
          put-before (rows_in k x c) c (statement_of x c) h (length-rows k x c (omega arith) l) (n * 27 + j) (omega arith)
          ∙ rows-word k x c n j (omega arith) l (omega arith) a
    ]

-- ---- the skeleton

module _ (x : List ℕ) (c : ℕ) (h : c ≤ 1024) where
  -- word j of row n
  pub word-is : (n j : ℕ) → n < c → j < 27 → get_or (skeleton_of x c) (n * 27 + j) 0 ≡ get_or (words_of (statement_of x n)) j 0
  unfolding skeleton_of
  word-is n j g a =
      elim (dec_lt j 11) [
        | yes b ↦ rows-word (zeros statement_words) x c n j h (length-zeros statement_words) g b
        | no b ↦
            let b' : 11 ≤ j = omega arith in
            rows-rest (zeros statement_words) x c n j h (length-zeros statement_words) g b' a ∙ zero_word statement_words (n * 27 + j)
            ∙ sym (get_or-eq_default (words_of (statement_of x n)) 0 b')
      ]

  -- behind the rows
  pub word-behind : (i : ℕ) → c * 27 ≤ i → get_or (skeleton_of x c) i 0 ≡ 0
  unfolding skeleton_of
  word-behind i g = rows_behind (zeros statement_words) x c i h (length-zeros statement_words) g ∙ zero_word statement_words i

  pub kind-behind : (n : ℕ) → c ≤ n → (statement.row_at (skeleton_of x c) n).kind ≡ 0
  unfolding statement.row_at statement.row_from
  kind-behind n g = word-behind (n * 27) (omega arith)

  -- ---- the fields of row n

  module _ (n : ℕ) (g : n < c) where
    pub kind-is : (statement.row_at (skeleton_of x c) n).kind ≡ (row_at x (n + 1)).kind
    unfolding statement.row_at statement.row_from statement_of bare
    kind-is = ap (λ (i : ℕ). get_or (skeleton_of x c) i 0) (sym (add-zero (n * 27))) ∙ word-is n 0 g (omega arith)

    pub func-is : (statement.row_at (skeleton_of x c) n).func ≡ (row_at x (n + 1)).func - 1
    unfolding statement.row_at statement.row_from statement_of bare
    func-is = word-is n 1 g (omega arith)

    pub scope-is : (statement.row_at (skeleton_of x c) n).scope ≡ (row_at x (n + 1)).scope - 1
    unfolding statement.row_at statement.row_from statement_of bare
    scope-is = word-is n 2 g (omega arith)

    pub up_is : (statement.row_at (skeleton_of x c) n).up ≡ (row_at x (n + 1)).up
    unfolding statement.row_at statement.row_from statement_of bare
    up_is = word-is n 3 g (omega arith)

    pub parameters-are : (statement.row_at (skeleton_of x c) n).b ≡ parameters_of (row_at x (n + 1)).kind (row_at x (n + 1)).operands
    unfolding statement.row_at statement.row_from statement_of bare
    parameters-are = word-is n 5 g (omega arith)

    pub token-is : token_of (skeleton_of x c) n ≡ (row_at x (n + 1)).token
    unfolding token_of statement_of bare
    token-is = word-is n 9 g (omega arith)

    pub next-is : next_of (skeleton_of x c) n ≡ (row_at x (n + 1)).next
    unfolding next_of statement_of bare
    next-is = word-is n 10 g (omega arith)
