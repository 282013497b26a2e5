-- Words written one behind the other into a buffer: a row's slots, its 27 words, all rows.
-- Assumes nothing.
use mathlib.Core.Path.{◌≡◌, refl, sym, ◌∙◌, ap}
use mathlib.Core.Bool.{Bool}
use mathlib.Core.List.{List, [], ◌∷◌, ◌++◌, append-nil}
use Prim.Native.Nat.{ℕ, zero, suc, ◌+◌, ◌-◌, ◌*◌, ◌<◌, ◌≤◌, min}
use native.Mathlib.Decide.{dec_lt}
use native.Mathlib.Nat.{add-zero}
use native.Mathlib.Numerals.{add-one, add-two, add-three, add-four, add_five, add_six, add_seven, add_eight}
use native.Mathlib.Omega.{arith}
use lib.ListN.{length, take, drop, set, length-append, take-append-drop}
use lib.Seq.{sets, sets-eq, length-sets}
use Rattle.base_prelude.proofs.Choice.{if_lt-yes, if_lt-no}
use Rattle.prog_tables.specs.Statement.{Row, operand_kind, operand_number, slot_words, row_at, encode}
use Rattle.prog_tables.specs.declared.Operand.{Operand}
use Rattle.res_scope.specs.Lines.{first_token, end_token}
use Rattle.res_scope.specs.Parts.{parts_of}
use Rattle.res_scope.specs.declared.Parts.{Parts}
use Rattle.res_rows.specs.Rows.{operands_from, slot_operand, operand_words, aOf, bOf, expr_of, callee_of, address_of, row_with, row_of, head_of, head_words, put_words, put_row, rows_below, statement_table}
use Rattle.res_rows.specs.declared.Head.{Head}

-- ---- words one behind the other

module _ (out : List ℕ) (at : ℕ) where
  sets-put : (ws : List ℕ) → at + length ws ≤ length out → sets out at ws ≡ put_words out at ws
  unfolding put_words
  sets-put ws h = sets-eq ws out at h

  pub length-words : (ws : List ℕ) → at + length ws ≤ length out → length (put_words out at ws) ≡ length out
  length-words ws h = ap length (sym (sets-put ws h)) ∙ length-sets out at ws

  no_words_lem : put_words out at [] ≡ out
  unfolding put_words
  no_words_lem =
      ap (λ (n : ℕ). take at out ++ [] ++ drop n out) (add-zero at) ∙ ap (λ (x : List ℕ). x ++ drop at out) (append-nil (take at out))
      ∙ take-append-drop at out

sets-join : (xs ys out : List ℕ) (at : ℕ) → sets (sets out at xs) (at + length xs) ys ≡ sets out at (xs ++ ys)
sets-join [] ys out at = ap (λ (n : ℕ). sets out n ys) (add-zero at)
sets-join (x ∷ xs) ys out at =
    let e : at + suc (length xs) ≡ suc at + length xs = omega arith in
    ap (λ (n : ℕ). sets (sets (set out at x) (suc at) xs) n ys) e ∙ sets-join xs ys (set out at x) (suc at)

pub words-join : (xs ys out : List ℕ) (at : ℕ) → at + (length xs + length ys) ≤ length out
    → put_words (put_words out at xs) (at + length xs) ys ≡ put_words out at (xs ++ ys)
words-join xs ys out at h =
    let a : at + length xs ≤ length out = omega arith in
    let b : at + length xs + length ys ≤ length (sets out at xs) = omega (arith, length-sets out at xs) in
    let d : at + length (xs ++ ys) ≤ length out = omega (arith, length-append xs ys) in
    ap (λ (o : List ℕ). put_words o (at + length xs) ys) (sym (sets-put out at xs a)) ∙ sym (sets-put (sets out at xs) (at + length xs) ys b)
    ∙ sets-join xs ys out at ∙ sets-put out at (xs ++ ys) d

-- ---- the words of an operand, of a head

pub operand-put : (out : List ℕ) (at kind number : ℕ) (o : Operand) → at + 2 ≤ length out → kind ≡ operand_kind o → number ≡ operand_number o
    → set (set out at kind) (at + 1) number ≡ put_words out at (operand_words o)
operand-put out at kind number o h d e = rw (add-one, d, e) (sets-put out at (operand_words o) h)

add-nine : (n : ℕ) → n + 9 ≡ suc (suc (suc (suc (suc (suc (suc (suc (suc n))))))))
add-nine n = omega arith

add-ten : (n : ℕ) → n + 10 ≡ suc (suc (suc (suc (suc (suc (suc (suc (suc (suc n)))))))))
add-ten n = omega arith

abbrev stored : List ℕ → ℕ → Head → List ℕ
stored k w r =
    set (set (set (set (set (set (set (set (set (set (set k w r.kind) (w + 1) r.func) (w + 2) r.scope) (w + 3) r.up) (w + 4) r.a) (w + 5) r.b) (w + 6) r.expr) (w + 7) r.callee) (w + 8) r.count) (w + 9) r.form) (w + 10) r.address

pub head-put : (out : List ℕ) (at : ℕ) (h : Head) → at + 11 ≤ length out → stored out at h ≡ put_words out at (head_words h)
head-put out at h g =
    rw (add-one, add-two, add-three, add-four, add_five, add_six, add_seven, add_eight, add-nine, add-ten) (sets-put out at (head_words h) g)

-- ---- the loop of `put_slots`

length-slots : (n : ℕ) (os : List Operand) → length (slot_words n os) ≡ n * 2
unfolding slot_words
length-slots zero os = refl
length-slots (suc n) [] = let e : length (slot_words n []) ≡ n * 2 = length-slots n [] in omega arith
length-slots (suc n) (o ∷ os) = let e : length (slot_words n os) ≡ n * 2 = length-slots n os in omega arith

module _ (same : ℕ → ℕ → Bool) (t k y : List ℕ) (l : ℕ) (w z : List ℕ) (r first count : ℕ) where
  -- so many slots from slot j on
  abbrev slots_from : ℕ → ℕ → List ℕ
  slots_from zero j = []
  slots_from (suc n) j = operand_kind (slot_operand same t k y l w z r first count j) ∷ operand_number (slot_operand same t k y l w z r first count j) ∷ slots_from n (j + 1)

  length_from : (n j : ℕ) → length (slots_from n j) ≡ n * 2
  length_from zero j = refl
  length_from (suc n) j = let e : length (slots_from n (j + 1)) ≡ n * 2 = length_from n (j + 1) in omega arith

  abbrev Listed : ℕ → ℕ → Type 0
  Listed n j = slot_words n (operands_from (min (count - j) n) same t k y l w z r (first + j)) ≡ slots_from n j

  -- the slots are the operands in order, then nothing
  slots-listed : (n j : ℕ) → Listed n j
  unfolding slot_words operands_from slot_operand operand_kind operand_number
  slots-listed zero j = refl
  slots-listed (suc n) j =
      elim (dec_lt j count) [
        | yes h ↦
            let e : min (count - j) (suc n) ≡ suc (min (count - (j + 1)) n) = omega arith in
            let f : first + j + 1 ≡ first + (j + 1) = omega arith in
            rw (e, f, if_lt-yes _ _ h, slots-listed n (j + 1)) refl
        | no h ↦
            let g : count ≤ j = omega arith in
            let e : min (count - j) (suc n) ≡ 0 = omega arith in
            let f : min (count - (j + 1)) n ≡ 0 = omega arith in
            rw (e, if_lt-no _ _ g, ← slots-listed n (j + 1), f) refl
      ]

  pub record Slots (at : ℕ) (out₀ out : List ℕ) (j : ℕ) : Type 0 where
    pub long : length out ≡ length out₀
    pub within : j ≤ 8
    pub rest : put_words out (at + j * 2) (slots_from (8 - j) j) ≡ put_words out₀ at (slots_from 8 0)

  module _ (at : ℕ) (out₀ : List ℕ) where
    pub slots-start : Slots at out₀ out₀ 0
    slots-start =
        let e : at + 0 * 2 ≡ at = omega arith in
        record { long = refl; within = omega arith; rest = ap (λ (i : ℕ). put_words out₀ i (slots_from 8 0)) e }

    module _ (out : List ℕ) (j : ℕ) (h : Slots at out₀ out j) where
      pub slots-room : j < 8 → at + 16 ≤ length out₀ → at + j * 2 + 2 ≤ length out
      slots-room g f = omega (arith, h.long)

      pub slots-more : (out' : List ℕ) → j < 8 → at + 16 ≤ length out₀ → out' ≡ put_words out (at + j * 2) (operand_words (slot_operand same t k y l w z r first count j))
          → Slots at out₀ out' (j + 1)
      slots-more out' g f e =
          let q : 8 - j ≡ suc (8 - (j + 1)) = omega arith in
          let p : at + (j + 1) * 2 ≡ at + j * 2 + 2 = omega arith in
          let b : at + j * 2 + 2 ≤ length out = slots-room g f in
          let d : at + j * 2 + (2 + length (slots_from (8 - (j + 1)) (j + 1))) ≤ length out = omega (arith, h.long, length_from (8 - (j + 1)) (j + 1)) in
          record {
            long = ap length e ∙ length-words out (at + j * 2) (operand_words (slot_operand same t k y l w z r first count j)) b ∙ h.long;
            within = omega arith;
            rest =
                rw (e, p)
                (words-join (operand_words (slot_operand same t k y l w z r first count j)) (slots_from (8 - (j + 1)) (j + 1)) out (at + j * 2) d
                ∙ sym (ap (λ (i : ℕ). put_words out (at + j * 2) (slots_from i j)) q) ∙ h.rest);
          }

      pub slots_same : length out ≡ length out₀
      slots_same = h.long

      pub slots-done : 8 ≤ j → out ≡ put_words out₀ at (slot_words 8 (operands_from (min count 8) same t k y l w z r first))
      slots-done g =
          let e : 8 - j ≡ 0 = omega arith in
          let a : first + 0 ≡ first = omega arith in
          let b : count - 0 ≡ count = omega arith in
          let s : slot_words 8 (operands_from (min count 8) same t k y l w z r first) ≡ slots_from 8 0 = rw (a, b) at (slots-listed 8 0) in
          sym (no_words_lem out (at + j * 2)) ∙ sym (ap (λ (i : ℕ). put_words out (at + j * 2) (slots_from i j)) e) ∙ h.rest
          ∙ sym (ap (put_words out₀ at) s)

  pub ruleset slotting = (slots-start, slots-more, slots-done)

-- ---- a row

abbrev head : ℕ → ℕ → ℕ → ℕ → ℕ → ℕ → ℕ → ℕ → ℕ → ℕ → ℕ → Head
head kind func scope up a b expr callee count form address =
    record { kind = kind; func = func; scope = scope; up = up; a = a; b = b; expr = expr; callee = callee; count = count; form = form; address = address }

length-encode : (x : Row) → length (encode x) ≡ 27
unfolding encode
length-encode x = let e : length (slot_words 8 x.operands) ≡ 16 = length-slots 8 x.operands in omega arith

encode-put : (out : List ℕ) (r : ℕ) (x : Row) → put_words out (r * 27) (encode x) ≡ put_row out r x
unfolding put_words put_row
encode-put out r x = ap (λ (n : ℕ). take (r * 27) out ++ encode x ++ drop (r * 27 + n) out) (length-encode x)

encode-parts : (x : Row) → head_words (head_of x) ++ slot_words 8 x.operands ≡ encode x
unfolding head_of encode
encode-parts x = refl

row_put : (out : List ℕ) (r : ℕ) (x : Row) → r * 27 + 27 ≤ length out
    → put_words (put_words out (r * 27) (head_words (head_of x))) (r * 27 + 11) (slot_words 8 x.operands) ≡ put_row out r x
row_put out r x h =
    let e : r * 27 + (11 + length (slot_words 8 x.operands)) ≤ length out = omega (arith, length-slots 8 x.operands) in
    words-join (head_words (head_of x)) (slot_words 8 x.operands) out (r * 27) e ∙ ap (put_words out (r * 27)) (encode-parts x) ∙ encode-put out r x

pub length-row : (out : List ℕ) (r : ℕ) (x : Row) → r * 27 + 27 ≤ length out → length (put_row out r x) ≡ length out
length-row out r x h =
    let e : r * 27 + length (encode x) ≤ length out = omega (arith, length-encode x) in
    ap length (sym (encode-put out r x)) ∙ length-words out (r * 27) (encode x) e

module _ (same : ℕ → ℕ → Bool) (t k y : List ℕ) (l : ℕ) (w z : List ℕ) (c : ℕ) where
  pub head-is : (r kind first next func scope up a b expr callee count form number : ℕ) (p : Parts) (o : Operand) → o ≡ address_of same t k y l w z r kind (first + 1)
      → func ≡ (row_at k r).func → scope ≡ (row_at k r).scope → up ≡ (row_at k r).up → a ≡ aOf same k y l w z r kind (first + 1) → b ≡ bOf k c r kind
      → expr ≡ expr_of same k y l r p.expr p.callee → callee ≡ callee_of same k y l z r kind p.callee → count ≡ next - p.first → form ≡ operand_kind o → number ≡ operand_number o
      → head kind func scope up a b expr callee count form number ≡ head_of (row_with same t k y l w z c r kind first next p)
  unfolding row_with head_of
  head-is r kind first next func scope up a b expr callee count form number p o q h1 h2 h3 h4 h5 h10 h6 h7 h8 h9 =
      rw (h8, h9, q, h1, h2, h3, h4, h5, h10, h6, h7) refl

  row-shown : (out : List ℕ) (r kind first next : ℕ) (p : Parts) → r * 27 + 27 ≤ length out
      → put_words (put_words out (r * 27) (head_words (head_of (row_with same t k y l w z c r kind first next p)))) (r * 27 + 11) (slot_words 8 (operands_from (min (next - p.first) 8) same t k y l w z r p.first))
      ≡ put_row out r (row_with same t k y l w z c r kind first next p)
  unfolding row_with
  row-shown out r kind first next p h = row_put out r (row_with same t k y l w z c r kind first next p) h

  pub parts-put : (out out' out'' : List ℕ) (r kind first next count : ℕ) (p : Parts) (h : Head) → r * 27 + 27 ≤ length out
      → h ≡ head_of (row_with same t k y l w z c r kind first next p) → out' ≡ put_words out (r * 27) (head_words h) → count ≡ next - p.first
      → out'' ≡ put_words out' (r * 27 + 11) (slot_words 8 (operands_from (min count 8) same t k y l w z r p.first))
      → out'' ≡ put_row out r (row_with same t k y l w z c r kind first next p)
  parts-put out out' out'' r kind first next count p h room f g i j = j ∙ rw (g, f, i) (row-shown out r kind first next p room)

  pub row_written : (out out' : List ℕ) (r kind first next : ℕ) (p : Parts)
      → kind ≡ (row_at k r).kind → first ≡ first_token k r → next ≡ end_token k r → p ≡ parts_of t kind first next
      → out' ≡ put_row out r (row_with same t k y l w z c r kind first next p) → out' ≡ put_row out r (row_of same t k y l w z c r)
  unfolding row_of
  row_written out out' r kind first next p a b d e q = rw (← a, ← b, ← d, ← e) q

  -- ---- the loop of `write_rows`

  pub record Writing (out₀ out : List ℕ) (r : ℕ) : Type 0 where
    pub long : length out ≡ length out₀
    pub below : r ≤ c
    pub so_far : out ≡ rows_below r same t k y l w z c out₀

  module _ (out₀ : List ℕ) where
    pub writing_start : Writing out₀ out₀ 0
    unfolding rows_below
    writing_start = record { long = refl; below = omega arith; so_far = refl }

    module _ (out : List ℕ) (r : ℕ) (h : Writing out₀ out r) where
      pub writing-room : r < c → c * 27 ≤ length out₀ → r * 27 + 27 ≤ length out
      writing-room g f = omega (arith, h.long)

      pub writing_more : (out' : List ℕ) → r < c → c * 27 ≤ length out₀ → out' ≡ put_row out r (row_of same t k y l w z c r) → Writing out₀ out' (r + 1)
      unfolding rows_below
      writing_more out' g f e =
          record {
            long = ap length e ∙ length-row out r (row_of same t k y l w z c r) (writing-room g f) ∙ h.long;
            below = omega arith;
            so_far = rw (add-one r) (e ∙ ap (λ (x : List ℕ). put_row x r (row_of same t k y l w z c r)) h.so_far);
          }

      pub writing-same : length out ≡ length out₀
      writing-same = h.long

      pub writing-done : c ≤ r → out ≡ statement_table same t k y l w z c out₀
      unfolding statement_table
      writing-done g =
          let e : r ≡ c = omega (arith, h.below) in
          h.so_far ∙ ap (λ (n : ℕ). rows_below n same t k y l w z c out₀) e

  pub ruleset writing = (writing_start, writing_more, writing-done)
