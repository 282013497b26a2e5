-- Rows read back: what was encoded is decoded again, at its place in a table whatever lies around it.
-- Assumes nothing.
use mathlib.Core.Path.{◌≡◌, refl, sym, ◌∙◌, ap, ap₂}
use mathlib.Core.List.{List, [], ◌∷◌, ◌++◌, append-nil}
use Prim.Native.Nat.{ℕ, zero, suc, ◌+◌, ◌*◌, ◌≤◌}
use native.Mathlib.Nat.{add-zero}
use native.Mathlib.Omega.{arith}
use lib.ListN.{length, get_or}
use lib.Seq.{get_or-append-add}
use Rattle.base_prelude.specs.Choice.{if_eq}
use Rattle.prog_tables.specs.Layout.{statement_row, operand_slots}
use Rattle.prog_tables.specs.Statement.{Row, operand_of, operand_kind, operand_number, used_by, operand_at, slots, row_from, row_at, decode, slot_words, encode}
use Rattle.prog_tables.specs.declared.Operand.{Operand}
use Rattle.prog_tables.specs.declared.Operand.TheVariants.{Constant, Local, Address, AtConstant, AtLocal, AtAddress, Unlisted}

-- an operand's two words give it back
pub operand-again : (o : Operand) → operand_of (operand_kind o) (operand_number o) ≡ o
unfolding operand_of operand_kind operand_number if_eq
operand-again (Constant v) = refl
operand-again (Local v) = refl
operand-again (Address v) = refl
operand-again (AtConstant v) = refl
operand-again (AtLocal v) = refl
operand-again (AtAddress v) = refl
operand-again Unlisted = refl

-- two words of a listed kind are those of their operand
pub kind-again : (k v : ℕ) → 1 ≤ k → k ≤ 6 → operand_kind (operand_of k v) ≡ k
unfolding operand_of operand_kind if_eq
kind-again zero v g h = omega arith
kind-again (suc zero) v g h = refl
kind-again (suc (suc zero)) v g h = refl
kind-again (suc (suc (suc zero))) v g h = refl
kind-again (suc (suc (suc (suc zero)))) v g h = refl
kind-again (suc (suc (suc (suc (suc zero))))) v g h = refl
kind-again (suc (suc (suc (suc (suc (suc zero)))))) v g h = refl
kind-again (suc (suc (suc (suc (suc (suc (suc k))))))) v g h = omega arith

pub number-again : (k v : ℕ) → 1 ≤ k → k ≤ 6 → operand_number (operand_of k v) ≡ v
unfolding operand_of operand_number if_eq
number-again zero v g h = omega arith
number-again (suc zero) v g h = refl
number-again (suc (suc zero)) v g h = refl
number-again (suc (suc (suc zero))) v g h = refl
number-again (suc (suc (suc (suc zero)))) v g h = refl
number-again (suc (suc (suc (suc (suc zero))))) v g h = refl
number-again (suc (suc (suc (suc (suc (suc zero)))))) v g h = refl
number-again (suc (suc (suc (suc (suc (suc (suc k))))))) v g h = omega arith

-- a row has as many operands as its kind, expression and count say, at most eight
pub record Fits (r : Row) : Type 0 where
  pub used : length r.operands ≡ used_by r.kind r.expr r.count
  pub few : length r.operands ≤ operand_slots

abbrev row : ℕ → ℕ → ℕ → ℕ → ℕ → ℕ → ℕ → ℕ → ℕ → Operand → List Operand → Row
row k f s u a b e c n d os = record { kind = k; func = f; scope = s; up = u; a = a; b = b; expr = e; callee = c; count = n; address = d; operands = os }

module _ (k f s u a b e c n : ℕ) (d : Operand) (ys : List ℕ) where
  again : (os : List Operand) → length os ≡ used_by k e n → length os ≤ 8 → row_from (encode (row k f s u a b e c n d os) ++ ys) 0 ≡ row k f s u a b e c n d os
  unfolding row_from slots operand_at slot_words encode
  again ([]) q h = rw (← q, operand-again d)
  again (o1 ∷ []) q h = rw (← q, operand-again d, operand-again o1)
  again (o1 ∷ o2 ∷ []) q h = rw (← q, operand-again d, operand-again o1, operand-again o2)
  again (o1 ∷ o2 ∷ o3 ∷ []) q h = rw (← q, operand-again d, operand-again o1, operand-again o2, operand-again o3)
  again (o1 ∷ o2 ∷ o3 ∷ o4 ∷ []) q h = rw (← q, operand-again d, operand-again o1, operand-again o2, operand-again o3, operand-again o4)
  again (o1 ∷ o2 ∷ o3 ∷ o4 ∷ o5 ∷ []) q h = rw (← q, operand-again d, operand-again o1, operand-again o2, operand-again o3, operand-again o4, operand-again o5)
  again (o1 ∷ o2 ∷ o3 ∷ o4 ∷ o5 ∷ o6 ∷ []) q h = rw (← q, operand-again d, operand-again o1, operand-again o2, operand-again o3, operand-again o4, operand-again o5, operand-again o6)
  again (o1 ∷ o2 ∷ o3 ∷ o4 ∷ o5 ∷ o6 ∷ o7 ∷ []) q h = rw (← q, operand-again d, operand-again o1, operand-again o2, operand-again o3, operand-again o4, operand-again o5, operand-again o6, operand-again o7)
  again (o1 ∷ o2 ∷ o3 ∷ o4 ∷ o5 ∷ o6 ∷ o7 ∷ o8 ∷ []) q h = rw (← q, operand-again d, operand-again o1, operand-again o2, operand-again o3, operand-again o4, operand-again o5, operand-again o6, operand-again o7, operand-again o8)
  again (o1 ∷ o2 ∷ o3 ∷ o4 ∷ o5 ∷ o6 ∷ o7 ∷ o8 ∷ o9 ∷ os) q h = absurd (omega arith)

-- also with anything behind it
pub front-again : (r : Row) (ys : List ℕ) → Fits r → row_from (encode r ++ ys) 0 ≡ r
front-again r ys h =
    again r.kind r.func r.scope r.up r.a r.b r.expr r.callee r.count r.address ys r.operands h.used h.few

-- decoding an encoded row gives the row
pub decode-encode : (r : Row) → Fits r → decode (encode r) ≡ r
decode-encode r h = ap (λ (w : List ℕ). row_from w 0) (sym (append-nil (encode r))) ∙ front-again r [] h

-- reading in the rest of a list
module _ (xs w : List ℕ) where
  past : (j : ℕ) → get_or (xs ++ w) (length xs + j) 0 ≡ get_or w j 0
  past j = get_or-append-add xs w j 0

  past0 : get_or (xs ++ w) (length xs) 0 ≡ get_or w 0 0
  past0 = ap (λ (i : ℕ). get_or (xs ++ w) i 0) (sym (add-zero (length xs))) ∙ past 0

  operand-past : (i j : ℕ) → i ≡ length xs + j → operand_at (xs ++ w) i ≡ operand_at w j
  unfolding operand_at
  operand-past i j e =
      let l : i + 1 ≡ length xs + (j + 1) = omega arith in
      ap₂ operand_of (ap (λ (m : ℕ). get_or (xs ++ w) m 0) e ∙ past j) (ap (λ (m : ℕ). get_or (xs ++ w) m 0) l ∙ past (j + 1))

  -- a row behind other words is the row by itself
  pub row-past : row_from (xs ++ w) (length xs) ≡ row_from w 0
  unfolding row_from slots
  row-past =
      rw (past0, past 1, past 2, past 3, past 4, past 5, past 6, past 7, past 8, operand-past (length xs + 9) 9 refl, operand-past (length xs + 11) 11 refl, operand-past (length xs + 13) 13 refl, operand-past (length xs + 15) 15 refl, operand-past (length xs + 17) 17 refl, operand-past (length xs + 19) 19 refl, operand-past (length xs + 21) 21 refl, operand-past (length xs + 23) 23 refl, operand-past (length xs + 25) 25 refl) refl

-- row n of a table in which n rows stand before an encoded row and anything behind it
pub row-again : (xs ys : List ℕ) (n : ℕ) (r : Row) → Fits r → length xs ≡ n * statement_row → row_at (xs ++ (encode r ++ ys)) n ≡ r
unfolding row_at
row-again xs ys n r h e = rw (← e) (row-past xs (encode r ++ ys) ∙ front-again r ys h)
