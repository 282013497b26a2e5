-- The operands of a row: those of its expression, and the arguments of a call by a loop over the slots.
-- Assumes nothing.
use Rattle.std.proofs.Common.{None, Option, Some}
use Rattle.vm_definitions.specs.Operands.{Worked}
use mathlib.Core.Path.{◌≡◌, refl, sym, ◌∙◌, ap, subst}
use mathlib.Core.Bool.{Bool, true, false}
use mathlib.Core.List.{List, [], ◌∷◌, ◌++◌, append_assoc, append-nil}
use Prim.Native.Nat.{ℕ, zero, suc, ◌+◌, ◌-◌, ◌*◌, ◌<◌, ◌≤◌, min}
use native.Mathlib.Omega.{arith}
use native.Mathlib.Nat.{not-suc-le-zero}
use native.Mathlib.Decide.{ℕ_discrete, dec_lt}
use lib.ListN.{length, get_or, set, take, drop, length-set, drop_of_length-le}
use lib.Seq.{take-suc, drop-cons, take-set-le, get_or-set_same, take_all, length-take-le, get_or-take}
use lib.Dec.{eqb, ltb}
use borrow.Author.Tests.{eq-eqb, ne_eqb, ltb-true}
use Rattle.base_prelude.specs.Choice.{pick, if_eq, if_lt, if_true}
use Rattle.base_prelude.specs.Lists.{zeros}
use Rattle.base_prelude.proofs.Choice.{true-false, if_eq-yes, if_eq-no, if_true-yes, either}
use Rattle.base_limits.specs.declared.Width.TheVariants.{Bits32}
use Rattle.base_limits.specs.declared.Machine.{Machine}
use Rattle.lang_words.specs.Words.{words, first_of, is_number, entry_of, least_operands}
use Rattle.prog_tables.specs.Layout.{plain, call_expression}
use Rattle.prog_tables.specs.Tests.{given, all_below}
use Rattle.prog_tables.specs.Statement.{Row, has_expression, is_operator, is_call_expression, expression_uses, used_by, operand_at, slots, row_from, row_at}
use Rattle.prog_tables.specs.Program.{rows_alone}
use Rattle.prog_tables.specs.Faults.{expression_listed}
use Rattle.prog_tables.proofs.Each.{below_at, given-then}
use Rattle.prog_tables.specs.declared.Operand.{Operand}
use Rattle.prog_tables.specs.declared.Operand.TheVariants.{Unlisted}
use Rattle.prog_faults.proofs.Cases.{slot_at, slots-long}
use Rattle.vm_definitions.specs.Operands as machine
use Rattle.vm_definitions.specs.Operands.{Words, bad, with_word, read_of, on_read, read_all}
use Rattle.vm_definitions.specs.Expressions.{eval_of}
use Rattle.vm_definitions.specs.Step.{worked_of, arguments_of}
use Rattle.vm_definitions.specs.Lent.{world}
use Rattle.vm_quick_operands.specs.Fast.{read_each}
use Rattle.vm_quick_operands.proofs.Reading.{Reading, reading-none, reading-more, reading-stops, reading-done}
use Rattle.vm_calls.specs.Outcomes.{slot_read, words_given, Expressed}
use Rattle.prog_tables.proofs.Ranges.{operator-most}

-- ---- the expression of a row

-- every operator has an operand: over the whole table
some-operand : all_below (λ e. given (is_operator e) (ltb 0 (least_operands e))) 52 ≡ true
unfolding all_below is_operator least_operands entry_of first_of is_number words if_eq if_lt
some-operand = refl

has-operand : (e : ℕ) → is_operator e ≡ true → 0 < least_operands e
has-operand e h =
    ltb-true 0 (least_operands e)
    (given-then (is_operator e) (ltb 0 (least_operands e)) (below_at (λ e. given (is_operator e) (ltb 0 (least_operands e))) 52 e some-operand (operator-most e h)) h)

module _ (st : List ℕ) (s : ℕ) (m : List ℕ) (top e : ℕ) (a b : Operand) (os : List Operand) where
  plain-first : e ≡ 1 → eval_of Bits32 st s m top e (a ∷ b ∷ []) ≡ eval_of Bits32 st s m top e (take 1 (a ∷ b ∷ os))
  unfolding eval_of if_eq
  plain-first h = rw (eq-eqb _ _ h)

  firsts : (n : ℕ) → 0 < n → n ≡ least_operands e → eval_of Bits32 st s m top e (a ∷ b ∷ []) ≡ eval_of Bits32 st s m top e (take n (a ∷ b ∷ os))
  unfolding eval_of if_eq
  firsts zero h l = absurd (not-suc-le-zero h)
  firsts (suc zero) h l = rw (← l)
  firsts (suc (suc n)) h l = refl

abbrev used_at : List ℕ → ℕ → ℕ
used_at t n = used_by (row_at t n).kind (row_at t n).expr (row_at t n).count

module _ (k e n : ℕ) (h : has_expression k ≡ true) where
  used-plain : e ≡ 1 → used_by k e n ≡ 1
  unfolding used_by expression_uses if_true if_eq
  used-plain d = rw (h, eq-eqb _ _ d)

  used-operator : (e ≡ 1 → ⊥) → is_call_expression e ≡ false → is_operator e ≡ true → used_by k e n ≡ least_operands e
  unfolding used_by expression_uses is_call_expression if_true if_eq
  used-operator p q d = rw (h, ne_eqb _ _ p, d) (by (eqb e 2) (eqb e 3) q)
    where
      by : (a b : Bool) → pick a true b ≡ false → pick a n (pick b n (least_operands e)) ≡ least_operands e
      by true b z = true-false z
      by false true z = true-false z
      by false false z = refl

  is-operator : expression_listed k e ≡ true → (e ≡ 0 → ⊥) → (e ≡ 1 → ⊥) → is_call_expression e ≡ false → is_operator e ≡ true
  unfolding expression_listed if_eq if_true
  is-operator l p q r = rw (ne_eqb _ _ p, ne_eqb _ _ q, r) at l

module _ (t st m : List ℕ) (c : ℕ) (r : Machine) where
  abbrev n : ℕ
  n = r.next

  abbrev first : Operand
  first = operand_at t (n * 27 + 11)

  abbrev second : Operand
  second = operand_at t (n * 27 + 13)

  row_operands : Expressed (row_at t n) → eval_of Bits32 st r.frame m r.top (row_at t n).expr (first ∷ second ∷ [])
      ≡ eval_of Bits32 st r.frame m r.top (row_at t n).expr (take (used_at t n) (slots t (n * 27)))
  unfolding slots
  row_operands x = elim (ℕ_discrete (row_at t n).expr 1) [
    | yes d ↦
        subst (λ (u : ℕ). eval_of Bits32 st r.frame m r.top (row_at t n).expr (first ∷ second ∷ []) ≡ eval_of Bits32 st r.frame m r.top (row_at t n).expr (take u (slots t (n * 27))))
        (sym (used-plain (row_at t n).kind (row_at t n).expr (row_at t n).count x.has d))
        (plain-first st r.frame m r.top (row_at t n).expr first second (drop 2 (slots t (n * 27))) d)
    | no d ↦
        let o = is-operator (row_at t n).kind (row_at t n).expr (row_at t n).count x.has x.listed x.some d x.plain in
        subst (λ (u : ℕ). eval_of Bits32 st r.frame m r.top (row_at t n).expr (first ∷ second ∷ []) ≡ eval_of Bits32 st r.frame m r.top (row_at t n).expr (take u (slots t (n * 27))))
        (sym (used-operator (row_at t n).kind (row_at t n).expr (row_at t n).count x.has d x.plain o))
        (firsts st r.frame m r.top (row_at t n).expr first second (drop 2 (slots t (n * 27))) (least_operands (row_at t n).expr) (has-operand (row_at t n).expr o) refl)
  ]

  pub work-row : (e : ℕ) (a b : Operand) (x : Worked) → Expressed (row_at t r.next) → e ≡ (row_at t r.next).expr
      → a ≡ operand_at t (r.next * 27 + 11 + 0 * 2) → b ≡ operand_at t (r.next * 27 + 11 + 1 * 2)
      → x ≡ eval_of Bits32 st r.frame m r.top e (a ∷ b ∷ []) → x ≡ worked_of (rows_alone t c) (world r st m)
  unfolding worked_of row_at row_from
  work-row e a b x h d p q w =
      let i : r.next * 27 + 11 + 1 * 2 ≡ r.next * 27 + 13 = omega arith in
      let j : r.next * 27 + 11 + 0 * 2 ≡ r.next * 27 + 11 = omega arith in
      w
      ∙ ap (λ (z : ℕ). eval_of Bits32 st r.frame m r.top z (a ∷ b ∷ [])) d
      ∙ ap (λ (z : Operand). eval_of Bits32 st r.frame m r.top (row_at t n).expr (z ∷ b ∷ [])) (p ∙ ap (operand_at t) j)
      ∙ ap (λ (z : Operand). eval_of Bits32 st r.frame m r.top (row_at t n).expr (first ∷ z ∷ [])) (q ∙ ap (operand_at t) i)
      ∙ row_operands h

-- ---- the arguments of a call

-- reading all operands is reading each
each_all : (st : List ℕ) (s : ℕ) (m : List ℕ) (os : List Operand) → read_each (read_of Bits32 st s m) os ≡ read_all Bits32 st s m os
unfolding read_each read_all
each_all st s m [] = refl
each_all st s m (o ∷ os) = ap (λ (w : Words). on_read (read_of Bits32 st s m o) bad (λ v. with_word v w)) (each_all st s m os)

module _ (t : List ℕ) (n k : ℕ) (st : List ℕ) (s : ℕ) (m ws : List ℕ) (i : ℕ) (h : Reading (read_of Bits32 st s m) t (n * 27) k ws i) where
  pub arguments-stop : (x : Option ℕ) → i < k → x ≡ slot_read t n st s m i → x ≡ None → words_given None k ≡ read_all Bits32 st s m (take k (slots t (n * 27)))
  unfolding if_true
  arguments-stop x l e g = reading-stops (read_of Bits32 st s m) t (n * 27) k ws i x h l e g ∙ each_all st s m (take k (slots t (n * 27)))

  pub arguments-read : k ≤ i → words_given (Some ws) k ≡ read_all Bits32 st s m (take k (slots t (n * 27)))
  unfolding if_true
  arguments-read l = reading-done (read_of Bits32 st s m) t (n * 27) k ws i h l ∙ each_all st s m (take k (slots t (n * 27)))

pub ruleset reading = (reading-none, reading-more, arguments-stop, arguments-read)

-- a call's operands are its arguments
pub arguments-are : (t : List ℕ) (c : ℕ) (r : Machine) (st m : List ℕ) (x : Option (List ℕ)) (k : ℕ)
    → used_by (row_at t r.next).kind (row_at t r.next).expr (row_at t r.next).count ≡ (row_at t r.next).count → k ≡ min (row_at t r.next).count 8 → words_given x k ≡ read_all Bits32 st r.frame m (take k (slots t (r.next * 27)))
    → words_given x k ≡ arguments_of (rows_alone t c) (world r st m)
unfolding arguments_of row_at row_from
arguments-are t c r st m x k h e w =
    w ∙ ap (λ (z : List Operand). read_all Bits32 st r.frame m z)
    (ap (λ (j : ℕ). take j (slots t (r.next * 27))) e ∙ take_min (row_at t r.next).count (slots t (r.next * 27)) (slots-long t (r.next * 27)) ∙ ap (λ (j : ℕ). take j (slots t (r.next * 27))) (sym h))
  where
    take_min : (j : ℕ) (l : List Operand) → length l ≡ 8 → take (min j 8) l ≡ take j l
    take_min j l q = elim (dec_lt j 8) [
      | yes p ↦ let d : min j 8 ≡ j = omega arith in ap (λ (i : ℕ). take i l) d
      | no p ↦ take_all (min j 8) l (omega arith) ∙ sym (take_all j l (omega arith))
    ]
