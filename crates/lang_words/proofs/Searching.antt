-- The loops of `lookup` and `row_of`: no entry before place k passes the test.
-- Assumes nothing.
use mathlib.Core.Path.{◌≡◌, refl, sym, ◌∙◌, ap, subst}
use mathlib.Core.Bool.{Bool, true, false}
use mathlib.Core.List.{List}
use Prim.Native.Nat.{ℕ, suc, ◌+◌, ◌≤◌, ◌<◌}
use native.Mathlib.Numerals.{add-one}
use native.Mathlib.Omega.{arith}
use borrow.Author.Tests.{eq-eqb, ne_eqb}
use lib.ListN.{length, get_or, drop, drop_of_length-le}
use lib.Seq.{drop-cons}
use Rattle.base_prelude.specs.Choice.{pick}
use Rattle.base_prelude.specs.Lists.{same_list}
use Rattle.lang_words.specs.Words.{Entry, nothing, words, first_of, is_spelled, is_number, entry_named, entry_of, number_of, least_operands, most_operands}
use Rattle.lang_words.specs.Table.{row, rows, row_at, entry_at, spelled}
use Rattle.lang_words.specs.declared.Row.{Row}
use Rattle.lang_words.proofs.Rule.{count, row_number, row-least, row-most, fits, spells}

-- t is the table
pub record Searching (t : List Row) (test : Entry → Bool) (k : ℕ) : Type 0 where
  pub table : t ≡ rows
  pub within : k ≤ 51
  pub rest : first_of test (drop k words) ≡ first_of test words

module _ (t : List Row) (test : Entry → Bool) where
  start : t ≡ rows → Searching t test 0
  start e = record { table = e; within = omega arith; rest = refl }

  module _ (k : ℕ) (h : Searching t test k) where
    row_is : get_or t k (row 0 0 0 0 0) ≡ row_at k
    unfolding row_at
    row_is = ap (λ (x : List Row). get_or x k (row 0 0 0 0 0)) h.table

    module _ (l : k < 51) where
      head : first_of test (drop k words) ≡ pick (test (entry_at k)) (entry_at k) (first_of test (drop (suc k) words))
      unfolding first_of entry_at
      head = ap (first_of test) (drop-cons words k nothing (omega (arith, count)))

      here : test (entry_at k) ≡ true → entry_at k ≡ first_of test words
      here e = sym (ap (λ (b : Bool). pick b (entry_at k) (first_of test (drop (suc k) words))) e) ∙ sym head ∙ h.rest

      next : test (entry_at k) ≡ false → Searching t test (k + 1)
      next e =
          record {
            table = h.table;
            within = omega arith;
            rest =
                ap (λ (n : ℕ). first_of test (drop n words)) (add-one k)
                ∙ sym (ap (λ (b : Bool). pick b (entry_at k) (first_of test (drop (suc k) words))) e)
                ∙ sym head ∙ h.rest;
          }

    none : 51 ≤ k → nothing ≡ first_of test words
    unfolding first_of
    none l =
        let past : length words ≤ k = omega (arith, count) in
        sym (ap (first_of test) (drop_of_length-le words past)) ∙ h.rest

module _ (t : List Row) (name : List ℕ) where
  pub named_start : t ≡ rows → Searching t (is_spelled name) 0
  named_start e = start t (is_spelled name) e

  module _ (k : ℕ) (h : Searching t (is_spelled name) k) where
    pub named-fits : k < 51 → (get_or t k (row 0 0 0 0 0)).0 + (get_or t k (row 0 0 0 0 0)).1 ≤ 283
    named-fits l = subst (λ (r : Row). r.0 + r.1 ≤ 283) (sym (row_is t (is_spelled name) k h)) (fits k l)

    module _ (b : Bool) (l : k < 51) (p : b ≡ same_list name (spelled (get_or t k (row 0 0 0 0 0)).0 (get_or t k (row 0 0 0 0 0)).1)) where
      tested : b ≡ is_spelled name (entry_at k)
      unfolding is_spelled
      tested =
          p ∙ ap (λ (r : Row). same_list name (spelled r.0 r.1)) (row_is t (is_spelled name) k h)
          ∙ ap (same_list name) (spells k l)

      pub named_here : b ≡ true → (get_or t k (row 0 0 0 0 0)).2 ≡ number_of name
      unfolding number_of entry_named
      named_here e =
          ap (λ (r : Row). r.2) (row_is t (is_spelled name) k h) ∙ row_number k
          ∙ ap (λ (x : Entry). x.number) (here t (is_spelled name) k h l (sym tested ∙ e))

      pub named-next : b ≡ false → Searching t (is_spelled name) (k + 1)
      named-next e = next t (is_spelled name) k h l (sym tested ∙ e)

    pub named_none : 51 ≤ k → 0 ≡ number_of name
    unfolding number_of entry_named
    named_none l = ap (λ (x : Entry). x.number) (none t (is_spelled name) k h l)

module _ (t : List Row) (n : ℕ) where
  pub number-start : t ≡ rows → Searching t (is_number n) 0
  number-start e = start t (is_number n) e

  module _ (k : ℕ) (h : Searching t (is_number n) k) where
    module _ (l : k < 51) where
      number_is : (get_or t k (row 0 0 0 0 0)).2 ≡ (entry_at k).number
      number_is = ap (λ (r : Row). r.2) (row_is t (is_number n) k h) ∙ row_number k

      module _ (e : (get_or t k (row 0 0 0 0 0)).2 ≡ n) where
        entry-is : entry_at k ≡ entry_of n
        unfolding entry_of is_number
        entry-is = here t (is_number n) k h l (eq-eqb (entry_at k).number n (sym number_is ∙ e))

        pub number-least : (get_or t k (row 0 0 0 0 0)).3 ≡ least_operands n
        unfolding least_operands
        number-least =
            ap (λ (r : Row). r.3) (row_is t (is_number n) k h) ∙ row-least k ∙ ap (λ (x : Entry). x.least) entry-is

        pub number-most : (get_or t k (row 0 0 0 0 0)).4 ≡ most_operands n
        unfolding most_operands
        number-most =
            ap (λ (r : Row). r.4) (row_is t (is_number n) k h) ∙ row-most k ∙ ap (λ (x : Entry). x.most) entry-is

      pub number-next : ((get_or t k (row 0 0 0 0 0)).2 ≡ n → ⊥) → Searching t (is_number n) (k + 1)
      unfolding is_number
      number-next d = next t (is_number n) k h l (ne_eqb (entry_at k).number n (λ e. d (number_is ∙ e)))

    pub least-none : 51 ≤ k → 0 ≡ least_operands n
    unfolding least_operands entry_of
    least-none l = ap (λ (x : Entry). x.least) (none t (is_number n) k h l)

    pub most-none : 51 ≤ k → 0 ≡ most_operands n
    unfolding most_operands entry_of
    most-none l = ap (λ (x : Entry). x.most) (none t (is_number n) k h l)

pub ruleset naming = (named_start, named_here, named-next, named_none)

pub ruleset numbering = (number-start, number-least, number-most, number-next, least-none, most-none)
