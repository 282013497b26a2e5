-- The table is exact: a name has a number other than 0 exactly where an entry has that name and that number. No two entries have the
-- same number or the same letters; the numbers are 1 to 51; a word's counts are found by its number.
-- Assumes nothing.
use mathlib.Core.Path.{◌≡◌, refl, sym, ◌∙◌, ap, subst}
use mathlib.Core.Bool.{Bool, true, false}
use mathlib.Core.List.{List, [], ◌∷◌}
use Prim.Native.Nat.{ℕ, suc, ◌≤◌, ◌<◌}
use native.Mathlib.Nat.{zero-lt-suc}
use native.Mathlib.Omega.{arith}
use lib.Dec.{T, eqb, eqb→eq, leb, leb→le}
use lib.ListN.{length, get_or}
use Rattle.base_prelude.specs.Choice.{pick}
use Rattle.base_prelude.specs.Lists.{same_list}
use Rattle.base_prelude.proofs.Lists.{same-is}
use Rattle.base_prelude.proofs.Table.{at}
use Rattle.lang_words.specs.Words.{Entry, nothing, words, first_of, is_spelled, is_number, entry_named, entry_of, number_of, least_operands, most_operands}
use Rattle.lang_words.specs.Table.{entry_at}
use Rattle.lang_words.proofs.Rule.{count}

-- an entry of the table has this name and this number
pub record Entered (name : List ℕ) (n : ℕ) : Type 0 where
  pub place : ℕ
  pub within : place < 51
  pub letters : (entry_at place).letters ≡ name
  pub number : (entry_at place).number ≡ n

record Found (test : Entry → Bool) (es : List Entry) (n : ℕ) : Type 0 where
  pub place : ℕ
  pub within : place < length es
  pub passes : test (get_or es place nothing) ≡ true
  pub number : (get_or es place nothing).number ≡ n

found : (test : Entry → Bool) (es : List Entry) → ((first_of test es).number ≡ 0 → ⊥) → Found test es (first_of test es).number
unfolding first_of
found test [] d = absurd (d refl)
found test (e ∷ es) d = by (test e) refl d (λ q. found test es q)
  where
    by :
        (t : Bool) → test e ≡ t → ((pick t e (first_of test es)).number ≡ 0 → ⊥)
        → (((first_of test es).number ≡ 0 → ⊥) → Found test es (first_of test es).number)
        → Found test (e ∷ es) (pick t e (first_of test es)).number
    by true q d f = record { place = 0; within = zero-lt-suc _; passes = q; number = refl }
    by false q d f =
        let x = f d in
        record { place = suc x.place; within = omega (arith, x.within); passes = x.passes; number = x.number }

-- a name with a number is an entry's
pub number-entered : (name : List ℕ) (n : ℕ) → number_of name ≡ n → (n ≡ 0 → ⊥) → Entered name n
unfolding words number_of entry_named is_spelled entry_at
number-entered name n e d =
    let x = found (is_spelled name) words (λ q. d (sym e ∙ q)) in
    record {
      place = x.place;
      within = subst (λ (m : ℕ). x.place < m) count x.within;
      letters =
          sym (same-is name (get_or words x.place nothing).letters (subst (λ (t : Bool). T t) (sym x.passes) tt));
      number = x.number ∙ e;
    }

named-right : ℕ → Entry → Bool
named-right k e = eqb (number_of e.letters) e.number

named_rule : (k : ℕ) → k < 51 → T (named-right k (entry_at k))
unfolding words first_of is_spelled entry_named number_of entry_at same_list named-right
named_rule k h = at nothing named-right words tt k h

-- an entry's name has the entry's number
pub entered-number : (name : List ℕ) (n : ℕ) → Entered name n → number_of name ≡ n
unfolding named-right
entered-number name n h =
    ap number_of (sym h.letters)
    ∙ eqb→eq (number_of (entry_at h.place).letters) (entry_at h.place).number (named_rule h.place h.within)
    ∙ h.number

-- the place of the first entry that passes a test
place_from : (Entry → Bool) → ℕ → List Entry → ℕ
place_from test i [] = i
place_from test i (e ∷ es) = pick (test e) i (place_from test (suc i) es)

number-right : ℕ → Entry → Bool
number-right k e = eqb (place_from (is_number e.number) 0 words) k

letters-right : ℕ → Entry → Bool
letters-right k e = eqb (place_from (is_spelled e.letters) 0 words) k

number-rule : (k : ℕ) → k < 51 → T (number-right k (entry_at k))
unfolding words is_number entry_at place_from number-right
number-rule k h = at nothing number-right words tt k h

letters-rule : (k : ℕ) → k < 51 → T (letters-right k (entry_at k))
unfolding words is_spelled entry_at same_list place_from letters-right
letters-rule k h = at nothing letters-right words tt k h

pub numbers-distinct : (i j : ℕ) → i < 51 → j < 51 → (entry_at i).number ≡ (entry_at j).number → i ≡ j
unfolding number-right
numbers-distinct i j hi hj e =
    sym (eqb→eq (place_from (is_number (entry_at i).number) 0 words) i (number-rule i hi))
    ∙ ap (λ (n : ℕ). place_from (is_number n) 0 words) e
    ∙ eqb→eq (place_from (is_number (entry_at j).number) 0 words) j (number-rule j hj)

pub letters-distinct : (i j : ℕ) → i < 51 → j < 51 → (entry_at i).letters ≡ (entry_at j).letters → i ≡ j
unfolding letters-right
letters-distinct i j hi hj e =
    sym (eqb→eq (place_from (is_spelled (entry_at i).letters) 0 words) i (letters-rule i hi))
    ∙ ap (λ (w : List ℕ). place_from (is_spelled w) 0 words) e
    ∙ eqb→eq (place_from (is_spelled (entry_at j).letters) 0 words) j (letters-rule j hj)

above-right : ℕ → Entry → Bool
above-right k e = leb 1 e.number

below_right : ℕ → Entry → Bool
below_right k e = leb e.number 51

order-right : ℕ → Entry → Bool
order-right k e = leb e.least e.most

above-rule : (k : ℕ) → k < 51 → T (above-right k (entry_at k))
unfolding words entry_at above-right
above-rule k h = at nothing above-right words tt k h

below-rule : (k : ℕ) → k < 51 → T (below_right k (entry_at k))
unfolding words entry_at below_right
below-rule k h = at nothing below_right words tt k h

order-rule : (k : ℕ) → k < 51 → T (order-right k (entry_at k))
unfolding words entry_at order-right
order-rule k h = at nothing order-right words tt k h

pub number-above : (k : ℕ) → k < 51 → 1 ≤ (entry_at k).number
unfolding above-right
number-above k h = leb→le 1 (entry_at k).number (above-rule k h)

pub number-below : (k : ℕ) → k < 51 → (entry_at k).number ≤ 51
unfolding below_right
number-below k h = leb→le (entry_at k).number 51 (below-rule k h)

pub least-most : (k : ℕ) → k < 51 → (entry_at k).least ≤ (entry_at k).most
unfolding order-right
least-most k h = leb→le (entry_at k).least (entry_at k).most (order-rule k h)

least-right : ℕ → Entry → Bool
least-right k e = eqb (least_operands e.number) e.least

most-right : ℕ → Entry → Bool
most-right k e = eqb (most_operands e.number) e.most

least-rule : (k : ℕ) → k < 51 → T (least-right k (entry_at k))
unfolding words first_of is_number entry_of least_operands entry_at least-right
least-rule k h = at nothing least-right words tt k h

most-rule : (k : ℕ) → k < 51 → T (most-right k (entry_at k))
unfolding words first_of is_number entry_of most_operands entry_at most-right
most-rule k h = at nothing most-right words tt k h

-- the counts of an entry, by its number
pub least-of : (k : ℕ) → k < 51 → least_operands (entry_at k).number ≡ (entry_at k).least
unfolding least-right
least-of k h = eqb→eq (least_operands (entry_at k).number) (entry_at k).least (least-rule k h)

pub most-of : (k : ℕ) → k < 51 → most_operands (entry_at k).number ≡ (entry_at k).most
unfolding most-right
most-of k h = eqb→eq (most_operands (entry_at k).number) (entry_at k).most (most-rule k h)
