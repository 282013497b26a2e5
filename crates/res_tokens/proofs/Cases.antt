-- One law for each way through a function of this crate, and its loops: what is written so far.
-- Assumes nothing.
use mathlib.Core.Path.{◌≡◌, refl, sym, ◌∙◌, ap}
use mathlib.Core.List.{List}
use Prim.Native.Nat.{ℕ, zero, suc, ◌+◌, ◌*◌, ◌<◌, ◌≤◌}
use native.Mathlib.Numerals.{add-one}
use native.Mathlib.Omega.{arith}
use lib.ListN.{length, set, length-set}
use Rattle.base_prelude.proofs.Choice.{either, if_lt-yes, if_lt-no}
use Rattle.res_scope.specs.Lines.{first_token}
use Rattle.res_tokens.specs.TokenTable.{statement_marked, statements_marked, unmarked}

-- ---- the loop of `clear_marks`

length-unmarked : (i : ℕ) (out : List ℕ) → length (unmarked i out) ≡ length out
unfolding unmarked
length-unmarked zero out = refl
length-unmarked (suc i) out = length-set (unmarked i out) (i * 8 + 7) 0 ∙ length-unmarked i out

pub record Clearing (n : ℕ) (out₀ out : List ℕ) (i : ℕ) : Type 0 where
  pub long : length out ≡ length out₀
  pub below : i ≤ n
  pub so_far : out ≡ unmarked i out₀

module _ (n : ℕ) (out₀ : List ℕ) where
  pub clearing-start : Clearing n out₀ out₀ 0
  unfolding unmarked
  clearing-start = record { long = refl; below = omega arith; so_far = refl }

  module _ (out : List ℕ) (i : ℕ) (h : Clearing n out₀ out i) where
    pub clearing-room : i < n → n * 8 ≤ length out₀ → i * 8 + 7 < length out
    clearing-room g f = omega (arith, h.long)

    pub clearing-more : i < n → Clearing n out₀ (set out (i * 8 + 7) 0) (i + 1)
    unfolding unmarked
    clearing-more g =
        record {
          long = length-set out (i * 8 + 7) 0 ∙ h.long;
          below = omega arith;
          so_far = rw (add-one i) (ap (λ (x : List ℕ). set x (i * 8 + 7) 0) h.so_far);
        }

    pub clearing-same : length out ≡ length out₀
    clearing-same = h.long

    pub clearing-done : n ≤ i → out ≡ unmarked n out₀
    clearing-done g = let e : i ≡ n = omega (arith, h.below) in h.so_far ∙ ap (λ (j : ℕ). unmarked j out₀) e

pub ruleset clearing = (clearing-start, clearing-more, clearing-done)

-- ---- where a statement begins

module _ (k : List ℕ) (n r : ℕ) (out : List ℕ) (i : ℕ) (e : i ≡ first_token k r) where
  pub begin-yes : i < n → set out (i * 8 + 7) (r + 1) ≡ statement_marked k n r out
  unfolding statement_marked
  begin-yes h = rw (← e) (sym (if_lt-yes _ _ h))

  pub begin-no : n ≤ i → out ≡ statement_marked k n r out
  unfolding statement_marked
  begin-no h = rw (← e) (sym (if_lt-no _ _ h))

pub ruleset beginning = (begin-yes, begin-no)

length-begin : (k : List ℕ) (n r : ℕ) (out : List ℕ) → length (statement_marked k n r out) ≡ length out
unfolding statement_marked
length-begin k n r out = either (λ (x : List ℕ). length x ≡ length out) _ n _ _ (λ _. length-set out _ _) (λ _. refl)

-- ---- the loop of `mark_statements`

pub record Marking (k : List ℕ) (c n : ℕ) (out₀ out : List ℕ) (r : ℕ) : Type 0 where
  pub long : length out ≡ length out₀
  pub below : r ≤ c
  pub so_far : out ≡ statements_marked r k n out₀

module _ (k : List ℕ) (c n : ℕ) (out₀ : List ℕ) where
  pub marking-start : Marking k c n out₀ out₀ 0
  unfolding statements_marked
  marking-start = record { long = refl; below = omega arith; so_far = refl }

  module _ (out : List ℕ) (r : ℕ) (h : Marking k c n out₀ out r) where
    pub marking-room : n * 8 ≤ length out₀ → n * 8 ≤ length out
    marking-room f = omega (arith, h.long)

    pub marking-more : (out' : List ℕ) → r < c → out' ≡ statement_marked k n r out → Marking k c n out₀ out' (r + 1)
    unfolding statements_marked
    marking-more out' g e =
        record {
          long = ap length e ∙ length-begin k n r out ∙ h.long;
          below = omega arith;
          so_far = rw (add-one r) (e ∙ ap (statement_marked k n r) h.so_far);
        }

    pub marking-same : length out ≡ length out₀
    marking-same = h.long

    pub marking-done : c ≤ r → out ≡ statements_marked c k n out₀
    marking-done g = let e : r ≡ c = omega (arith, h.below) in h.so_far ∙ ap (λ (j : ℕ). statements_marked j k n out₀) e

pub ruleset marking = (marking-start, marking-more, marking-done)
