-- The loops over a unit's tokens and labels.
-- Assumes nothing.
use mathlib.Core.Path.{◌≡◌, refl, sym, ◌∙◌, ap}
use mathlib.Core.Bool.{Bool, true, false}
use mathlib.Core.List.{List, [], ◌∷◌}
use lib.Dec.{T, leb, leb→le}
use Rattle.base_prelude.specs.Choice.{pick}
use Rattle.base_prelude.proofs.Table.{and, and_left, and_right}
use Rattle.lang_words.specs.Words.{Entry, words, first_of, is_number, entry_of, most_operands}
use Prim.Native.Nat.{ℕ, zero, suc, ◌+◌, ◌-◌, ◌≤◌, ◌<◌, min}
use native.Mathlib.Nat.{min-eq_right, min-eq_left, min-le_right, le_trans}
use native.Mathlib.Omega.{arith}
use Rattle.base_prelude.specs.Fault.{none}
use Rattle.base_prelude.proofs.Choice.{either-eq}
use Rattle.parse_rules.specs.Rules.{token_key, tokens_least, label_step, labels_from, labelled}
use Rattle.parse_rules.specs.declared.Labelled.{Labelled}

pub min_assoc : (a b c : ℕ) → min (min a b) c ≡ min a (min b c)
min_assoc a b c = omega arith

tokens-low : (left : ℕ) (t : List ℕ) (n own i : ℕ) → tokens_least left t n own i ≤ none
unfolding tokens_least
tokens-low zero t n own i = omega arith
tokens-low (suc left) t n own i = le_trans (min-le_right (token_key t n own i) (tokens_least left t n own (i + 1))) (tokens-low left t n own (i + 1))

pub record Scanning (t : List ℕ) (n own from next best i : ℕ) : Type 0 where
  pub rest : min best (tokens_least (next - i) t n own i) ≡ tokens_least (next - from) t n own from

module _ (t : List ℕ) (n own from next : ℕ) where
  pub scanning-start : Scanning t n own from next none from
  scanning-start = record { rest = min-eq_right (tokens-low (next - from) t n own from) }

  step_is : (i left : ℕ) → tokens_least (suc left) t n own i ≡ min (token_key t n own i) (tokens_least left t n own (i + 1))
  unfolding tokens_least
  step_is i left = refl

  none_is : (i : ℕ) → tokens_least 0 t n own i ≡ none
  unfolding tokens_least
  none_is i = refl

  pub scanning-more : (best best' i : ℕ) → Scanning t n own from next best i → i < next → best' ≡ min best (token_key t n own i) → Scanning t n own from next best' (i + 1)
  scanning-more best best' i h l e =
      let q : next - i ≡ suc (next - (i + 1)) = omega arith in
      record {
        rest = ap (λ (b : ℕ). min b (tokens_least (next - (i + 1)) t n own (i + 1))) e ∙ min_assoc best (token_key t n own i) (tokens_least (next - (i + 1)) t n own (i + 1))
            ∙ ap (min best) (sym (ap (λ (m : ℕ). tokens_least m t n own i) q ∙ step_is i (next - (i + 1)))) ∙ h.rest;
      }

  pub scanning-done : (best i : ℕ) → Scanning t n own from next best i → best ≤ none → next ≤ i → best ≡ tokens_least (next - from) t n own from
  scanning-done best i h b l =
      let q : next - i ≡ 0 = omega arith in
      sym (min-eq_left b) ∙ ap (min best) (sym (ap (λ (m : ℕ). tokens_least m t n own i) q ∙ none_is i)) ∙ h.rest

pub record Tokening (t : List ℕ) (n own from next best i : ℕ) : Type 0 where
  pub low : best ≤ none
  pub scans : Scanning t n own from next best i

module _ (t : List ℕ) (n own from next : ℕ) where
  pub tokening-start : Tokening t n own from next none from
  tokening-start = record { low = omega arith; scans = scanning-start t n own from next }

  pub tokening-more : (best best' k i : ℕ) → Tokening t n own from next best i → i < next → k ≡ token_key t n own i → best' ≡ min best k → Tokening t n own from next best' (i + 1)
  tokening-more best best' k i h l p e = record { low = omega (arith, h.low); scans = scanning-more t n own from next best best' i h.scans l (e ∙ ap (min best) p) }

  pub tokening-done : (best i : ℕ) → Tokening t n own from next best i → next ≤ i → best ≡ tokens_least (next - from) t n own from
  tokening-done best i h l = scanning-done t n own from next best i h.scans h.low l

pub ruleset tokening = (tokening-start, tokening-more, tokening-done)

-- the loop of `labels_from`
pub record Labels (t : List ℕ) (n first end c : ℕ) (x : Labelled) (i : ℕ) : Type 0 where
  pub behind : first ≤ i
  pub few : x.count ≤ c + (i - first)
  pub rest : labels_from (end - i) t n i x ≡ labels_from (end - first) t n first (labelled none c)

module _ (t : List ℕ) (n first end c : ℕ) where
  pub labels-start : Labels t n first end c (labelled none c) first
  labels-start = record { behind = omega arith; few = omega arith; rest = refl }

  more-is : (i left : ℕ) (x : Labelled) → labels_from (suc left) t n i x ≡ labels_from left t n (i + 1) (label_step t n i x)
  unfolding labels_from
  more-is i left x = refl

  end_is : (i : ℕ) (x : Labelled) → labels_from 0 t n i x ≡ x
  unfolding labels_from
  end_is i x = refl

  count-step : (i : ℕ) (x : Labelled) → (label_step t n i x).count ≤ x.count + 1
  unfolding label_step
  count-step i x = either-eq (λ (y : Labelled). y.count ≤ x.count + 1) _ 2 _ _ (λ _. omega arith) (λ _. omega arith)

  pub labels-more : (x x' : Labelled) (i : ℕ) → Labels t n first end c x i → i < end → x' ≡ label_step t n i x → Labels t n first end c x' (i + 1)
  labels-more x x' i h l e =
      let q : end - i ≡ suc (end - (i + 1)) = omega arith in
      record {
        behind = omega (arith, h.behind);
        few = omega (arith, h.few, h.behind, count-step i x, ap (λ (y : Labelled). y.count) e);
        rest = ap (λ (y : Labelled). labels_from (end - (i + 1)) t n (i + 1) y) e ∙ sym (ap (λ (m : ℕ). labels_from m t n i x) q ∙ more-is i (end - (i + 1)) x) ∙ h.rest;
      }

  pub labels-done : (x : Labelled) (i : ℕ) → Labels t n first end c x i → end ≤ i → x ≡ labels_from (end - first) t n first (labelled none c)
  labels-done x i h l =
      let q : end - i ≡ 0 = omega arith in
      sym (ap (λ (m : ℕ). labels_from m t n i x) q ∙ end_is i x) ∙ h.rest

  pub labels-few : (x : Labelled) (i : ℕ) → Labels t n first end c x i → i < end → end ≤ 4097 → c ≤ 4097 → x.count < 4294967295
  labels-few x i h l a b = omega (arith, h.few)

pub ruleset labelling = (labels-start, labels-more, labels-done)

-- no word takes more than 65 operands
low-most : Entry → Bool
low-most e = leb e.most 65

all-low : List Entry → Bool
all-low [] = true
all-low (e ∷ es) = and (low-most e) (all-low es)

first-low : (test : Entry → Bool) (es : List Entry) → T (all-low es) → (first_of test es).most ≤ 65
unfolding first_of all-low low-most
first-low test [] h = omega arith
first-low test (e ∷ es) h = by (test e) (first-low test es (and_right (leb e.most 65) (all-low es) h))
  where
    by : (b : Bool) → (first_of test es).most ≤ 65 → (pick b e (first_of test es)).most ≤ 65
    by true g = leb→le e.most 65 (and_left (leb e.most 65) (all-low es) h)
    by false g = g

words-low : T (all-low words)
unfolding words all-low low-most
words-low = tt

pub most-low : (w : ℕ) → most_operands w ≤ 65
unfolding most_operands entry_of
most-low w = first-low (is_number w) words words-low

pub list-fits : (word most w : ℕ) → word ≤ 4097 → most ≡ most_operands w → word + 1 + most < 4294967296
list-fits word most w h e = omega (arith, most-low w)
