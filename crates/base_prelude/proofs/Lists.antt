-- Lists compared place by place, and a table cleared word by word.
-- Assumes nothing.
use mathlib.Core.Path.{◌≡◌, refl, sym, ◌∙◌, ap, ap₂}
use mathlib.Core.Bool.{Bool, true, false}
use mathlib.Core.List.{List, [], ◌∷◌, ◌++◌, append-nil}
use Prim.Native.Nat.{ℕ, suc, ◌+◌, ◌-◌, ◌≤◌, ◌<◌}
use native.Mathlib.Numerals.{add-one}
use native.Mathlib.Omega.{arith}
use lib.Dec.{T, eqb}
use lib.Pointwise.{pointwise}
use borrow.Rule.Slice.PartMut.{put_mid}
use Rattle.std.proofs.Common.{◌&&◌, length-take, length-drop}
use lib.ListN.{length, take, drop, set, replicate, drop_of_length-le, length-set}
use lib.Seq.{take-suc-set, append_snoc, take_all}
use borrow.Author.Tests.{eqb-true, eq-eqb}
use Rattle.base_prelude.specs.Choice.{pick}
use Rattle.base_prelude.specs.Lists.{same_list, cleared_from}

-- the test passes exactly for equal lists
pub same-is : (a b : List ℕ) → T (same_list a b) → a ≡ b
unfolding same_list
same-is [] [] t = refl
same-is [] (y ∷ b) t = absurd t
same-is (x ∷ a) [] t = absurd t
same-is (x ∷ a) (y ∷ b) t = both-are (eqb x y) refl (λ u. same-is a b u) t
  where
    both-are : (e : Bool) → eqb x y ≡ e → (T (same_list a b) → a ≡ b) → T (pick e (same_list a b) false) → x ∷ a ≡ y ∷ b
    both-are true q f t = ap₂ ◌∷◌ (eqb-true x y q) (f t)
    both-are false q f t = absurd t

pub same_refl : (a : List ℕ) → same_list a a ≡ true
unfolding same_list
same_refl [] = refl
same_refl (x ∷ a) = ap (λ (t : Bool). pick t (same_list a a) false) (eq-eqb x x refl) ∙ same_refl a

-- the library's comparison, pair by pair
pub pointwise-same : (a b : List ℕ) → pointwise eqb a b ≡ same_list a b
unfolding same_list
pointwise-same [] [] = refl
pointwise-same [] (y ∷ b) = refl
pointwise-same (x ∷ a) [] = refl
pointwise-same (x ∷ a) (y ∷ b) = ap (λ (t : Bool). eqb x y && t) (pointwise-same a b) ∙ chosen (eqb x y) (same_list a b)
  where
    chosen : (t u : Bool) → (t && u) ≡ pick t u false
    chosen true u = refl
    chosen false u = refl

-- a part from a place on, filled with zeros
pub zeroed-part : (t : List ℕ) (i : ℕ) (m : List ℕ) → i ≤ length t → m ≡ replicate (length (take (length t - i) (drop i t))) 0 → put_mid i (length t - i) t m ≡ cleared_from t i
unfolding cleared_from
zeroed-part t i m h e =
    ap₂ (λ (a b : List ℕ). take i t ++ (a ++ b)) (e ∙ ap (λ (n : ℕ). replicate n 0) whole) none ∙ ap (λ (l : List ℕ). take i t ++ l) (append-nil _)
  where
    whole : length (take (length t - i) (drop i t)) ≡ length t - i
    whole = simp (length-take, length-drop) (omega arith)

    none : drop (length t - i) (drop i t) ≡ []
    none = drop_of_length-le (drop i t) (omega (arith, length-drop i t))

-- the loop of `clear_from`
pub clear_step : (t : List ℕ) (i : ℕ) → i < length t → cleared_from (set t i 0) (i + 1) ≡ cleared_from t i
unfolding cleared_from
clear_step t i h =
    rw (add-one, length-set, take-suc-set)
    (append_snoc (take i t) 0 (replicate (length t - suc i) 0) ∙ ap (λ (n : ℕ). take i t ++ replicate n 0) less)
  where
    less : suc (length t - suc i) ≡ length t - i
    less = omega arith

pub clear-done : (t : List ℕ) (i : ℕ) → length t ≤ i → cleared_from t i ≡ t
unfolding cleared_from
clear-done t i h = ap (λ (n : ℕ). take i t ++ replicate n 0) none ∙ append-nil (take i t) ∙ take_all i t h
  where
    none : length t - i ≡ 0
    none = omega arith

pub record Clearing (t₀ : List ℕ) (from : ℕ) (t : List ℕ) (i : ℕ) : Type 0 where
  pub long : length t ≡ length t₀
  pub same : cleared_from t i ≡ cleared_from t₀ from

pub clearing-start : (t : List ℕ) (from : ℕ) → Clearing t from t from
clearing-start t from = record { long = refl; same = refl }

pub clearing-more : (t₀ : List ℕ) (from : ℕ) (t : List ℕ) (i : ℕ) → Clearing t₀ from t i → i < length t → Clearing t₀ from (set t i 0) (i + 1)
clearing-more t₀ from t i h l = record { long = length-set t i 0 ∙ h.long; same = clear_step t i l ∙ h.same }

pub clearing-done : (t₀ : List ℕ) (from : ℕ) (t : List ℕ) (i : ℕ) → Clearing t₀ from t i → length t ≤ i → t ≡ cleared_from t₀ from
clearing-done t₀ from t i h l = sym (clear-done t i l) ∙ h.same

pub ruleset clearing = (clearing-start, clearing-more, clearing-done)
