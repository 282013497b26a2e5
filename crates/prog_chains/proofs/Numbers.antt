-- Numbers below a bound: some of them, how many of them, and what passes when they are numbered in order.
-- Assumes nothing.
use mathlib.Core.Path.{◌≡◌, refl, sym, ◌∙◌, ap}
use mathlib.Core.Bool.{Bool, true, false}
use mathlib.Core.List.{List, [], ◌∷◌}
use Prim.Native.Nat.{ℕ, zero, suc, ◌+◌, ◌<◌, ◌≤◌}
use native.Mathlib.Nat.{not-suc-le-zero}
use native.Mathlib.Decide.{ℕ_discrete, dec_lt}
use native.Mathlib.Omega.{arith}
use borrow.Author.Tests.{eq-eqb, ne_eqb, lt-ltb, le-ltb, le-leb, lt-leb}
use lib.Dec.{eqb, ltb, leb}
use Rattle.base_prelude.specs.Choice.{pick}
use Rattle.prog_tables.specs.Tests.{both, one_of, all, all_of, all_below, some_below, count_below}
use Rattle.prog_tables.proofs.Each.{both_false}

pub eqb-flip : (a b : ℕ) → eqb a b ≡ eqb b a
eqb-flip a b =
    elim (ℕ_discrete a b) [
      | yes e ↦ eq-eqb a b e ∙ sym (eq-eqb b a (sym e))
      | no e ↦ ne_eqb a b e ∙ sym (ne_eqb b a (λ d. e (sym d)))
    ]

-- ---- some, how many

pub some_same : (p q : ℕ → Bool) (n : ℕ) → ((i : ℕ) → i < n → p i ≡ q i) → some_below p n ≡ some_below q n
unfolding some_below
some_same p q zero h = refl
some_same p q (suc n) h =
    ap (λ (b : Bool). one_of b (some_below p n)) (h n (omega arith)) ∙ ap (λ (b : Bool). one_of (q n) b) (some_same p q n (λ i l. h i (omega arith)))

pub some-none : (n : ℕ) → some_below (λ i. false) n ≡ false
unfolding some_below
some-none zero = refl
some-none (suc n) = some-none n

one-four : (a b c d : Bool) → one_of (one_of a b) (one_of c d) ≡ one_of (one_of a c) (one_of b d)
one-four true b c d = refl
one-four false true true d = refl
one-four false true false d = refl
one-four false false true d = refl
one-four false false false d = refl

pub some_or : (p q : ℕ → Bool) (n : ℕ) → some_below (λ i. one_of (p i) (q i)) n ≡ one_of (some_below p n) (some_below q n)
unfolding some_below
some_or p q zero = refl
some_or p q (suc n) = ap (λ (b : Bool). one_of (one_of (p n) (q n)) b) (some_or p q n) ∙ one-four (p n) (q n) (some_below p n) (some_below q n)

pub count_same : (p q : ℕ → Bool) (n : ℕ) → ((i : ℕ) → i < n → p i ≡ q i) → count_below p n ≡ count_below q n
unfolding count_below
count_same p q zero h = refl
count_same p q (suc n) h =
    ap (λ (b : Bool). pick b (suc (count_below p n)) (count_below p n)) (h n (omega arith))
    ∙ ap (λ (m : ℕ). pick (q n) (suc m) m) (count_same p q n (λ i l. h i (omega arith)))

pub count_none : (n : ℕ) → count_below (λ i. false) n ≡ 0
unfolding count_below
count_none zero = refl
count_none (suc n) = count_none n

-- of two tests that no number passes both
pub count-or : (p q : ℕ → Bool) (n : ℕ) → ((i : ℕ) → i < n → p i ≡ true → q i ≡ true → ⊥)
    → count_below (λ i. one_of (p i) (q i)) n ≡ count_below p n + count_below q n
unfolding count_below
count-or p q zero h = refl
count-or p q (suc n) h = step (count-or p q n (λ i l. h i (omega arith))) (p n) (q n) (h n (omega arith))
  where
    step : count_below (λ i. one_of (p i) (q i)) n ≡ count_below p n + count_below q n → (a b : Bool) → (a ≡ true → b ≡ true → ⊥)
        → pick (one_of a b) (suc (count_below (λ i. one_of (p i) (q i)) n)) (count_below (λ i. one_of (p i) (q i)) n)
        ≡ pick a (suc (count_below p n)) (count_below p n) + pick b (suc (count_below q n)) (count_below q n)
    step e true true g = absurd (g refl refl)
    step e true false g = omega arith
    step e false true g = omega arith
    step e false false g = e

pub count-few : (p : ℕ → Bool) (n : ℕ) → count_below p n ≤ n
unfolding count_below
count-few p zero = omega arith
count-few p (suc n) = step (count-few p n) (p n)
  where
    step : count_below p n ≤ n → (b : Bool) → pick b (suc (count_below p n)) (count_below p n) ≤ suc n
    step h true = omega arith
    step h false = omega arith

-- ---- numbers in order

-- w lies among m numbers from v on
among : ℕ → ℕ → ℕ → Bool
among v m w = both (leb v w) (ltb w (v + m))

among_none : (v w : ℕ) → among v 0 w ≡ false
unfolding among
among_none v w =
    elim (dec_lt w v) [
      | yes h ↦ ap (λ (b : Bool). both b (ltb w (v + 0))) (lt-leb v w h)
      | no h ↦ ap (λ (b : Bool). both (leb v w) b) (le-ltb w (v + 0) (omega arith)) ∙ both_false (leb v w)
    ]

-- one number more
among-more : (v m w : ℕ) → one_of (eqb (v + m) w) (among v m w) ≡ among v (suc m) w
unfolding among
among-more v m w =
    elim (ℕ_discrete (v + m) w) [
      | yes e ↦ ap (λ (b : Bool). one_of b (both (leb v w) (ltb w (v + m)))) (eq-eqb (v + m) w e)
          ∙ sym (ap (λ (b : Bool). both b (ltb w (v + suc m))) (le-leb v w (omega arith)) ∙ lt-ltb w (v + suc m) (omega arith))
      | no e ↦ ap (λ (b : Bool). one_of b (both (leb v w) (ltb w (v + m)))) (ne_eqb (v + m) w e) ∙ ap (λ (b : Bool). both (leb v w) b) (same e)
    ]
  where
    same : (v + m ≡ w → ⊥) → ltb w (v + m) ≡ ltb w (v + suc m)
    same e =
        elim (dec_lt w (v + m)) [
          | yes h ↦ lt-ltb w (v + m) h ∙ sym (lt-ltb w (v + suc m) (omega arith))
          | no h ↦ le-ltb w (v + m) (omega arith) ∙ sym (le-ltb w (v + suc m) (past h e))
        ]
      where
        past : ¬ (w < v + m) → (v + m ≡ w → ⊥) → v + suc m ≤ w
        past h e = omega arith

-- what passes p has the numbers from v on, in order: then w is one of theirs where it lies among as many
pub numbered : (p : ℕ → Bool) (a : ℕ → ℕ) (v w n : ℕ) → ((i : ℕ) → i < n → p i ≡ true → a i ≡ v + count_below p i)
    → some_below (λ i. both (p i) (eqb (a i) w)) n ≡ both (leb v w) (ltb w (v + count_below p n))
unfolding some_below count_below among
numbered p a v w zero h = sym (among_none v w)
numbered p a v w (suc n) h = step (numbered p a v w n (λ i l. h i (omega arith))) (p n) (h n (omega arith))
  where
    step : some_below (λ i. both (p i) (eqb (a i) w)) n ≡ both (leb v w) (ltb w (v + count_below p n)) → (b : Bool) → (b ≡ true → a n ≡ v + count_below p n)
        → one_of (both b (eqb (a n) w)) (some_below (λ i. both (p i) (eqb (a i) w)) n)
        ≡ both (leb v w) (ltb w (v + pick b (suc (count_below p n)) (count_below p n)))
    step e true g =
        ap (λ (m : ℕ). one_of (eqb m w) (some_below (λ i. both (p i) (eqb (a i) w)) n)) (g refl)
        ∙ ap (λ (b : Bool). one_of (eqb (v + count_below p n) w) b) e
        ∙ among-more v (count_below p n) w
    step e false g = e

-- ---- all

pub all_same : {X : Type 0} (p q : X → Bool) (xs : List X) → ((x : X) → p x ≡ q x) → all_of p xs ≡ all_of q xs
unfolding all_of
all_same p q [] h = refl
all_same p q (x ∷ xs) h = ap (λ (b : Bool). both b (all_of p xs)) (h x) ∙ ap (λ (b : Bool). both (q x) b) (all_same p q xs h)

-- one that does not pass
pub below-not : (p : ℕ → Bool) (c n : ℕ) → n < c → p n ≡ false → all_below p c ≡ false
unfolding all_below
below-not p zero n h e = absurd (not-suc-le-zero h)
below-not p (suc c) n h e =
    elim (ℕ_discrete n c) [
      | yes q ↦ ap (λ (b : Bool). both b (all_below p c)) (ap p (sym q) ∙ e)
      | no q ↦ ap (λ (b : Bool). both (p c) b) (below-not p c n (omega arith) e) ∙ both_false (p c)
    ]

-- one more that passes
pub below_more : (p : ℕ → Bool) (n : ℕ) → all_below p n ≡ true → p n ≡ true → all_below p (suc n) ≡ true
unfolding all_below
below_more p n h e = ap (λ (b : Bool). both b (all_below p n)) e ∙ h
