-- The definitions against the integers, at every width.
-- Assumes nothing.
use Rattle.std.proofs.Common.{◌≡◌, ℕ, zero, suc, ◌+◌, ◌-◌, ◌*◌, ◌/◌, ◌%◌, ◌^◌, ◌<◌, ◌≤◌, Bool, true, false, not, ltb, leb, ℤ, pos, negsuc, neg_ℤ, sym, refl, ap, ◌∙◌, mod-eq_of_lt, pow-suc, arith, pow_pos, ltb-false, ltb-true, le-ltb, lt-ltb, eq-eqb, eqb-true, le-leb, leb-false, leb-true}
use native.Mathlib.Nat.{mod_self, mod-eq-sub-mod}
use borrow.Author.Tests.{lt-leb}
use lib.Signed.{quot_z, rem_z, lt_z, le_z}
use Rattle.base_prelude.specs.Choice.{pick}
use Rattle.base_word.specs.Values.{value, word_of}
use Rattle.base_word.specs.Word.{negative, negated, signed_word, differ, quotient, remainder, lt_of, gt_of, ge_of, le_of, eq_of, ne_of}

-- the word of -n
negated-is : (w n : ℕ) → word_of w (neg_ℤ (pos n)) ≡ negated w n
negated-is w zero = let e : 2 ^ w - 0 ≡ 2 ^ w = omega arith in rw e (sym (mod_self (2 ^ w)))
negated-is w (suc n) = sym (mod-eq_of_lt (let p : 0 < 2 ^ w = pow_pos w in omega arith))

suc-minus : (m c : ℕ) → c < m → suc (m - suc c) ≡ m - c
suc-minus m c h = omega arith

-- a word is the word of its signed value
pub word_value : (w a : ℕ) → a < 2 ^ w → word_of w (value w a) ≡ a
word_value w a h = go (negative w a)
  where
    go : (s : Bool) → word_of w (pick s (negsuc (2 ^ w - suc a)) (pos a)) ≡ a
    go true = omega arith
    go false = refl

module _ (w a b : ℕ) (ha : a < 2 ^ w) (hb : b < 2 ^ w) where
  quotient-go : (s t : Bool) → word_of w (quot_z (pick s (negsuc (2 ^ w - suc a)) (pos a)) (pick t (negsuc (2 ^ w - suc b)) (pos b)))
      ≡ signed_word w (differ s t) (pick s (2 ^ w - a) a / pick t (2 ^ w - b) b)
  quotient-go true true = rw (suc-minus (2 ^ w) a ha, suc-minus (2 ^ w) b hb)
  quotient-go true false = rw (suc-minus (2 ^ w) a ha) (negated-is w ((2 ^ w - a) / b))
  quotient-go false true = rw (suc-minus (2 ^ w) b hb) (negated-is w (a / (2 ^ w - b)))
  quotient-go false false = refl

  -- the quotient is that of the signed values, rounded toward zero
  pub quotient_is : word_of w (quot_z (value w a) (value w b)) ≡ quotient w a b
  quotient_is = quotient-go (negative w a) (negative w b)

  remainder-go : (s t : Bool) → word_of w (rem_z (pick s (negsuc (2 ^ w - suc a)) (pos a)) (pick t (negsuc (2 ^ w - suc b)) (pos b)))
      ≡ signed_word w s (pick s (2 ^ w - a) a % pick t (2 ^ w - b) b)
  remainder-go true true = rw (suc-minus (2 ^ w) a ha, suc-minus (2 ^ w) b hb) (negated-is w ((2 ^ w - a) % (2 ^ w - b)))
  remainder-go true false = rw (suc-minus (2 ^ w) a ha) (negated-is w ((2 ^ w - a) % b))
  remainder-go false true = rw (suc-minus (2 ^ w) b hb)
  remainder-go false false = refl

  -- the remainder is that of the signed values, with the sign of the first
  pub remainder_is : word_of w (rem_z (value w a) (value w b)) ≡ remainder w a b
  remainder_is = remainder-go (negative w a) (negative w b)

-- ---- the order

same-ltb : (a b c d : ℕ) → (a < b → c < d) → (b ≤ a → d ≤ c) → ltb a b ≡ ltb c d
same-ltb a b c d f g = go (ltb a b) refl
  where
    go : (t : Bool) → ltb a b ≡ t → t ≡ ltb c d
    go true e = sym (lt-ltb c d (f (ltb-true a b e)))
    go false e = sym (le-ltb c d (g (ltb-false a b e)))

not-ltb : (a b : ℕ) → not (ltb a b) ≡ leb b a
not-ltb a b = go (ltb a b) refl
  where
    go : (t : Bool) → ltb a b ≡ t → not t ≡ leb b a
    go true e = sym (lt-leb b a (ltb-true a b e))
    go false e = sym (le-leb b a (ltb-false a b e))

not_lt_z : (x y : ℤ) → not (lt_z x y) ≡ le_z y x
not_lt_z (pos a) (pos b) = not-ltb a b
not_lt_z (pos a) (negsuc b) = refl
not_lt_z (negsuc a) (pos b) = refl
not_lt_z (negsuc a) (negsuc b) = not-ltb b a

module _ (h m : ℕ) (e : m ≡ h + h) where
  rank-high : (a : ℕ) → h ≤ a → a < m → (a + h) % m ≡ a - h
  rank-high a p q =
      let d : a + h - m ≡ a - h = omega arith
      in rw (mod-eq-sub-mod {n = a + h} {m = m} (omega arith), d) (mod-eq_of_lt (omega arith))

  rank-low : (a : ℕ) → a < h → (a + h) % m ≡ a + h
  rank-low a p = mod-eq_of_lt (omega arith)

  module _ (a b : ℕ) (p : a < m) (q : b < m) where
    both-minus : h ≤ a → h ≤ b → ltb ((a + h) % m) ((b + h) % m) ≡ ltb (m - suc b) (m - suc a)
    both-minus u v =
        rw (rank-high a u p, rank-high b v q)
        (same-ltb (a - h) (b - h) (m - suc b) (m - suc a) (λ l. omega arith) (λ l. omega arith))

    first-minus : h ≤ a → b < h → ltb ((a + h) % m) ((b + h) % m) ≡ true
    first-minus u v = rw (rank-high a u p, rank-low b v) (lt-ltb (a - h) (b + h) (omega arith))

    second-minus : a < h → h ≤ b → ltb ((a + h) % m) ((b + h) % m) ≡ false
    second-minus u v = rw (rank-low a u, rank-high b v q) (le-ltb (a + h) (b - h) (omega arith))

    none-minus : a < h → b < h → ltb ((a + h) % m) ((b + h) % m) ≡ ltb a b
    none-minus u v = rw (rank-low a u, rank-low b v) (same-ltb (a + h) (b + h) a b (λ l. omega arith) (λ l. omega arith))

    order : (s t : Bool) → leb h a ≡ s → leb h b ≡ t
        → ltb ((a + h) % m) ((b + h) % m) ≡ lt_z (pick s (negsuc (m - suc a)) (pos a)) (pick t (negsuc (m - suc b)) (pos b))
    order true true u v = both-minus (leb-true h a u) (leb-true h b v)
    order true false u v = first-minus (leb-true h a u) (leb-false h b v)
    order false true u v = second-minus (leb-false h a u) (leb-true h b v)
    order false false u v = none-minus (leb-false h a u) (leb-false h b v)

-- the words without and with the sign bit are equally many
pub halves : (w : ℕ) → 0 < w → 2 ^ w ≡ 2 ^ (w - 1) + 2 ^ (w - 1)
halves w p =
    let e : w ≡ suc (w - 1) = omega arith in let d : 2 ^ suc (w - 1) ≡ 2 ^ (w - 1) * 2 = pow-suc 2 (w - 1)
    in ap (λ (n : ℕ). 2 ^ n) e ∙ omega (arith, d)

module _ (w a b : ℕ) (pw : 0 < w) (ha : a < 2 ^ w) (hb : b < 2 ^ w) where
  -- the test `lt` is the order of the signed values
  pub lt-is : lt_of w a b ≡ lt_z (value w a) (value w b)
  unfolding lt_of
  lt-is = order (2 ^ (w - 1)) (2 ^ w) (halves w pw) a b ha hb (negative w a) (negative w b) refl refl

  pub ge-is : ge_of w a b ≡ le_z (value w b) (value w a)
  unfolding ge_of
  ge-is = ap not lt-is ∙ not_lt_z (value w a) (value w b)

  -- equal words have equal signed values
  pub eq_is : eq_of w a b ≡ true → value w a ≡ value w b
  unfolding eq_of
  eq_is e = ap (value w) (eqb-true a b e)

  -- equal signed values are those of equal words
  pub eq-if : value w a ≡ value w b → eq_of w a b ≡ true
  unfolding eq_of
  eq-if e = eq-eqb a b (sym (word_value w a ha) ∙ ap (word_of w) e ∙ word_value w b hb)

  pub ne-is : ne_of w a b ≡ not (eq_of w a b)
  unfolding ne_of
  ne-is = refl

module _ (w a b : ℕ) (pw : 0 < w) (ha : a < 2 ^ w) (hb : b < 2 ^ w) where
  pub gt-is : gt_of w a b ≡ lt_z (value w b) (value w a)
  unfolding gt_of
  gt-is = lt-is w b a pw hb ha

  pub le_is : le_of w a b ≡ le_z (value w a) (value w b)
  unfolding le_of
  le_is = ap not (lt-is w b a pw hb ha) ∙ not_lt_z (value w b) (value w a)
