-- The ways through the functions on nesting and scope.
-- Assumes nothing.
use mathlib.Core.Path.{◌≡◌, refl, ap}
use mathlib.Core.Bool.{Bool, true, false}
use Prim.Native.Nat.{ℕ, suc, ◌+◌, ◌-◌, ◌<◌, ◌≤◌}
use native.Mathlib.Numerals.{add-one}
use native.Mathlib.Omega.{arith}
use borrow.Author.Tests.{eq-eqb, ne_eqb, le-leb, lt-leb}
use lib.Dec.{eqb}
use Rattle.base_prelude.specs.Choice.{if_true, if_eq}
use Rattle.std.specs.Option.{unwrap_or}
use Rattle.std.specs.declared.option.Option.{Option}
use Rattle.prog_tables.specs.Tests.{count_below}
use Rattle.prog_tables.proofs.First.{FirstOf, first-is, first-within}
use Rattle.prog_tables.specs.Statement.{Row, is_test}
use Rattle.prog_tables.specs.Nesting.{is_arm, is_end_if, next_arm, end_if_of, past_arm, target_of, encloses}
use Rattle.prog_tables.specs.Frames.{lets_before, first_let, let_seen, locals_at}

-- ---- one row

module _ (f : ℕ → Row) (u i x : ℕ) (e : x ≡ (f i).up) where
  pub arm_in : (k : ℕ) → x ≡ u → k ≡ (f i).kind → 20 ≤ k → k ≤ 22 → true ≡ is_arm f u i
  unfolding is_arm
  arm_in k h d l m = rw (← e, ← d, eq-eqb _ _ h, le-leb _ _ l, le-leb _ _ m)

  pub arm_low : (k : ℕ) → x ≡ u → k ≡ (f i).kind → k < 20 → false ≡ is_arm f u i
  unfolding is_arm
  arm_low k h d l = rw (← e, ← d, eq-eqb _ _ h, lt-leb _ _ l)

  pub arm_high : (k : ℕ) → x ≡ u → k ≡ (f i).kind → 20 ≤ k → 22 < k → false ≡ is_arm f u i
  unfolding is_arm
  arm_high k h d l m = rw (← e, ← d, eq-eqb _ _ h, le-leb _ _ l, lt-leb _ _ m)

  pub arm-other : (x ≡ u → ⊥) → eqb x u ≡ is_arm f u i
  unfolding is_arm
  arm-other h = rw (← e, ne_eqb _ _ h)

  pub end-in : (k : ℕ) → x ≡ u → k ≡ (f i).kind → eqb k 22 ≡ is_end_if f u i
  unfolding is_end_if
  end-in k h d = rw (← e, ← d, eq-eqb _ _ h)

  pub end-other : (x ≡ u → ⊥) → eqb x u ≡ is_end_if f u i
  unfolding is_end_if
  end-other h = rw (← e, ne_eqb _ _ h)

pub ruleset armed = (arm_in, arm_low, arm_high, arm-other, end-in, end-other)

-- ---- the searches: from n + 1 on, below c

module _ (f : ℕ → Row) (c n u : ℕ) (o : Option ℕ) (l : n < c) (e : u ≡ (f n).up) where
  pub arm-first : FirstOf (is_arm f u) (n + 1) c o → unwrap_or o c ≡ next_arm f c n
  unfolding next_arm
  arm-first h = rw (← e, ← add-one n) (first-is (is_arm f u) (n + 1) c o (omega arith) h)

  pub end-first : FirstOf (is_end_if f u) (n + 1) c o → unwrap_or o c ≡ end_if_of f c n
  unfolding end_if_of
  end-first h = rw (← e, ← add-one n) (first-is (is_end_if f u) (n + 1) c o (omega arith) h)

pub ruleset finding = (arm-first, end-first, first-within)

-- ---- targets

module _ (f : ℕ → Row) (c n k : ℕ) (b : Bool) (e : k ≡ (f n).kind) (d : b ≡ is_test k) where
  module _ (m j : ℕ) (q : b ≡ true) (a : m ≡ next_arm f c n) (g : j ≡ (f m).kind) where
    pub target-end : j ≡ 22 → m ≡ target_of f c n
    unfolding target_of past_arm if_true if_eq
    target-end h = rw (← e, ← d, q, ← a, ← g, eq-eqb _ _ h)

    pub target_past : (j ≡ 22 → ⊥) → m + 1 ≡ target_of f c n
    unfolding target_of past_arm if_true if_eq
    target_past h = rw (← e, ← d, q, ← a, ← g, ne_eqb _ _ h) (add-one m)

  pub target-else : (m : ℕ) → b ≡ false → m ≡ end_if_of f c n → m ≡ target_of f c n
  unfolding target_of if_true
  target-else m q a = rw (← e, ← d, q) a

pub ruleset aiming = (target-end, target_past, target-else)

-- ---- frames around a frame

module _ (f : ℕ → Row) (fuel e s : ℕ) where
  pub around-zero : fuel ≡ 0 → eqb s e ≡ encloses f fuel e s
  unfolding encloses
  around-zero p = rw p

  module _ (p : fuel ≡ 0 → ⊥) where
    left : fuel ≡ suc (fuel - 1)
    left = omega arith

    pub around-self : s ≡ e → true ≡ encloses f fuel e s
    unfolding encloses if_eq
    around-self q = rw (left, eq-eqb _ _ q)

    pub around-block : (k o : ℕ) (b : Bool) → (s ≡ e → ⊥) → k ≡ (f s).kind → k ≡ 3 → o ≡ (f s).scope → b ≡ encloses f (fuel - 1) e o → b ≡ encloses f fuel e s
    unfolding encloses if_eq
    around-block k o b q g h d r = rw (left, ne_eqb _ _ q, ← g, eq-eqb _ _ h, ← d) r

    pub around-out : (k : ℕ) → (s ≡ e → ⊥) → k ≡ (f s).kind → (k ≡ 3 → ⊥) → eqb k 3 ≡ encloses f fuel e s
    unfolding encloses if_eq
    around-out k q g h = rw (left, ne_eqb _ _ q, ← g, ne_eqb _ _ h)

pub ruleset around = (around-zero, around-self, around-block, around-out)

-- ---- words

module _ (f : ℕ → Row) (c fuel s : ℕ) where
  pub first-zero : fuel ≡ 0 → 0 ≡ first_let f c fuel s
  unfolding first_let
  first-zero p = rw p

  module _ (k : ℕ) (p : fuel ≡ 0 → ⊥) (g : k ≡ (f s).kind) where
    less : fuel ≡ suc (fuel - 1)
    less = omega arith

    pub first_block : (e w lets : ℕ) → k ≡ 3 → e ≡ (f s).scope → w ≡ first_let f c (fuel - 1) e → lets ≡ lets_before f e c → w + lets + 1 ≡ first_let f c fuel s
    unfolding first_let if_eq
    first_block e w lets h d q r = rw (less, ← g, eq-eqb _ _ h, ← d, ← q, ← r) (add-one (w + lets))

    pub first_function : (b : ℕ) → (k ≡ 3 → ⊥) → b ≡ (f s).b → 3 + b ≡ first_let f c fuel s
    unfolding first_let if_eq
    first_function b h d = rw (less, ← g, ne_eqb _ _ h, ← d)

pub ruleset firsts = (first-zero, first_block, first_function)

-- ---- scope

module _ (f : ℕ → Row) (s i : ℕ) where
  module _ (k : ℕ) (g : k ≡ (f i).kind) where
    pub seen-let : (e : ℕ) (b : Bool) → k ≡ 5 → e ≡ (f i).scope → b ≡ encloses f 17 e s → b ≡ let_seen f s i
    unfolding let_seen
    seen-let e b h d q = rw (← g, eq-eqb _ _ h, ← d) q

    pub seen_other : (k ≡ 5 → ⊥) → eqb k 5 ≡ let_seen f s i
    unfolding let_seen
    seen_other h = rw (← g, ne_eqb _ _ h)

pub ruleset seeing = (seen-let, seen_other)

-- the loop of `locals_at`
pub record Seeing (f : ℕ → Row) (s n seen i : ℕ) : Type 0 where
  pub below : i ≤ n
  pub few : seen ≤ i
  pub same : seen ≡ count_below (let_seen f s) i

pub seeing-start : (f : ℕ → Row) (s n : ℕ) → Seeing f s n 0 0
unfolding count_below
seeing-start f s n = record { below = omega arith; few = omega arith; same = refl }

module _ (f : ℕ → Row) (s n seen i : ℕ) (h : Seeing f s n seen i) where
  module _ (b : Bool) (l : i < n) (e : b ≡ let_seen f s i) where
    pub seeing-let : (m : ℕ) → b ≡ true → m ≡ seen + 1 → Seeing f s n m (i + 1)
    unfolding count_below
    seeing-let m p q =
        record { below = omega arith; few = omega (arith, h.few); same = rw (q, add-one seen, add-one i, ← e, p) (ap suc h.same) }

    pub seeing-other : (m : ℕ) → b ≡ false → m ≡ seen → Seeing f s n m (i + 1)
    unfolding count_below
    seeing-other m p q = record { below = omega arith; few = omega (arith, h.few); same = rw (q, add-one i, ← e, p) h.same }

  pub seeing-done : (g p x y : ℕ) → n ≤ i → s ≡ (f n).scope → g ≡ (f n).func → p ≡ (f g).b → x ≡ p → y ≡ seen → x + y ≡ locals_at f n
  unfolding locals_at
  seeing-done g p x y l q d r k m = let e : i ≡ n = omega (arith, h.below) in rw (← q, ← d, ← r, k, m) (ap (λ (k : ℕ). p + k) (rw e at h.same))

pub ruleset counted = (seeing-start, seeing-let, seeing-other, seeing-done)
