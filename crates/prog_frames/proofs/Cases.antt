-- The ways through the functions on lets and on what a frame needs.
-- Assumes nothing.
use mathlib.Core.Path.{◌≡◌, refl, ◌∙◌, ap}
use mathlib.Core.Bool.{Bool, true, false}
use Prim.Native.Nat.{ℕ, suc, ◌+◌, ◌-◌, ◌*◌, ◌<◌, ◌≤◌, max}
use native.Mathlib.Numerals.{add-one}
use native.Mathlib.Omega.{arith}
use borrow.Author.Tests.{eq-eqb, ne_eqb}
use lib.Dec.{eqb}
use Rattle.base_prelude.specs.Choice.{if_true}
use Rattle.prog_tables.specs.Tests.{count_below, greatest_below}
use Rattle.prog_tables.specs.Statement.{Row}
use Rattle.prog_tables.specs.Frames.{is_in, lets_before, block_need, need_of}

module _ (f : ℕ → Row) (k s i x : ℕ) (e : x ≡ (f i).kind) where
  pub in_scope_lem : (y : ℕ) → y ≡ (f i).scope → x ≡ k → eqb y s ≡ is_in f k s i
  unfolding is_in
  in_scope_lem y d h = rw (← e, ← d, eq-eqb _ _ h)

  pub in-other : (x ≡ k → ⊥) → eqb x k ≡ is_in f k s i
  unfolding is_in
  in-other h = rw (← e, ne_eqb _ _ h)

pub ruleset inside = (in_scope_lem, in-other)

-- the loop of `lets_before`
pub record Counting (f : ℕ → Row) (s n lets i : ℕ) : Type 0 where
  pub below : i ≤ n
  pub few : lets ≤ i
  pub same : lets ≡ lets_before f s i

pub counting-start : (f : ℕ → Row) (s n : ℕ) → Counting f s n 0 0
unfolding lets_before count_below
counting-start f s n = record { below = omega arith; few = omega arith; same = refl }

module _ (f : ℕ → Row) (s n lets i : ℕ) (h : Counting f s n lets i) where
  module _ (b : Bool) (l : i < n) (e : b ≡ is_in f 5 s i) where
    pub counting-let : (m : ℕ) → b ≡ true → m ≡ lets + 1 → Counting f s n m (i + 1)
    unfolding lets_before count_below
    counting-let m p q =
        record { below = omega arith; few = omega (arith, h.few); same = rw (q, add-one lets, add-one i, ← e, p) (ap suc h.same) }

    pub counting-other : (m : ℕ) → b ≡ false → m ≡ lets → Counting f s n m (i + 1)
    unfolding lets_before count_below
    counting-other m p q = record { below = omega arith; few = omega (arith, h.few); same = rw (q, add-one, ← e, p) h.same }

  pub counting-done : n ≤ i → lets ≡ lets_before f s n
  counting-done p = let e : i ≡ n = omega (arith, h.below) in rw e at h.same

  pub counting-few : n ≤ i → lets ≤ n
  counting-few p = omega (arith, h.few, h.below)

pub ruleset counting = (counting-let, counting-other, counting-done, counting-few)

-- the loop of `need`
pub record Needing (f : ℕ → Row) (c depth s lets most i : ℕ) : Type 0 where
  pub rows : c ≤ 1024
  pub deep : 0 < depth
  pub shallow : depth ≤ 17
  pub below : i ≤ c
  pub lets-few : lets ≤ c
  pub most-few : most ≤ (depth - 1) * 2000 + 1
  pub lets-are : lets ≡ lets_before f s c
  pub most-is : most ≡ greatest_below (block_need f s (need_of f c (depth - 1))) i

pub need-none : (f : ℕ → Row) (c depth s : ℕ) → depth ≡ 0 → 0 ≡ need_of f c depth s
unfolding need_of
need-none f c depth s p = rw p

pub needing-start : (f : ℕ → Row) (c depth s lets : ℕ) → c ≤ 1024 → depth ≤ 17 → (depth ≡ 0 → ⊥) → lets ≡ lets_before f s c → lets ≤ c
    → Needing f c depth s lets 0 0
unfolding greatest_below
needing-start f c depth s lets b d p q r =
    record {
      rows = b;
      deep = omega arith;
      shallow = d;
      below = omega arith;
      lets-few = r;
      most-few = omega arith;
      lets-are = q;
      most-is = refl;
    }

module _ (f : ℕ → Row) (c depth s lets most i : ℕ) (h : Needing f c depth s lets most i) where
  module _ (b : Bool) (l : i < c) (e : b ≡ is_in f 3 s i) where
    pub needing-block : (w g m : ℕ) → b ≡ true → w ≡ need_of f c (depth - 1) i → w ≤ (depth - 1) * 2000 → g ≡ max most (w + 1) → m ≡ g
        → Needing f c depth s lets m (i + 1)
    unfolding greatest_below block_need if_true
    needing-block w g m p q v r k =
        record {
          rows = h.rows;
          deep = h.deep;
          shallow = h.shallow;
          below = omega arith;
          lets-few = h.lets-few;
          most-few = omega (arith, r, h.most-few, v, k);
          lets-are = h.lets-are;
          most-is = rw (add-one, ← e, p, ← q, ← h.most-is, ← add-one w) (k ∙ r);
        }

    pub needing-other : (m : ℕ) → b ≡ false → m ≡ most → Needing f c depth s lets m (i + 1)
    unfolding greatest_below block_need if_true
    needing-other m p k =
        record {
          rows = h.rows;
          deep = h.deep;
          shallow = h.shallow;
          below = omega arith;
          lets-few = h.lets-few;
          most-few = omega (arith, h.most-few);
          lets-are = h.lets-are;
          most-is = rw (add-one, ← e, p, ← h.most-is) (omega arith);
        }

  pub needing-few : c ≤ i → lets + most ≤ depth * 2000
  needing-few p = omega (arith, h.lets-few, h.most-few, h.rows, h.deep)

  pub needing-done : c ≤ i → lets + most ≡ need_of f c depth s
  unfolding need_of
  needing-done p =
      let e : i ≡ c = omega (arith, h.below) in
      let d : depth ≡ suc (depth - 1) = omega (arith, h.deep) in
      all depth (depth - 1) d (rw e at h.most-is)
    where
      all : (d k : ℕ) → d ≡ suc k → most ≡ greatest_below (block_need f s (need_of f c k)) c → lets + most ≡ need_of f c d s
      all d k q m = rw (q, h.lets-are, m) refl

pub ruleset needing = (need-none, needing-start, needing-block, needing-other, needing-done, needing-few)
