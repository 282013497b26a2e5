-- The ways through the functions on depth, targets, labels of a number and shapes.
-- Assumes nothing.
use mathlib.Core.Path.{◌≡◌}
use mathlib.Core.Bool.{Bool, true, false}
use Prim.Native.Nat.{ℕ, suc, ◌+◌, ◌-◌, ◌<◌, ◌≤◌}
use native.Mathlib.Numerals.{add-one}
use native.Mathlib.Decide.{ℕ_discrete}
use native.Mathlib.Omega.{arith}
use lib.Dec.{eqb, leb}
use borrow.Author.Tests.{eq-eqb, ne_eqb}
use Rattle.base_prelude.specs.Choice.{if_eq}
use Rattle.prog_tables.specs.Statement.{Row, used_by}
use Rattle.prog_tables.specs.Label.{Label, is_function_label}
use Rattle.prog_tables.specs.Nesting.{depth_of, has_target, target_of}
use Rattle.prog_tables.specs.Faults.{expression_fault}
use Rattle.prog_tables.specs.WellFormed.{shallow, aimed, has_operands, shaped}
use Rattle.prog_rules.specs.Rules.{bears}

-- ---- depth

module _ (f : ℕ → Row) (fuel s : ℕ) where
  pub depth-zero : fuel ≡ 0 → 0 ≡ depth_of f fuel s
  unfolding depth_of
  depth-zero p = rw p

  module _ (k : ℕ) (p : fuel ≡ 0 → ⊥) (g : k ≡ (f s).kind) where
    less : fuel ≡ suc (fuel - 1)
    less = omega arith

    pub depth-block : (e d : ℕ) → k ≡ 3 → e ≡ (f s).scope → d ≡ depth_of f (fuel - 1) e → d + 1 ≡ depth_of f fuel s
    unfolding depth_of if_eq
    depth-block e d h q r = rw (less, ← g, eq-eqb _ _ h, ← q, ← r) (add-one d)

    pub depth-other : (k ≡ 3 → ⊥) → 0 ≡ depth_of f fuel s
    unfolding depth_of if_eq
    depth-other h = rw (less, ← g, ne_eqb _ _ h)

pub depth-within : (fuel d : ℕ) → (fuel ≡ 0 → ⊥) → d ≤ fuel - 1 → d + 1 ≤ fuel
depth-within fuel d h l = omega arith

pub ruleset depths = (depth-zero, depth-block, depth-other, depth-within)

module _ (f : ℕ → Row) (n k : ℕ) (e : k ≡ (f n).kind) where
  pub shallow-block : (d : ℕ) → k ≡ 3 → d ≡ depth_of f 17 n → leb d 16 ≡ shallow f n
  unfolding shallow
  shallow-block d h q = rw (← e, eq-eqb _ _ h, ← q)

  pub shallow-other : (k ≡ 3 → ⊥) → true ≡ shallow f n
  unfolding shallow
  shallow-other h = rw (← e, ne_eqb _ _ h)

pub ruleset shallows = (shallow-block, shallow-other)

-- ---- targets

module _ (f : ℕ → Row) (c n k : ℕ) (b : Bool) (e : k ≡ (f n).kind) (d : b ≡ has_target k) where
  pub aimed-at : (a m : ℕ) → b ≡ true → m ≡ target_of f c n → a ≡ (f n).a → eqb a m ≡ aimed f c n
  unfolding aimed
  aimed-at a m h q r = rw (← q, ← r, ← e, ← d, h)

  pub aimed-other : b ≡ false → true ≡ aimed f c n
  unfolding aimed
  aimed-other h = rw (← e, ← d, h)

pub ruleset aiming = (aimed-at, aimed-other)

-- ---- labels of a number

module _ (k : ℕ) where
  pub label-in : 3 ≤ k → k ≤ 4 → true ≡ is_function_label k
  unfolding is_function_label if_eq
  label-in h g =
      elim (ℕ_discrete k 3) [
        | yes e ↦ rw (eq-eqb _ _ e)
        | no e ↦ let z : k ≡ 4 = omega arith in rw (ne_eqb _ _ e, eq-eqb _ _ z)
      ]

  pub label-below : k < 3 → false ≡ is_function_label k
  unfolding is_function_label if_eq
  label-below h = rw (ne_eqb k 3 (omega arith), ne_eqb k 4 (omega arith))

  pub label-above : 4 < k → false ≡ is_function_label k
  unfolding is_function_label if_eq
  label-above h = rw (ne_eqb k 3 (omega arith), ne_eqb k 4 (omega arith))

pub ruleset function-label = (label-in, label-below, label-above)

module _ (g : ℕ → Label) (v i x : ℕ) (e : x ≡ (g i).kind) where
  pub place_is : (m : ℕ) → x ≡ 5 → m ≡ (g i).number → eqb m v ≡ bears g (λ k. eqb k 5) v i
  unfolding bears
  place_is m h d = rw (← e, eq-eqb _ _ h, ← d)

  pub place-not : (x ≡ 5 → ⊥) → false ≡ bears g (λ k. eqb k 5) v i
  unfolding bears
  place-not h = rw (← e, ne_eqb _ _ h)

  pub inner-is : (m : ℕ) → x ≡ 3 → m ≡ (g i).number → eqb m v ≡ bears g (λ k. eqb k 3) v i
  unfolding bears
  inner-is m h d = rw (← e, eq-eqb _ _ h, ← d)

  pub inner-not : (x ≡ 3 → ⊥) → false ≡ bears g (λ k. eqb k 3) v i
  unfolding bears
  inner-not h = rw (← e, ne_eqb _ _ h)

  pub function-is : (b : Bool) (m : ℕ) → b ≡ is_function_label x → b ≡ true → m ≡ (g i).number → eqb m v ≡ bears g is_function_label v i
  unfolding bears
  function-is b m q h d = rw (← e, ← q, h, ← d)

  pub function-not : (b : Bool) → b ≡ is_function_label x → b ≡ false → false ≡ bears g is_function_label v i
  unfolding bears
  function-not b q h = rw (← e, ← q, h)

pub ruleset bearing = (place_is, place-not, inner-is, inner-not, function-is, function-not)

-- ---- shapes

module _ (f : ℕ → Row) (n k x : ℕ) (b : Bool) (e : k ≡ (f n).kind) (w : x ≡ (f n).expr) (d : b ≡ expression_fault k x) where
  pub shape-unlisted : b ≡ true → false ≡ shaped f n
  unfolding shaped
  shape-unlisted h = rw (← e, ← w, ← d, h)

  module _ (v : Bool) (h : b ≡ false) (q : v ≡ has_operands k) where
    pub shape-count : (m u : ℕ) → v ≡ true → m ≡ (f n).count → u ≡ used_by k x m → eqb m u ≡ shaped f n
    unfolding shaped
    shape-count m u r s i = rw (← e, ← w, ← d, h, ← q, r, ← s, ← i)

    pub shape_free : v ≡ false → true ≡ shaped f n
    unfolding shaped
    shape_free r = rw (← e, ← w, ← d, h, ← q, r)

pub ruleset shapes = (shape-unlisted, shape-count, shape_free)
