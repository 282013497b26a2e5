-- The loops.
-- Assumes nothing.
use mathlib.Core.Path.{◌≡◌, refl, sym, ◌∙◌, ap, subst}
use mathlib.Core.Bool.{Bool, true, false}
use mathlib.Core.List.{List, [], ◌∷◌}
use Prim.Native.Nat.{ℕ, zero, suc, ◌+◌, ◌-◌, ◌*◌, ◌<◌, ◌≤◌, min}
use native.Mathlib.Nat.{zero-add, not-suc-le-zero, le_of_suc-le-suc, zero-lt-suc}
use native.Mathlib.Numerals.{add-one}
use native.Mathlib.Omega.{arith}
use borrow.Author.Tests.{eq-eqb, ne_eqb}
use lib.ListN.{length, get_or, take, length-replicate}
use Rattle.base_prelude.specs.Choice.{if_eq}
use Rattle.base_prelude.specs.Lists.{zeros}
use Rattle.prog_tables.specs.Tests.{both, all_of, all_below}
use Rattle.prog_tables.specs.Statement.{Row, used_by, operand_at, slots, row_from, row_at}
use Rattle.prog_tables.specs.Label.{label_at}
use Rattle.prog_tables.specs.Program.{lent_program}
use Rattle.prog_tables.specs.Nesting.{stands}
use Rattle.prog_tables.specs.Frames.{is_in, lets_before}
use Rattle.prog_tables.specs.WellFormed.{shallow}
use Rattle.prog_tables.specs.declared.Operand.{Operand}
use Rattle.prog_tables.specs.declared.Operand.TheVariants.{Unlisted}
use Rattle.prog_tables.proofs.Each.{below_at, both_false}
use Rattle.prog_tables.proofs.Scans.{fails-below}
use Rattle.prog_faults.proofs.Cases.{slot_at, slots-long}
use Rattle.prog_chains.specs.FrameTests.{frame_good}
use Rattle.prog_chains.specs.Counted.{noted, let_counts, holds, chain_holds, chain_lets, operand_held, operands_held, row_held}
use Rattle.prog_chains.proofs.Numbers.{count-few, below-not, below_more}
use Rattle.prog_chains.proofs.Chains.{Counts, depth_low, frame-of, counts-are}
use Rattle.prog_chains.proofs.Rows.{row_same}

-- ---- `is_on_chain`: what is left of the chain gives the whole answer

pub record Climbing (f : ℕ → Row) (x : List ℕ) (w inner s i : ℕ) : Type 0 where
  pub rest : chain_holds f x w (17 - i) s ≡ chain_holds f x w 17 inner

pub climbing-start : (f : ℕ → Row) (x : List ℕ) (w inner : ℕ) → Climbing f x w inner inner 0
climbing-start f x w inner = record { rest = refl }

module _ (f : ℕ → Row) (x : List ℕ) (w inner s i : ℕ) (h : Climbing f x w inner s i) (b : Bool) (d : b ≡ holds f x w s) where
  pub climbing-last : 17 ≤ i → b ≡ chain_holds f x w 17 inner
  unfolding chain_holds
  climbing-last l = let z : 17 - i ≡ 0 = omega arith in d ∙ (rw z at h.rest)

  module _ (l : i < 17) where
    one : 17 - i ≡ suc (17 - (i + 1))
    one = omega arith

    pub climbing-found : b ≡ true → true ≡ chain_holds f x w 17 inner
    unfolding chain_holds
    climbing-found q = rw (one, ← d, q) at h.rest

    module _ (q : b ≡ false) (k : ℕ) (e : k ≡ (f s).kind) where
      pub climbing-out : (k ≡ 3 → ⊥) → false ≡ chain_holds f x w 17 inner
      unfolding chain_holds if_eq
      climbing-out r = rw (one, ← d, q, ← e, ne_eqb _ _ r) at h.rest

      pub climbing-more : (o : ℕ) → k ≡ 3 → o ≡ (f s).scope → Climbing f x w inner o (i + 1)
      unfolding chain_holds if_eq
      climbing-more o r g = record { rest = rw (one, ← d, q, ← e, eq-eqb _ _ r, ← g) at h.rest }

pub ruleset climbing = (climbing-start, climbing-last, climbing-found, climbing-out, climbing-more)

-- ---- `chain_lets`

pub record Summing (f : ℕ → Row) (x : List ℕ) (inner s sum i : ℕ) : Type 0 where
  pub rest : sum + chain_lets f x (17 - i) s ≡ chain_lets f x 17 inner
  pub few : sum ≤ i * 4294967295
  pub within : i ≤ 17

pub summing_start : (f : ℕ → Row) (x : List ℕ) (inner : ℕ) → Summing f x inner inner 0 0
summing_start f x inner = record { rest = zero-add (chain_lets f x 17 inner); few = omega arith; within = omega arith }

module _ (f : ℕ → Row) (x : List ℕ) (inner s sum i : ℕ) (h : Summing f x inner s sum i) (m : ℕ) (d : m ≡ get_or x s 0) where
  pub summing-last : 17 ≤ i → sum + m ≡ chain_lets f x 17 inner
  unfolding chain_lets
  summing-last l = let z : 17 - i ≡ 0 = omega arith in rw d (rw z at h.rest)

  module _ (l : i < 17) (k : ℕ) (e : k ≡ (f s).kind) where
    one_less : 17 - i ≡ suc (17 - (i + 1))
    one_less = omega arith

    pub summing-out : (k ≡ 3 → ⊥) → sum + m ≡ chain_lets f x 17 inner
    unfolding chain_lets if_eq
    summing-out r = let z : sum + (m + 0) ≡ chain_lets f x 17 inner = rw (one_less, ← d, ← e, ne_eqb _ _ r) at h.rest in omega arith

    pub summing-more : (o : ℕ) → m ≤ 4294967295 → k ≡ 3 → o ≡ (f s).scope → Summing f x inner o (sum + m) (i + 1)
    unfolding chain_lets if_eq
    summing-more o g r t =
        let z : sum + (m + chain_lets f x (17 - (i + 1)) o) ≡ chain_lets f x 17 inner = rw (one_less, ← d, ← e, eq-eqb _ _ r, ← t) at h.rest in
        record { rest = omega arith; few = omega (arith, h.few); within = omega arith }

pub ruleset summing = (summing_start, summing-last, summing-out, summing-more)

-- ---- `operands_held`

-- all of the first m elements
all_held : (p : Operand → Bool) (xs : List Operand) (m : ℕ) → ((i : ℕ) → i < m → i < length xs → p (get_or xs i Unlisted) ≡ true) → all_of p (take m xs) ≡ true
unfolding all_of
all_held p [] zero h = refl
all_held p [] (suc m) h = refl
all_held p (x ∷ xs) zero h = refl
all_held p (x ∷ xs) (suc m) h =
    ap (λ (b : Bool). both b (all_of p (take m xs))) (h 0 (zero-lt-suc _) (zero-lt-suc _))
    ∙ all_held p xs m (λ i g l. h (suc i) (omega arith) (omega arith))

-- one of them not
all-not : (p : Operand → Bool) (xs : List Operand) (m i : ℕ) → i < m → i < length xs → p (get_or xs i Unlisted) ≡ false → all_of p (take m xs) ≡ false
unfolding all_of
all-not p [] m i h l e = absurd (not-suc-le-zero l)
all-not p (x ∷ xs) zero i h l e = absurd (not-suc-le-zero h)
all-not p (x ∷ xs) (suc m) zero h l e = ap (λ (b : Bool). both b (all_of p (take m xs))) e
all-not p (x ∷ xs) (suc m) (suc i) h l e =
    ap (λ (b : Bool). both (p x) b) (all-not p xs m i (le_of_suc-le-suc h) (le_of_suc-le-suc l) e) ∙ both_false (p x)

abbrev operand_at_row : List ℕ → ℕ → ℕ → Operand
operand_at_row t n i = operand_at t (n * 27 + 11 + i * 2)

abbrev held_at : List ℕ → List ℕ → ℕ → List ℕ → ℕ → ℕ → Bool
held_at t l k x n i = operand_held (row_at t) (label_at l []) k x n (operand_at_row t n i)

module _ (t l : List ℕ) (k : ℕ) (x : List ℕ) (n j a z m : ℕ) (ej : j ≡ (row_at t n).kind) (ea : a ≡ (row_at t n).expr) (ez : z ≡ (row_at t n).count) (em : m ≡ used_by j a z) where
  used : used_by (row_at t n).kind (row_at t n).expr (row_at t n).count ≡ m
  used = sym (em ∙ rw (ej, ea, ez))

  pub held_all : (u : ℕ) (r : Bool) → u ≡ min m 8 → r ≡ all_below (held_at t l k x n) u → r ≡ operands_held (row_at t) (label_at l []) k x n
  unfolding operands_held row_at row_from
  held_all u true d e =
      sym
      (all_held (operand_held (row_at t) (label_at l []) k x n) (slots t (n * 27)) (used_by (row_at t n).kind (row_at t n).expr (row_at t n).count)
      (λ o g w. ap (operand_held (row_at t) (label_at l []) k x n) (slot_at t (n * 27) o (omega (arith, w, slots-long t (n * 27)))) ∙ below_at (held_at t l k x n) u o (sym e) (omega (arith, d, used, g, w, slots-long t (n * 27)))))
  held_all u false d e =
      let r = fails-below (held_at t l k x n) u (sym e) in
      sym
      (all-not (operand_held (row_at t) (label_at l []) k x n) (slots t (n * 27)) (used_by (row_at t n).kind (row_at t n).expr (row_at t n).count) r.0 (omega (arith, d, used, r.1)) (omega (arith, d, r.1, slots-long t (n * 27)))
      (ap (operand_held (row_at t) (label_at l []) k x n) (slot_at t (n * 27) r.0 (omega (arith, d, r.1))) ∙ r.2))

-- ---- rows that stand: the lets counted so far

module _ (t : List ℕ) (c : ℕ) (rows : c ≤ 1024) (ok : all_below (stands (row_at t)) c ≡ true) where
  pub stand : (i : ℕ) → i < c → stands (row_at t) i ≡ true
  stand i h = below_at (stands (row_at t)) c i ok h

  counted : (n : ℕ) → n ≤ c → Counts (row_at t) c n (let_counts (row_at t) n)
  counted n h = counts-are (row_at t) c stand n h rows

  module _ (n : ℕ) (x : List ℕ) (l : n < c) (e : x ≡ let_counts (row_at t) n) where
    pub note-within : (row_at t n).scope < length x
    note-within = omega (arith, ap length e, (counted n (omega arith)).long, (frame-of (row_at t) c stand n l).low)

    pub note-fits : get_or x (row_at t n).scope 0 < 4294967295
    unfolding lets_before
    note-fits =
        let z : get_or x (row_at t n).scope 0 ≡ lets_before (row_at t) (row_at t n).scope n = ap (λ (y : List ℕ). get_or y (row_at t n).scope 0) e ∙ (counted n (omega arith)).each (row_at t n).scope (frame-of (row_at t) c stand n l).low in
        few z
      where
        few : get_or x (row_at t n).scope 0 ≡ lets_before (row_at t) (row_at t n).scope n → get_or x (row_at t n).scope 0 < 4294967295
        few z = omega (arith, count-few (is_in (row_at t) 5 (row_at t n).scope) n)

pub noted-none : (t : List ℕ) → zeros 1024 ≡ let_counts (row_at t) 0
unfolding let_counts
noted-none t = refl

-- the loop of `count_lets`
pub record Noting (t : List ℕ) (c : ℕ) (y : List ℕ) (n : ℕ) : Type 0 where
  pub below : n ≤ c
  pub same : y ≡ let_counts (row_at t) n

pub noting-start : (t : List ℕ) (c : ℕ) (y : List ℕ) → y ≡ zeros 1024 → Noting t c y 0
noting-start t c y e = record { below = omega arith; same = e ∙ noted-none t }

module _ (t : List ℕ) (c : ℕ) (y : List ℕ) (n : ℕ) (h : Noting t c y n) where
  module _ (l : n < c) where
    pub noting-more : (z : List ℕ) → z ≡ noted (row_at t) n y → Noting t c z (n + 1)
    unfolding let_counts
    noting-more z e = record { below = omega arith; same = rw (add-one n) (e ∙ ap (noted (row_at t) n) h.same) }

    module _ (rows : c ≤ 1024) (ok : all_below (stands (row_at t)) c ≡ true) where
      pub noting-within : (row_at t n).scope < length y
      noting-within = note-within t c rows ok n y l h.same

      pub noting-fits : get_or y (row_at t n).scope 0 < 4294967295
      noting-fits = note-fits t c rows ok n y l h.same

  -- the table keeps its length
  pub noting-long : (z : List ℕ) → c ≤ 1024 → all_below (stands (row_at t)) c ≡ true → z ≡ zeros 1024 → length y ≡ length z
  noting-long z rows ok e = ap length h.same ∙ (counted t c rows ok n h.below).long ∙ sym (ap length e ∙ length-replicate {A = ℕ} 1024 0)

  pub noting-done : c ≤ n → y ≡ let_counts (row_at t) c
  noting-done l = let z : n ≡ c = omega (arith, h.below) in h.same ∙ ap (let_counts (row_at t)) z

pub ruleset counting = (noting-start, noting-more, noting-within, noting-fits, noting-long, noting-done)

-- ---- all rows

-- the loop of `rows_held`: all rows so far pass
pub record Holding (t : List ℕ) (c : ℕ) (l : List ℕ) (k d : ℕ) (x y : List ℕ) (n : ℕ) : Type 0 where
  pub rows : c ≤ 1024
  pub stood : all_below (stands (row_at t)) c ≡ true
  pub low : all_below (shallow (row_at t)) c ≡ true
  pub whole : y ≡ let_counts (row_at t) c
  pub noting : Noting t c x n
  pub good : all_below (frame_good (lent_program t c l k d)) n ≡ true

pub holding-start : (t : List ℕ) (c : ℕ) (l : List ℕ) (k d : ℕ) (x y : List ℕ) → c ≤ 1024 → all_below (stands (row_at t)) c ≡ true → all_below (shallow (row_at t)) c ≡ true
    → x ≡ zeros 1024 → y ≡ let_counts (row_at t) c → Holding t c l k d x y 0
unfolding all_below
holding-start t c l k d x y rows ok low e whole =
    record { rows = rows; stood = ok; low = low; whole = whole; noting = noting-start t c x e; good = refl }

module _ (t : List ℕ) (c : ℕ) (l : List ℕ) (k d : ℕ) (x y : List ℕ) (n : ℕ) (h : Holding t c l k d x y n) where
  pub holding-long : (z : List ℕ) → z ≡ zeros 1024 → length x ≡ length z
  holding-long z e = noting-long t c x n h.noting z h.rows h.stood e

  pub holding-done : c ≤ n → true ≡ all_below (frame_good (lent_program t c l k d)) c
  holding-done g = let z : n ≡ c = omega (arith, h.noting.below) in sym (rw z at h.good)

  module _ (g : n < c) where
    pub holding-within : (row_at t n).scope < length x
    holding-within = noting-within t c x n h.noting g h.rows h.stood

    pub holding-fits : get_or x (row_at t n).scope 0 < 4294967295
    holding-fits = noting-fits t c x n h.noting g h.rows h.stood

    module _ (b : Bool) (e : b ≡ row_held (row_at t) c (label_at l []) k x y n) where
      same : b ≡ frame_good (lent_program t c l k d) n
      same =
          e
          ∙ row_same (lent_program t c l k d) (stand t c h.rows h.stood)
          (λ i u. depth_low (row_at t) i (below_at (shallow (row_at t)) c i h.low u)) n g h.good x y
          (subst (Counts (row_at t) c n) (sym h.noting.same) (counted t c h.rows h.stood n (omega arith)))
          (subst (Counts (row_at t) c c) (sym h.whole) (counted t c h.rows h.stood c (omega arith)))

      pub holding-not : b ≡ false → false ≡ all_below (frame_good (lent_program t c l k d)) c
      holding-not q = sym (below-not (frame_good (lent_program t c l k d)) c n g (sym same ∙ q))

      pub holding-more : (z : List ℕ) → b ≡ true → z ≡ noted (row_at t) n x → Holding t c l k d z y (n + 1)
      holding-more z q r =
          record {
            rows = h.rows;
            stood = h.stood;
            low = h.low;
            whole = h.whole;
            noting = noting-more t c x n h.noting g z r;
            good = rw (add-one n) (below_more (frame_good (lent_program t c l k d)) n h.good (sym same ∙ q));
          }

pub ruleset holding = (holding-start, holding-done, holding-within, holding-fits, holding-not, holding-more)
