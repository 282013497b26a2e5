-- Blocks: how deep a row stands, row after row.
-- Assumes nothing.
use mathlib.Core.Path.{◌≡◌, refl, sym, ◌∙◌, ap, subst}
use mathlib.Core.Bool.{Bool, true, false}
use Prim.Native.Nat.{ℕ, zero, suc, ◌-◌, ◌≤◌, ◌<◌}
use native.Mathlib.Nat.{not-suc-le-zero}
use native.Mathlib.Decide.{ℕ_discrete}
use native.Mathlib.Omega.{arith}
use borrow.Author.Tests.{eqb-true, eq-eqb, leb-true, le-leb}
use lib.Dec.{eqb, leb}
use Rattle.base_prelude.specs.Choice.{if_eq, if_true}
use Rattle.base_prelude.proofs.Choice.{if_eq-yes, if_eq-no}
use Rattle.lang_kinds.specs.Nesting.{is_frame}
use Rattle.parse_units.specs.Parse.{depth_behind}
use Rattle.prog_tables.specs.Tests.{given}
use Rattle.prog_tables.specs.Statement.{Row}
use Rattle.prog_tables.specs.Nesting.{open_before, stands, depth_of}
use Rattle.prog_tables.specs.WellFormed.{shallow}
use Rattle.prog_tables.proofs.Each.{given-then}
use Rattle.prog_tables.proofs.Nested.{small, open-some}
use Rattle.thm_outline.proofs.View.{strip}
use Rattle.thm_outline.proofs.Standing.{kind-same, open-same}
use Rattle.thm_outline.proofs.Frames.{frame_in, scope-low, scope-open, frame-low, frame-stays, frame-function, frame-block, end-function, Block, end-block}

pub given_by : (p q : Bool) → (p ≡ true → q ≡ true) → given p q ≡ true
given_by true q h = h refl
given_by false q h = refl

-- ---- depth

module _ (f : ℕ → Row) where
  pub depth-in : (fuel s : ℕ) → (f s).kind ≡ 3 → depth_of f (suc fuel) s ≡ suc (depth_of f fuel (f s).scope)
  unfolding depth_of
  depth-in fuel s e = if_eq-yes _ _ e

  depth-out : (fuel s : ℕ) → ((f s).kind ≡ 3 → ⊥) → depth_of f (suc fuel) s ≡ 0
  unfolding depth_of
  depth-out fuel s e = if_eq-no _ _ e

  -- where the rows end before the steps, one step more finds no more
  depth-more : (fuel s : ℕ) → depth_of f fuel s < fuel → depth_of f (suc fuel) s ≡ depth_of f fuel s
  depth-more zero s h = absurd (not-suc-le-zero h)
  depth-more (suc fuel) s h =
      elim (ℕ_discrete (f s).kind 3) [
        | yes e ↦ depth-in (suc fuel) s e ∙ ap suc (depth-more fuel (f s).scope (omega (arith, depth-in fuel s e))) ∙ sym (depth-in fuel s e)
        | no e ↦ depth-out (suc fuel) s e ∙ sym (depth-out fuel s e)
      ]

  depth-less : (fuel s : ℕ) → depth_of f (suc fuel) s < fuel → depth_of f fuel s ≡ depth_of f (suc fuel) s
  depth-less zero s h = absurd (not-suc-le-zero h)
  depth-less (suc fuel) s h =
      elim (ℕ_discrete (f s).kind 3) [
        | yes e ↦ depth-in fuel s e ∙ ap suc (depth-less fuel (f s).scope (omega (arith, depth-in (suc fuel) s e))) ∙ sym (depth-in (suc fuel) s e)
        | no e ↦ depth-out fuel s e ∙ sym (depth-out (suc fuel) s e)
      ]

-- ---- views that agree on the first c rows

module _ (f g : ℕ → Row) (c : ℕ) (same : (i : ℕ) → i < c → strip (g i) ≡ strip (f i)) (low : (i : ℕ) → i < c → (f i).scope ≤ i) where
  pub depth_same : (fuel s : ℕ) → s < c → depth_of g fuel s ≡ depth_of f fuel s
  unfolding depth_of
  depth_same zero s h = refl
  depth_same (suc fuel) s h =
      ap (λ (r : Row). if_eq r.kind 3 (suc (depth_of g fuel r.scope)) 0) (same s h)
      ∙ ap (λ (d : ℕ). if_eq (f s).kind 3 (suc d) 0) (depth_same fuel (f s).scope (omega (arith, low s h)))

  pub frame_same : (o : ℕ) → 1 ≤ o → o ≤ c → frame_in g o ≡ frame_in f o
  frame_same o l h = ap (λ (r : Row). if_true (is_frame r.kind) (o - 1) r.scope) (same (o - 1) (omega arith))

  pub shallow-same : (m : ℕ) → m < c → shallow f m ≡ true → shallow g m ≡ true
  unfolding shallow
  shallow-same m h e = rw (kind-same f g c same m h, depth_same 17 m h) e

-- ---- row after row

-- the first c rows are at most 16 blocks deep, and what is open behind them is d deep
pub record Deep (f : ℕ → Row) (c d : ℕ) : Type 0 where
  pub rows : (m : ℕ) → m < c → shallow f m ≡ true
  pub depth : 1 ≤ open_before f c → depth_of f 17 (frame_in f (open_before f c)) ≡ d

module _ (f : ℕ → Row) (c : ℕ) (ok : (n : ℕ) → n < c → stands f n ≡ true) (j d : ℕ) (h : j < c) (p : Deep f j d) (few : (f j).kind ≡ 3 → d < 16) where
  open-here : ((f j).kind ≡ 1 → ⊥) → depth_of f 17 (f j).scope ≡ d
  open-here q = ap (depth_of f 17) (scope-open f c ok j h q) ∙ p.depth (open-some f c ok j h q)

  block-depth : (f j).kind ≡ 3 → depth_of f 17 j ≡ suc d
  block-depth e =
      let o : depth_of f 17 (f j).scope ≡ d = open-here (λ q. omega arith) in
      depth-in f 16 j e ∙ ap suc (depth-less f 16 (f j).scope (omega (arith, few e)) ∙ o)

  here-shallow : shallow f j ≡ true
  unfolding shallow
  here-shallow =
      given_by (eqb (f j).kind 3) (leb (depth_of f 17 j) 16)
      (λ e. le-leb (depth_of f 17 j) 16 (omega (arith, block-depth (eqb-true _ _ e), few (eqb-true _ _ e))))

  end-depth : (f j).kind ≡ 4 → depth_of f 17 (frame_in f (open_before f (suc j))) ≡ d - 1
  unfolding shallow
  end-depth e =
      let b : Block f c ok j = end-block f c ok j h e in
      let r : depth_of f 17 b.q ≤ 16 = leb-true _ _ (given-then (eqb (f b.q).kind 3) (leb (depth_of f 17 b.q) 16) (p.rows b.q b.below) (eq-eqb _ _ b.kind)) in
      let i : depth_of f 17 b.q ≡ suc (depth_of f 16 (f b.q).scope) = depth-in f 16 b.q b.kind in
      let o : depth_of f 17 b.q ≡ d = ap (depth_of f 17) (sym b.frame) ∙ p.depth (omega (arith, b.opened)) in
      ap (depth_of f 17) b.outer ∙ depth-more f 16 (f b.q).scope (omega arith) ∙ omega arith

  abbrev Next : ℕ → Type 0
  Next x = 1 ≤ open_before f (suc j) → depth_of f 17 (frame_in f (open_before f (suc j))) ≡ x

  next-depth : Next (depth_behind (f j).kind d)
  unfolding depth_behind
  next-depth =
      elim (ℕ_discrete (f j).kind 1) [
        | yes e ↦ λ l. ap (depth_of f 17) (frame-function f c ok j e) ∙ depth-out f 16 j (λ q. omega arith) ∙ sym (if_eq-yes _ _ e)
        | no a ↦ elim (ℕ_discrete (f j).kind 3) [
          | yes e ↦ λ l. ap (depth_of f 17) (frame-block f c ok j e) ∙ block-depth e ∙ sym (if_eq-no _ _ a ∙ if_eq-yes _ _ e ∙ omega arith)
          | no b ↦ elim (ℕ_discrete (f j).kind 4) [
            | yes e ↦ λ l. end-depth e ∙ sym (if_eq-no _ _ a ∙ if_eq-no _ _ b ∙ if_eq-yes _ _ e)
            | no g ↦ elim (ℕ_discrete (f j).kind 2) [
              | yes e ↦ λ l. absurd (omega (arith, end-function f c ok j h e))
              | no i ↦ λ l. ap (depth_of f 17) (frame-stays f c ok j h a i b g) ∙ open-here a ∙ sym (if_eq-no _ _ a ∙ if_eq-no _ _ b ∙ if_eq-no _ _ g)
            ]
          ]
        ]
      ]

  pub deep-next : Deep f (suc j) (depth_behind (f j).kind d)
  deep-next =
      record {
        rows = λ m l. elim (ℕ_discrete m j) [
          | yes e ↦ subst (λ (i : ℕ). shallow f i ≡ true) (sym e) here-shallow
          | no e ↦ p.rows m (omega arith)
        ];
        depth = next-depth;
      }

-- two views that agree on the first c rows
pub deep-same : (f g : ℕ → Row) (c d : ℕ) → ((n : ℕ) → n < c → stands f n ≡ true) → ((i : ℕ) → i < c → strip (g i) ≡ strip (f i)) → Deep f c d → Deep g c d
deep-same f g c d ok same p =
    let o : open_before g c ≡ open_before f c = open-same f g c same c (omega arith) in
    let l : open_before f c ≤ c = (small f c ok c (omega arith)).open-low in
    record {
      rows = λ m h. shallow-same f g c same (scope-low f c ok) m h (p.rows m h);
      depth = λ s. let s' : 1 ≤ open_before f c = omega arith in
          ap (λ (i : ℕ). depth_of g 17 (frame_in g i)) o ∙ ap (depth_of g 17) (frame_same f g c same (scope-low f c ok) (open_before f c) s' l)
          ∙ depth_same f g c same (scope-low f c ok) 17 (frame_in f (open_before f c)) (omega (arith, frame-low f c ok (open_before f c) s' l)) ∙ p.depth s';
    }
