-- Rows that stand: two views that agree, what is open, and one row more.
-- Assumes nothing.
use mathlib.Core.Path.{◌≡◌, refl, sym, ◌∙◌, ap, subst}
use mathlib.Core.Bool.{true, not}
use Prim.Native.Nat.{ℕ, zero, suc, ◌-◌, ◌≤◌, ◌<◌}
use native.Mathlib.Nat.{not-suc-le-zero}
use native.Mathlib.Decide.{ℕ_discrete}
use native.Mathlib.Omega.{arith}
use borrow.Author.Tests.{leb-true, eq-eqb}
use lib.Dec.{leb, eqb}
use Rattle.base_prelude.specs.Choice.{if_eq}
use Rattle.base_prelude.proofs.Choice.{either_true, if_eq-yes}
use Rattle.lang_kinds.specs.Nesting.{enters, leaves, ground_of}
use Rattle.prog_tables.specs.Tests.{all}
use Rattle.prog_tables.specs.Statement.{Row}
use Rattle.prog_tables.specs.Nesting.{behind, open_before, ground_in, func_in, scope_in, up_in, follows_jump, stands}
use Rattle.prog_tables.proofs.Each.{both_true, given-then}
use Rattle.res_skeleton.specs.Skeleton.{parameters_of}
use Rattle.thm_outline.proofs.View.{strip}
use Rattle.prog_tables.proofs.Nested.{Standing, small, here, fact, open-some, not-eq}

-- ---- one row

pub standing-stands : (f : ℕ → Row) (n : ℕ) → Standing f n → stands f n ≡ true
unfolding stands all
standing-stands f n h =
    both_true _ _ h.listed
    (both_true _ _ h.ground
    (both_true _ _ h.jump
    (both_true _ _ (eq-eqb _ _ h.func-is) (both_true _ _ (eq-eqb _ _ h.scope-is) (both_true _ _ (eq-eqb _ _ h.up_is) refl)))))

-- ---- views that agree on the first c rows

module _ (f g : ℕ → Row) (c : ℕ) (same : (i : ℕ) → i < c → strip (g i) ≡ strip (f i)) where
  pub kind-same : (i : ℕ) → i < c → (g i).kind ≡ (f i).kind
  kind-same i h = ap (λ (r : Row). r.kind) (same i h)

  pub func-same : (i : ℕ) → i < c → (g i).func ≡ (f i).func
  func-same i h = ap (λ (r : Row). r.func) (same i h)

  pub scope-same : (i : ℕ) → i < c → (g i).scope ≡ (f i).scope
  scope-same i h = ap (λ (r : Row). r.scope) (same i h)

  pub up_same : (i : ℕ) → i < c → (g i).up ≡ (f i).up
  up_same i h = ap (λ (r : Row). r.up) (same i h)

  pub parameters-same : (i : ℕ) → i < c → (f i).kind ≡ 1 → (g i).b ≡ (f i).b
  unfolding parameters_of
  parameters-same i h e =
      sym (if_eq-yes (g i).b 0 (kind-same i h ∙ e)) ∙ ap (λ (r : Row). r.b) (same i h) ∙ if_eq-yes (f i).b 0 e

  pub open-same : (n : ℕ) → n ≤ c → open_before g n ≡ open_before f n
  unfolding open_before behind
  open-same zero h = refl
  open-same (suc n) h = ap (behind n) (same n h)

  pub follows_same : (n : ℕ) → n ≤ c → follows_jump g n ≡ follows_jump f n
  unfolding follows_jump
  follows_same zero h = refl
  follows_same (suc n) h = ap (λ (r : Row). eqb r.kind 21) (same n h)

  pub ground-same : (o : ℕ) → o ≤ c → ground_in g o ≡ ground_in f o
  unfolding ground_in
  ground-same o h =
      elim (ℕ_discrete o 0) [
        | yes e ↦ if_eq-yes 1 (ground_of (g (o - 1)).kind) e ∙ sym (if_eq-yes 1 (ground_of (f (o - 1)).kind) e)
        | no e ↦ ap (λ (r : Row). if_eq o 0 1 (ground_of r.kind)) (same (o - 1) (omega arith))
      ]

  module _ (ok : (n : ℕ) → n < c → stands f n ≡ true) where
    pub stands_same : (n : ℕ) → n < c → stands g n ≡ true
    unfolding stands func_in scope_in up_in
    stands_same n h =
        let l : open_before f n ≤ n = (small f c ok n (omega arith)).open-low in
        let o : open_before f n - 1 < c = omega arith in
        rw (open-same n (omega arith), kind-same n h, func-same n h, scope-same n h, up_same n h, follows_same n (omega arith), ground-same (open_before f n) (omega arith))
        (rw (kind-same (open_before f n - 1) o, func-same (open_before f n - 1) o, scope-same (open_before f n - 1) o, up_same (open_before f n - 1) o) (ok n h))

    -- with row c also standing, one row more stands
    pub stands-more : Standing g c → (n : ℕ) → n < suc c → stands g n ≡ true
    stands-more s n h =
        elim (ℕ_discrete n c) [
          | yes e ↦ subst (λ (i : ℕ). stands g i ≡ true) (sym e) (standing-stands g c s)
          | no e ↦ stands_same n (omega arith)
        ]

-- ---- what is open was opened

module _ (f : ℕ → Row) (c : ℕ) (ok : (n : ℕ) → n < c → stands f n ≡ true) where
  pub leaver-some : (n : ℕ) → n < c → leaves (f n).kind ≡ true → 1 ≤ open_before f n
  leaver-some n h q =
      open-some f c ok n h
      (not-eq (f n).kind 1 (given-then (leaves (f n).kind) (not (eqb (f n).kind 1)) (fact f c ok n 1 h (omega arith)) q))

  pub record Opened (j : ℕ) : Type 0 where
    pub ups : (i : ℕ) → i < j → 1 ≤ (f i).up → enters (f ((f i).up - 1)).kind ≡ true
    pub top : 1 ≤ open_before f j → enters (f (open_before f j - 1)).kind ≡ true

  up-opened : (j : ℕ) → Opened j → j < c → 1 ≤ (f j).up → enters (f ((f j).up - 1)).kind ≡ true
  unfolding up_in
  up-opened j s h =
      subst (λ (x : ℕ). 1 ≤ x → enters (f (x - 1)).kind ≡ true) (sym (here f c ok j h).up_is)
      (either_true (λ (x : ℕ). 1 ≤ x → enters (f (x - 1)).kind ≡ true) (leaves (f j).kind) (f (open_before f j - 1)).up (open_before f j)
      (λ e. s.ups (open_before f j - 1) (omega (arith, leaver-some j h e, (small f c ok j (omega arith)).open-low))) (λ e. s.top))

  pub opened : (j : ℕ) → j ≤ c → Opened j
  unfolding open_before behind
  opened zero h = record { ups = λ i l. absurd (not-suc-le-zero l); top = λ l. absurd (not-suc-le-zero l) }
  opened (suc j) h =
      let s : Opened j = opened j (omega arith) in
      let u : (1 ≤ (f j).up → enters (f ((f j).up - 1)).kind ≡ true) = up-opened j s h in
      record {
        ups = λ i l. elim (ℕ_discrete i j) [
          | yes e ↦ subst (λ (x : ℕ). 1 ≤ (f x).up → enters (f ((f x).up - 1)).kind ≡ true) (sym e) u
          | no e ↦ s.ups i (omega arith)
        ];
        top = either_true (λ (x : ℕ). 1 ≤ x → enters (f (x - 1)).kind ≡ true) (enters (f j).kind) (suc j) (f j).up
            (λ e l. let z : j ≡ suc j - 1 = omega arith in subst (λ (i : ℕ). enters (f i).kind ≡ true) z e) (λ e. u);
      }

  -- so it gives a ground in a function
  pub open-high : (j : ℕ) → j ≤ c → 1 ≤ open_before f j → 4 ≤ ground_of (f (open_before f j - 1)).kind
  open-high j h l =
      let o : open_before f j ≤ j = (small f c ok j h).open-low in
      leb-true _ _
      (given-then (enters (f (open_before f j - 1)).kind) (leb 4 (ground_of (f (open_before f j - 1)).kind))
      (fact f c ok (open_before f j - 1) 7 (omega arith) (omega arith)) ((opened j h).top l))
