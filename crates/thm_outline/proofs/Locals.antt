-- Locals in scope, row after row.
-- Assumes nothing.
use mathlib.Core.Path.{◌≡◌, refl, sym, ◌∙◌, ap, ap₂, subst}
use mathlib.Core.Bool.{Bool, true, false}
use Prim.Native.Nat.{ℕ, zero, suc, ◌+◌, ◌-◌, ◌≤◌, ◌<◌}
use native.Mathlib.Decide.{ℕ_discrete}
use native.Mathlib.Omega.{arith}
use borrow.Author.Tests.{eqb-true, eq-eqb, ne_eqb, le-leb, lt-ltb}
use lib.Dec.{eqb, leb, ltb}
use Rattle.base_prelude.specs.Choice.{pick, if_eq}
use Rattle.base_prelude.proofs.Choice.{if_eq-yes, if_eq-no}
use Rattle.parse_units.specs.Parse.{locals_behind}
use Rattle.prog_tables.specs.Tests.{both, given, count_below}
use Rattle.prog_tables.specs.Statement.{Row}
use Rattle.prog_tables.specs.Nesting.{open_before, func_in, stands, depth_of, encloses}
use Rattle.prog_tables.specs.Frames.{let_seen, locals_at}
use Rattle.prog_tables.specs.WellFormed.{few_locals}
use Rattle.prog_tables.proofs.Each.{both_left, both_right, given-then, both_true}
use Rattle.prog_tables.proofs.Nested.{here, open-some, func-open, held}
use Rattle.thm_outline.proofs.View.{strip}
use Rattle.thm_outline.proofs.Standing.{kind-same, func-same, scope-same, parameters-same, open-same}
use Rattle.thm_outline.proofs.Frames.{frame_in, open-low, scope-low, scope-open, frame-low, func-stays, frame-stays, frame-function, frame-block, end-function, Block, end-block, inner}
use Rattle.thm_outline.proofs.Depth.{given_by, Deep, depth-in, frame_same}

-- ---- counts

count_no : (p : ℕ → Bool) (n : ℕ) → p n ≡ false → count_below p (suc n) ≡ count_below p n
unfolding count_below
count_no p n e = ap (λ (b : Bool). pick b (suc (count_below p n)) (count_below p n)) e

count_yes : (p : ℕ → Bool) (n : ℕ) → p n ≡ true → count_below p (suc n) ≡ suc (count_below p n)
unfolding count_below
count_yes p n e = ap (λ (b : Bool). pick b (suc (count_below p n)) (count_below p n)) e

count-agree : (p q : ℕ → Bool) (n : ℕ) → ((i : ℕ) → i < n → p i ≡ q i) → count_below p n ≡ count_below q n
unfolding count_below
count-agree p q zero h = refl
count-agree p q (suc n) h =
    ap₂ (λ (b : Bool) (m : ℕ). pick b (suc m) m) (h n (omega arith)) (count-agree p q n (λ i l. h i (omega arith)))

count_none : (p : ℕ → Bool) (m n : ℕ) → m ≤ n → ((i : ℕ) → m ≤ i → i < n → p i ≡ false) → count_below p n ≡ count_below p m
count_none p m zero l h = let z : 0 ≡ m = omega arith in ap (count_below p) z
count_none p m (suc n) l h =
    elim (ℕ_discrete m (suc n)) [
      | yes e ↦ ap (count_below p) (sym e)
      | no e ↦ count_no p n (h n (omega arith) (omega arith)) ∙ count_none p m n (omega arith) (λ i a b. h i a (omega arith))
    ]

-- ---- frames around a frame

module _ (f : ℕ → Row) where
  enc-here : (fuel e s : ℕ) → s ≡ e → encloses f (suc fuel) e s ≡ true
  unfolding encloses
  enc-here fuel e s q = if_eq-yes _ _ q

  enc-in : (fuel e s : ℕ) → (s ≡ e → ⊥) → (f s).kind ≡ 3 → encloses f (suc fuel) e s ≡ encloses f fuel e (f s).scope
  unfolding encloses
  enc-in fuel e s q k = if_eq-no _ _ q ∙ if_eq-yes _ _ k

  enc-out : (fuel e s : ℕ) → (s ≡ e → ⊥) → ((f s).kind ≡ 3 → ⊥) → encloses f (suc fuel) e s ≡ false
  unfolding encloses
  enc-out fuel e s q k = if_eq-no _ _ q ∙ if_eq-no _ _ k

  enc-last : (e s : ℕ) → (s ≡ e → ⊥) → encloses f 0 e s ≡ false
  unfolding encloses
  enc-last e s q = ne_eqb s e q

  enc-first : (e s : ℕ) → s ≡ e → encloses f 0 e s ≡ true
  unfolding encloses
  enc-first e s q = eq-eqb s e q

  -- one step less finds as much where the blocks are few
  enc-less : (fuel e s : ℕ) → depth_of f (suc fuel) s ≤ fuel → encloses f (suc fuel) e s ≡ encloses f fuel e s
  enc-less zero e s h =
      elim (ℕ_discrete s e) [
        | yes q ↦ enc-here 0 e s q ∙ sym (enc-first e s q)
        | no q ↦ elim (ℕ_discrete (f s).kind 3) [
          | yes k ↦ absurd (omega (arith, depth-in f 0 s k))
          | no k ↦ enc-out 0 e s q k ∙ sym (enc-last e s q)
        ]
      ]
  enc-less (suc fuel) e s h =
      elim (ℕ_discrete s e) [
        | yes q ↦ enc-here (suc fuel) e s q ∙ sym (enc-here fuel e s q)
        | no q ↦ elim (ℕ_discrete (f s).kind 3) [
          | yes k ↦ enc-in (suc fuel) e s q k ∙ enc-less fuel e (f s).scope (omega (arith, depth-in f (suc fuel) s k)) ∙ sym (enc-in fuel e s q k)
          | no k ↦ enc-out (suc fuel) e s q k ∙ sym (enc-out fuel e s q k)
        ]
      ]

  -- a frame behind s is not around it
  enc-low : (c : ℕ) → ((i : ℕ) → i < c → (f i).scope ≤ i) → (fuel e s : ℕ) → s < c → s < e → encloses f fuel e s ≡ false
  enc-low c low zero e s h l = enc-last e s (λ q. omega arith)
  enc-low c low (suc fuel) e s h l =
      elim (ℕ_discrete (f s).kind 3) [
        | yes k ↦ enc-in fuel e s (λ q. omega arith) k ∙ enc-low c low fuel e (f s).scope (omega (arith, low s h)) (omega (arith, low s h))
        | no k ↦ enc-out fuel e s (λ q. omega arith) k
      ]

  let-no : (s i : ℕ) → ((f i).kind ≡ 5 → ⊥) → let_seen f s i ≡ false
  unfolding let_seen
  let-no s i q = ap (λ (b : Bool). both b (encloses f 17 (f i).scope s)) (ne_eqb (f i).kind 5 q)

  let-yes : (s i : ℕ) → (f i).kind ≡ 5 → s ≡ (f i).scope → let_seen f s i ≡ true
  unfolding let_seen
  let-yes s i q e = both_true _ _ (eq-eqb (f i).kind 5 q) (enc-here 16 (f i).scope s e)

  let-far : (s i : ℕ) → encloses f 17 (f i).scope s ≡ false → let_seen f s i ≡ false
  unfolding let_seen
  let-far s i e = ap (both (eqb (f i).kind 5)) e ∙ both_false (eqb (f i).kind 5)
    where
      both_false : (b : Bool) → both b false ≡ false
      both_false true = refl
      both_false false = refl

-- ---- row after row

-- locals in scope behind n rows, where what has the number o is open
abbrev locals_in : (ℕ → Row) → ℕ → ℕ → ℕ
locals_in f o n = (f (f (o - 1)).func).b + count_below (let_seen f (frame_in f o)) n

-- the first c rows have few locals, a block's row holds those before it in `before`, and behind all rows v are in scope
pub record Few (f : ℕ → Row) (before : ℕ → ℕ) (c v : ℕ) : Type 0 where
  pub rows : (m : ℕ) → m < c → few_locals f m ≡ true
  pub blocks : (m : ℕ) → m < c → (f m).kind ≡ 3 → before m ≡ locals_at f m
  pub locals : 1 ≤ open_before f c → locals_in f (open_before f c) c ≡ v

module _ (f : ℕ → Row) (c : ℕ) (ok : (n : ℕ) → n < c → stands f n ≡ true) (before : ℕ → ℕ) (j d v : ℕ) (h : j < c) (deep : Deep f j d) (p : Few f before j v)
    (shallow : (f j).kind ≡ 3 → d < 16) (parameters : (f j).kind ≡ 1 → (f j).b ≤ 8) (lets : (f j).kind ≡ 5 → v < 64) (held-is : (f j).kind ≡ 3 → before j ≡ v) where
  own-func : (f j).kind ≡ 1 → (f j).func ≡ j
  unfolding func_in
  own-func e = (here f c ok j h).func-is ∙ if_eq-yes j _ e

  locals-here : ((f j).kind ≡ 1 → ⊥) → locals_at f j ≡ v
  unfolding locals_at
  locals-here q =
      let s : 1 ≤ open_before f j = open-some f c ok j h q in
      ap₂ (λ (i s : ℕ). (f i).b + count_below (let_seen f s) j) (func-open f c ok j h s) (scope-open f c ok j h q) ∙ p.locals s

  here-few : few_locals f j ≡ true
  unfolding few_locals
  here-few =
      both_true _ _ (given_by (eqb (f j).kind 1) (leb (f j).b 8) (λ e. le-leb (f j).b 8 (parameters (eqb-true _ _ e))))
      (given_by (eqb (f j).kind 5) (ltb (locals_at f j) 64)
      (λ e. let k : (f j).kind ≡ 5 = eqb-true _ _ e in lt-ltb (locals_at f j) 64 (omega (arith, locals-here (λ q. omega arith), lets k))))

  -- behind row j, in frame s
  next-in : (s : ℕ) → 1 ≤ open_before f (suc j) → frame_in f (open_before f (suc j)) ≡ s
      → locals_in f (open_before f (suc j)) (suc j) ≡ (f (f j).func).b + count_below (let_seen f s) (suc j)
  next-in s l e = ap₂ (λ (i s : ℕ). (f i).b + count_below (let_seen f s) (suc j)) (func-stays f c ok j h l) e

  plain-count : ((f j).kind ≡ 1 → ⊥) → ((f j).kind ≡ 5 → ⊥) → (f (f j).func).b + count_below (let_seen f (f j).scope) (suc j) ≡ v
  unfolding locals_at
  plain-count a e = ap (λ (i : ℕ). (f (f j).func).b + i) (count_no (let_seen f (f j).scope) j (let-no f (f j).scope j e)) ∙ locals-here a

  let-count : (f j).kind ≡ 5 → (f (f j).func).b + count_below (let_seen f (f j).scope) (suc j) ≡ v + 1
  unfolding locals_at
  let-count e =
      omega (arith, count_yes (let_seen f (f j).scope) j (let-yes f (f j).scope j e refl), locals-here (λ q. omega arith))

  function-count : (f j).kind ≡ 1 → (f (f j).func).b + count_below (let_seen f j) (suc j) ≡ (f j).b
  unfolding count_below
  function-count e =
      ap (λ (i : ℕ). (f i).b + count_below (let_seen f j) (suc j)) (own-func e)
      ∙ ap (λ (i : ℕ). (f j).b + i) (count_none (let_seen f j) 0 (suc j) (omega arith) none_seen) ∙ omega arith
    where
      none_seen : (i : ℕ) → 0 ≤ i → i < suc j → let_seen f j i ≡ false
      none_seen i a b =
          elim (ℕ_discrete i j) [
            | yes q ↦ let-no f j i (λ z. let y : (f j).kind ≡ 5 = ap (λ (x : ℕ). (f x).kind) (sym q) ∙ z in omega arith)
            | no q ↦ let-far f j i (enc-out f 16 (f i).scope j (λ z. omega (arith, scope-low f c ok i (omega arith))) (λ z. omega arith))
          ]

  block-count : (f j).kind ≡ 3 → (f (f j).func).b + count_below (let_seen f j) (suc j) ≡ v
  unfolding locals_at let_seen
  block-count e =
      let a : ((f j).kind ≡ 1 → ⊥) = λ q. omega arith in
      let s : depth_of f 17 (f j).scope ≡ d = ap (depth_of f 17) (scope-open f c ok j h a) ∙ deep.depth (open-some f c ok j h a) in
      ap (λ (i : ℕ). (f (f j).func).b + i)
      (count_no (let_seen f j) j (let-no f j j (λ q. omega arith)) ∙ count-agree (let_seen f j) (let_seen f (f j).scope) j (λ i l. ap (both (eqb (f i).kind 5)) (seen i l (omega (arith, shallow e)))))
      ∙ locals-here a
    where
      seen : (i : ℕ) → i < j → depth_of f 17 (f j).scope ≤ 16 → encloses f 17 (f i).scope j ≡ encloses f 17 (f i).scope (f j).scope
      seen i l s = enc-in f 16 (f i).scope j (λ z. omega (arith, scope-low f c ok i (omega arith))) e ∙ sym (enc-less f 16 (f i).scope (f j).scope s)

  module _ (e : (f j).kind ≡ 4) (b : Block f c ok j) where
    -- the block's own lets are not seen outside
    gone : (i : ℕ) → b.q ≤ i → i < suc j → let_seen f (f b.q).scope i ≡ false
    gone i l m =
        elim (ℕ_discrete i j) [
          | yes z ↦ let-no f _ i (λ y. let x : (f j).kind ≡ 5 = ap (λ (x : ℕ). (f x).kind) (sym z) ∙ y in omega arith)
          | no z ↦ elim (ℕ_discrete i b.q) [
            | yes y ↦ let-no f _ i (λ x. let w : (f b.q).kind ≡ 5 = ap (λ (x : ℕ). (f x).kind) (sym y) ∙ x in omega (arith, b.kind))
            | no y ↦ let-far f _ i (enc-low f c (scope-low f c ok) 17 (f i).scope (f b.q).scope (omega (arith, outside, b.below)) (omega (arith, outside, within y z)))
          ]
        ]
      where
        outside : (f b.q).scope < b.q
        outside =
            let k : ((f b.q).kind ≡ 1 → ⊥) = λ y. omega (arith, b.kind) in
            let s : 1 ≤ open_before f b.q = open-some f c ok b.q (omega (arith, b.below)) k in
            let o : open_before f b.q ≤ b.q = open-low f c ok b.q (omega (arith, b.below)) in
            omega (arith, scope-open f c ok b.q (omega (arith, b.below)) k, frame-low f c ok (open_before f b.q) s (omega (arith, b.below)))

        within : (i ≡ b.q → ⊥) → (i ≡ j → ⊥) → b.q ≤ (f i).scope
        within y z = omega (arith, b.frame, inner f c ok j (omega arith) (omega (arith, b.opened)) i (omega (arith, b.opened)) (omega arith))

    end-count : (f (f j).func).b + count_below (let_seen f (f b.q).scope) (suc j) ≡ before b.q
    unfolding locals_at
    end-count =
        let z : open_before f j - 1 ≡ b.q = omega (arith, b.opened) in
        let k : (f j).func ≡ (f b.q).func = func-open f c ok j h (omega (arith, b.opened)) ∙ ap (λ (i : ℕ). (f i).func) z in
        ap₂ (λ (i n : ℕ). (f i).b + n) k (count_none (let_seen f (f b.q).scope) b.q (suc j) (omega (arith, b.below)) gone) ∙ sym (p.blocks b.q b.below b.kind)

  abbrev Next : ℕ → Type 0
  Next x = 1 ≤ open_before f (suc j) → locals_in f (open_before f (suc j)) (suc j) ≡ x

  next-locals : Next (locals_behind (f j).kind (f j).b (before (open_before f j - 1)) v)
  unfolding locals_behind
  next-locals =
      elim (ℕ_discrete (f j).kind 1) [
        | yes e ↦ λ l. next-in j l (frame-function f c ok j e) ∙ function-count e ∙ sym (if_eq-yes _ _ e)
        | no a ↦ elim (ℕ_discrete (f j).kind 5) [
          | yes e ↦ λ l. next-in (f j).scope l (frame-stays f c ok j h a (λ q. omega arith) (λ q. omega arith) (λ q. omega arith)) ∙ let-count e ∙ sym (if_eq-no _ _ a ∙ if_eq-yes _ _ e)
          | no g ↦ elim (ℕ_discrete (f j).kind 4) [
            | yes e ↦ λ l. let b : Block f c ok j = end-block f c ok j h e in
                let z : b.q ≡ open_before f j - 1 = omega (arith, b.opened) in
                next-in (f b.q).scope l b.outer ∙ end-count e b ∙ ap before z ∙ sym (if_eq-no _ _ a ∙ if_eq-no _ _ g ∙ if_eq-yes _ _ e)
            | no i ↦ elim (ℕ_discrete (f j).kind 3) [
              | yes e ↦ λ l. next-in j l (frame-block f c ok j e) ∙ block-count e ∙ sym (if_eq-no _ _ a ∙ if_eq-no _ _ g ∙ if_eq-no _ _ i)
              | no k ↦ elim (ℕ_discrete (f j).kind 2) [
                | yes e ↦ λ l. absurd (omega (arith, end-function f c ok j h e))
                | no m ↦ λ l. next-in (f j).scope l (frame-stays f c ok j h a m k i) ∙ plain-count a g ∙ sym (if_eq-no _ _ a ∙ if_eq-no _ _ g ∙ if_eq-no _ _ i)
              ]
            ]
          ]
        ]
      ]

  pub few-next : Few f before (suc j) (locals_behind (f j).kind (f j).b (before (open_before f j - 1)) v)
  few-next =
      record {
        rows = λ m l. elim (ℕ_discrete m j) [
          | yes e ↦ subst (λ (i : ℕ). few_locals f i ≡ true) (sym e) here-few
          | no e ↦ p.rows m (omega arith)
        ];
        blocks = λ m l k. elim (ℕ_discrete m j) [
          | yes e ↦ let y : (f j).kind ≡ 3 = ap (λ (x : ℕ). (f x).kind) (sym e) ∙ k in
              ap before e ∙ held-is y ∙ sym (locals-here (λ q. omega arith)) ∙ ap (locals_at f) (sym e)
          | no e ↦ p.blocks m (omega arith) k
        ];
        locals = next-locals;
      }

-- ---- views that agree on the first c rows

module _ (f g : ℕ → Row) (c : ℕ) (ok : (n : ℕ) → n < c → stands f n ≡ true) (same : (i : ℕ) → i < c → strip (g i) ≡ strip (f i)) where
  func-low : (i : ℕ) → i < c → (f i).func < c
  func-low i h = omega (arith, (held f c ok c (omega arith) i h).before)

  frame-parameters : (i : ℕ) → i < c → (g (g i).func).b ≡ (f (f i).func).b
  frame-parameters i h =
      ap (λ (n : ℕ). (g n).b) (func-same f g c same i h)
      ∙ parameters-same f g c same (f i).func (func-low i h) (held f c ok c (omega arith) i h).is-function

  enc-same : (fuel e s : ℕ) → s < c → encloses g fuel e s ≡ encloses f fuel e s
  unfolding encloses
  enc-same zero e s h = refl
  enc-same (suc fuel) e s h =
      ap (λ (r : Row). if_eq s e true (if_eq r.kind 3 (encloses g fuel e r.scope) false)) (same s h)
      ∙ ap (λ (b : Bool). if_eq s e true (if_eq (f s).kind 3 b false)) (enc-same fuel e (f s).scope (omega (arith, scope-low f c ok s h)))

  let-same : (s i : ℕ) → s < c → i < c → let_seen g s i ≡ let_seen f s i
  unfolding let_seen
  let-same s i h l =
      ap (λ (r : Row). both (eqb r.kind 5) (encloses g 17 r.scope s)) (same i l)
      ∙ ap (both (eqb (f i).kind 5)) (enc-same 17 (f i).scope s h)

  count_same : (s n : ℕ) → s < c → n ≤ c → count_below (let_seen g s) n ≡ count_below (let_seen f s) n
  count_same s n h l = count-agree (let_seen g s) (let_seen f s) n (λ i m. let-same s i h (omega arith))

  locals_same : (m : ℕ) → m < c → locals_at g m ≡ locals_at f m
  unfolding locals_at
  locals_same m h =
      ap₂ (λ (b s : ℕ). b + count_below (let_seen g s) m) (frame-parameters m h) (scope-same f g c same m h)
      ∙ ap (λ (n : ℕ). (f (f m).func).b + n) (count_same (f m).scope m (omega (arith, scope-low f c ok m h)) (omega arith))

  pub few-same : (m : ℕ) → m < c → few_locals f m ≡ true → few_locals g m ≡ true
  unfolding few_locals
  few-same m h e =
      both_true _ _
      (given_by (eqb (g m).kind 1) (leb (g m).b 8)
      (λ q. let k : (f m).kind ≡ 1 = sym (kind-same f g c same m h) ∙ eqb-true _ _ q in
      rw (parameters-same f g c same m h k) (given-then (eqb (f m).kind 1) (leb (f m).b 8) (both_left _ _ e) (eq-eqb _ _ k))))
      (rw (kind-same f g c same m h, locals_same m h) (both_right (given (eqb (f m).kind 1) (leb (f m).b 8)) _ e))

  in-same : (o : ℕ) → 1 ≤ o → o ≤ c → locals_in g o c ≡ locals_in f o c
  in-same o l h =
      ap₂ (λ (b s : ℕ). b + count_below (let_seen g s) c) (frame-parameters (o - 1) (omega arith)) (frame_same f g c same (scope-low f c ok) o l h)
      ∙ ap (λ (n : ℕ). (f (f (o - 1)).func).b + n) (count_same (frame_in f o) c (omega (arith, frame-low f c ok o l h)) (omega arith))

  pub few-alike : (before after : ℕ → ℕ) (v : ℕ) → ((i : ℕ) → i < c → after i ≡ before i) → Few f before c v → Few g after c v
  few-alike before after v held p =
      let o : open_before g c ≡ open_before f c = open-same f g c same c (omega arith) in
      let l : open_before f c ≤ c = open-low f c ok c (omega arith) in
      record {
        rows = λ m h. few-same m h (p.rows m h);
        blocks = λ m h k. held m h ∙ p.blocks m h (sym (kind-same f g c same m h) ∙ k) ∙ sym (locals_same m h);
        locals = λ s. let s' : 1 ≤ open_before f c = omega arith in
            ap (λ (i : ℕ). locals_in g i c) o ∙ in-same (open_before f c) s' l ∙ p.locals s';
      }
