-- Frame words: the words of lets and blocks lie within the frame of their function.
-- Assumes nothing.
use mathlib.Core.Path.{◌≡◌, refl, sym, ◌∙◌, ap, subst}
use mathlib.Core.Bool.{Bool, true, false}
use Prim.Native.Nat.{ℕ, zero, suc, ◌+◌, ◌-◌, ◌<◌, ◌≤◌, max}
use native.Mathlib.Nat.{not-suc-le-zero}
use native.Mathlib.Decide.{ℕ_discrete}
use native.Mathlib.Omega.{arith}
use borrow.Author.Tests.{eq-eqb, eqb-true}
use lib.Dec.{eqb}
use Rattle.base_prelude.specs.Choice.{pick, if_eq, if_true}
use Rattle.base_prelude.proofs.Choice.{either_true, true-false, if_eq-yes, if_eq-no, if_true-yes}
use Rattle.lang_kinds.specs.Nesting.{is_frame}
use Rattle.prog_tables.specs.Layout.{frame_head}
use Rattle.prog_tables.specs.Tests.{count_below, greatest_below}
use Rattle.prog_tables.specs.Statement.{Row}
use Rattle.prog_tables.specs.Nesting.{open_before, func_in, scope_in, stands, depth_of, encloses}
use Rattle.prog_tables.specs.Frames.{is_in, lets_before, block_need, need_of, frame_size, first_let, block_word, let_word}
use Rattle.prog_tables.proofs.Each.{both_true}
use Rattle.prog_tables.proofs.Nested.{here, open-some, small, func-open}

-- ---- counts and the greatest

count-step : (p : ℕ → Bool) (n : ℕ) → count_below p n ≤ count_below p (suc n)
unfolding count_below
count-step p n = step (p n)
  where
    step : (b : Bool) → count_below p n ≤ pick b (suc (count_below p n)) (count_below p n)
    step true = omega arith
    step false = omega arith

count-here : (p : ℕ → Bool) (n : ℕ) → p n ≡ true → count_below p n < count_below p (suc n)
unfolding count_below
count-here p n e = subst (λ (b : Bool). count_below p n < pick b (suc (count_below p n)) (count_below p n)) (sym e) (omega arith)

pub count_less : (p : ℕ → Bool) (c n : ℕ) → p n ≡ true → n < c → count_below p n < count_below p c
count_less p zero n e h = absurd (not-suc-le-zero h)
count_less p (suc c) n e h =
    elim (ℕ_discrete n c) [
      | yes q ↦ subst (λ (x : ℕ). count_below p n < count_below p (suc x)) q (count-here p n e)
      | no q ↦ omega (arith, count_less p c n e (omega arith), count-step p c)
    ]

pub greatest-at : (g : ℕ → ℕ) (c i : ℕ) → i < c → g i ≤ greatest_below g c
unfolding greatest_below
greatest-at g zero i h = absurd (not-suc-le-zero h)
greatest-at g (suc c) i h =
    elim (ℕ_discrete i c) [
      | yes q ↦ subst (λ (x : ℕ). g x ≤ max (greatest_below g c) (g c)) (sym q) (omega arith)
      | no q ↦ omega (arith, greatest-at g c i (omega arith))
    ]

frame-one : is_frame 1 ≡ true
unfolding is_frame if_eq
frame-one = refl

pub frame-three : is_frame 3 ≡ true
unfolding is_frame if_eq
frame-three = refl

frame-kind : (k : ℕ) → is_frame k ≡ true → (k ≡ 3 → ⊥) → k ≡ 1
unfolding is_frame
frame-kind k e q =
    elim (ℕ_discrete k 1) [
      | yes d ↦ d
      | no d ↦ true-false (sym e ∙ if_eq-no true (if_eq k 3 true false) d ∙ if_eq-no true false q)
    ]

module _ (f : ℕ → Row) (c : ℕ) (ok : (n : ℕ) → n < c → stands f n ≡ true) where
  -- ---- scopes

  -- x is a frame before row j, in the same function
  pub record At (j x : ℕ) : Type 0 where
    pub low : x < j
    pub frame : is_frame (f x).kind ≡ true
    pub same : (f x).func ≡ (f j).func

  pub scopes : (j : ℕ) → j ≤ c → (i : ℕ) → i < j → ((f i).kind ≡ 1 → ⊥) → At i (f i).scope
  unfolding scope_in
  scopes zero h i l q = absurd (not-suc-le-zero l)
  scopes (suc j) h i l q =
      elim (ℕ_discrete i j) [
        | no e ↦ scopes j (omega arith) i (omega arith) q
        | yes e ↦ subst (λ (x : ℕ). At x (f x).scope) (sym e)
            (own (λ (d : (f j).kind ≡ 1). q (ap (λ (x : ℕ). (f x).kind) e ∙ d)) (λ m g d. scopes j (omega arith) m g d))
      ]
    where
      own : ((f j).kind ≡ 1 → ⊥) → ((m : ℕ) → m < j → ((f m).kind ≡ 1 → ⊥) → At m (f m).scope) → At j (f j).scope
      own q on =
          let l : 1 ≤ open_before f j = open-some f c ok j h q in
          let b : open_before f j - 1 < j = omega (arith, l, (small f c ok j (omega arith)).open-low) in
          let s : (f (open_before f j - 1)).func ≡ (f j).func = sym (func-open f c ok j h l) in
          subst (At j)
          (sym ((here f c ok j h).scope-is ∙ if_eq-no j (if_true (is_frame (f (open_before f j - 1)).kind) (open_before f j - 1) (f (open_before f j - 1)).scope) q))
          (either_true (At j) (is_frame (f (open_before f j - 1)).kind) (open_before f j - 1) (f (open_before f j - 1)).scope
          (λ e. record { low = b; frame = e; same = s })
          (λ e. outer b s (on (open_before f j - 1) b (λ d. true-false (sym (ap is_frame d ∙ frame-one) ∙ e)))))
        where
          outer : open_before f j - 1 < j → (f (open_before f j - 1)).func ≡ (f j).func → At (open_before f j - 1) (f (open_before f j - 1)).scope → At j (f (open_before f j - 1)).scope
          outer b s x = record { low = omega (arith, x.low); frame = x.frame; same = x.same ∙ s }

  pub func-own : (s : ℕ) → s < c → (f s).kind ≡ 1 → (f s).func ≡ s
  unfolding func_in
  func-own s h e = (here f c ok s h).func-is ∙ if_eq-yes s (f (open_before f s - 1)).func e

  -- ---- a frame's lets and blocks are within its function's frame

  unfoldable pub Fits : ℕ → ℕ → Type 0
  Fits k s = first_let f c (suc k) s + need_of f c (17 - depth_of f (suc k) s) s ≤ frame_head + (f (f s).func).b + need_of f c 17 (f s).func

  fits-function : (k s : ℕ) → s < c → (f s).kind ≡ 1 → Fits k s
  unfolding Fits first_let depth_of
  fits-function k s h e =
      let q : (f s).kind ≡ 3 → ⊥ = λ d. omega arith in
      let d : depth_of f (suc k) s ≡ 0 = if_eq-no (suc (depth_of f k (f s).scope)) 0 q in
      let l : first_let f c (suc k) s ≡ frame_head + (f s).b = if_eq-no (suc (first_let f c k (f s).scope + lets_before f (f s).scope c)) (frame_head + (f s).b) q in
      let a : need_of f c (17 - depth_of f (suc k) s) s ≡ need_of f c 17 s = ap (λ (x : ℕ). need_of f c (17 - x) s) d in
      let b : need_of f c 17 (f s).func ≡ need_of f c 17 s = ap (need_of f c 17) (func-own s h e) in
      let g : (f (f s).func).b ≡ (f s).b = ap (λ (x : ℕ). (f x).b) (func-own s h e) in
      omega (arith, l, a, b, g)

  depth-block : (k s : ℕ) → (f s).kind ≡ 3 → depth_of f (suc k) s ≡ suc (depth_of f k (f s).scope)
  unfolding depth_of
  depth-block k s e = if_eq-yes (suc (depth_of f k (f s).scope)) 0 e

  first_block : (k s : ℕ) → (f s).kind ≡ 3 → first_let f c (suc k) s ≡ suc (first_let f c k (f s).scope + lets_before f (f s).scope c)
  unfolding first_let
  first_block k s e = if_eq-yes (suc (first_let f c k (f s).scope + lets_before f (f s).scope c)) (frame_head + (f s).b) e

  need-suc : (d s : ℕ) → need_of f c (suc d) s ≡ lets_before f s c + greatest_below (block_need f s (need_of f c d)) c
  unfolding need_of
  need-suc d s = refl

  block-need : (g : ℕ → ℕ) (s : ℕ) → (f s).kind ≡ 3 → block_need f (f s).scope g s ≡ suc (g s)
  unfolding block_need is_in
  block-need g s e = if_true-yes (suc (g s)) 0 (both_true (eqb (f s).kind 3) (eqb (f s).scope (f s).scope) (eq-eqb _ _ e) (eq-eqb (f s).scope (f s).scope refl))

  out : (s : ℕ) → s < c → (f s).kind ≡ 3 → At s (f s).scope
  out s h q = scopes c (omega arith) s h (λ (d : (f s).kind ≡ 1). omega arith)

  is-let : (n : ℕ) → (f n).kind ≡ 5 → is_in f 5 (f n).scope n ≡ true
  unfolding is_in
  is-let n e = both_true (eqb (f n).kind 5) (eqb (f n).scope (f n).scope) (eq-eqb _ _ e) (eq-eqb (f n).scope (f n).scope refl)

  block-fits : (k s : ℕ) → suc k ≤ 16 → s < c → (f s).kind ≡ 3 → depth_of f (suc k) (f s).scope ≤ k → At s (f s).scope → Fits k (f s).scope → Fits (suc k) s
  unfolding Fits
  block-fits k s l h q g x i =
      let dd : depth_of f (suc (suc k)) s ≡ suc (depth_of f (suc k) (f s).scope) = depth-block (suc k) s q in
      let fl : first_let f c (suc (suc k)) s ≡ suc (first_let f c (suc k) (f s).scope + lets_before f (f s).scope c) = first_block (suc k) s q in
      let nd : 17 - depth_of f (suc k) (f s).scope ≡ suc (16 - depth_of f (suc k) (f s).scope) = omega arith in
      let ne : need_of f c (17 - depth_of f (suc k) (f s).scope) (f s).scope ≡ lets_before f (f s).scope c + greatest_below (block_need f (f s).scope (need_of f c (16 - depth_of f (suc k) (f s).scope))) c = ap (λ (y : ℕ). need_of f c y (f s).scope) nd ∙ need-suc (16 - depth_of f (suc k) (f s).scope) (f s).scope in
      let gr : block_need f (f s).scope (need_of f c (16 - depth_of f (suc k) (f s).scope)) s ≤ greatest_below (block_need f (f s).scope (need_of f c (16 - depth_of f (suc k) (f s).scope))) c = greatest-at (block_need f (f s).scope (need_of f c (16 - depth_of f (suc k) (f s).scope))) c s h in
      let bn : block_need f (f s).scope (need_of f c (16 - depth_of f (suc k) (f s).scope)) s ≡ suc (need_of f c (16 - depth_of f (suc k) (f s).scope) s) = block-need (need_of f c (16 - depth_of f (suc k) (f s).scope)) s q in
      let de : 17 - depth_of f (suc (suc k)) s ≡ 16 - depth_of f (suc k) (f s).scope = omega arith in
      let ns : need_of f c (17 - depth_of f (suc (suc k)) s) s ≡ need_of f c (16 - depth_of f (suc k) (f s).scope) s = ap (λ (y : ℕ). need_of f c y s) de in
      let b1 : (f (f (f s).scope).func).b ≡ (f (f s).func).b = ap (λ (y : ℕ). (f y).b) x.same in
      let n1 : need_of f c 17 (f (f s).scope).func ≡ need_of f c 17 (f s).func = ap (need_of f c 17) x.same in
      omega (arith, fl, ne, gr, bn, ns, b1, n1, i)

  pub frame-fits : (k s : ℕ) → k ≤ 16 → s < c → is_frame (f s).kind ≡ true → depth_of f (suc k) s ≤ k → Fits k s
  frame-fits zero s l h e g =
      elim (ℕ_discrete (f s).kind 3) [
        | no q ↦ fits-function 0 s h (frame-kind (f s).kind e q)
        | yes q ↦ absurd (omega (arith, depth-block 0 s q))
      ]
  frame-fits (suc k) s l h e g =
      elim (ℕ_discrete (f s).kind 3) [
        | no q ↦ fits-function (suc k) s h (frame-kind (f s).kind e q)
        | yes q ↦ block-fits k s l h q (omega (arith, depth-block (suc k) s q)) (out s h q)
            (frame-fits k (f s).scope (omega arith) (omega (arith, (out s h q).low)) (out s h q).frame (omega (arith, depth-block (suc k) s q)))
      ]

  -- a let's word is below the frame size of its function
  pub let-fits : (n : ℕ) → n < c → (f n).kind ≡ 5 → depth_of f 17 (f n).scope ≤ 16 → let_word f c n < frame_size f c (f n).func
  unfolding let_word frame_size Fits lets_before
  let-fits n h e g =
      let x : At n (f n).scope = scopes c (omega arith) n h (λ (d : (f n).kind ≡ 1). omega arith) in
      let i : Fits 16 (f n).scope = frame-fits 16 (f n).scope (omega arith) (omega (arith, x.low)) x.frame g in
      let nd : 17 - depth_of f 17 (f n).scope ≡ suc (16 - depth_of f 17 (f n).scope) = omega arith in
      let ne : need_of f c (17 - depth_of f 17 (f n).scope) (f n).scope ≡ lets_before f (f n).scope c + greatest_below (block_need f (f n).scope (need_of f c (16 - depth_of f 17 (f n).scope))) c = ap (λ (y : ℕ). need_of f c y (f n).scope) nd ∙ need-suc (16 - depth_of f 17 (f n).scope) (f n).scope in
      let cl : count_below (is_in f 5 (f n).scope) n < count_below (is_in f 5 (f n).scope) c = count_less (is_in f 5 (f n).scope) c n (is-let n e) h in
      let b1 : (f (f (f n).scope).func).b ≡ (f (f n).func).b = ap (λ (y : ℕ). (f y).b) x.same in
      let n1 : need_of f c 17 (f (f n).scope).func ≡ need_of f c 17 (f n).func = ap (need_of f c 17) x.same in
      omega (arith, i, ne, cl, b1, n1)

  first_function : (k s : ℕ) → ((f s).kind ≡ 3 → ⊥) → first_let f c (suc k) s ≡ frame_head + (f s).b
  unfolding first_let
  first_function k s q = if_eq-no (suc (first_let f c k (f s).scope + lets_before f (f s).scope c)) (frame_head + (f s).b) q

  -- with fuel for all frames around, more fuel changes nothing
  pub first-stable : (k s : ℕ) → s < c → depth_of f (suc k) s ≤ k → first_let f c (suc k) s ≡ first_let f c (suc (suc k)) s
  first-stable zero s h g =
      elim (ℕ_discrete (f s).kind 3) [
        | no q ↦ first_function 0 s q ∙ sym (first_function 1 s q)
        | yes q ↦ absurd (omega (arith, depth-block 0 s q))
      ]
  first-stable (suc k) s h g =
      elim (ℕ_discrete (f s).kind 3) [
        | no q ↦ first_function (suc k) s q ∙ sym (first_function (suc (suc k)) s q)
        | yes q ↦ first_block (suc k) s q
            ∙ ap (λ (y : ℕ). suc (y + lets_before f (f s).scope c)) (first-stable k (f s).scope (omega (arith, (out s h q).low)) (omega (arith, depth-block (suc k) s q)))
            ∙ sym (first_block (suc (suc k)) s q)
      ]

  -- a block's word and its lets are below the frame size of its function
  pub block-word-fits : (s : ℕ) → s < c → (f s).kind ≡ 3 → depth_of f 17 s ≤ 16 → block_word f c s + lets_before f s c < frame_size f c (f s).func
  unfolding block_word frame_size Fits
  block-word-fits s h e g =
      let i : Fits 16 s = frame-fits 16 s (omega arith) h (ap is_frame e ∙ frame-three) g in
      let d : depth_of f 16 (f s).scope ≤ 15 = omega (arith, depth-block 16 s e) in
      let st : first_let f c 16 (f s).scope ≡ first_let f c 17 (f s).scope = first-stable 15 (f s).scope (omega (arith, (out s h e).low)) d in
      let fb : first_let f c 17 s ≡ suc (first_let f c 16 (f s).scope + lets_before f (f s).scope c) = first_block 16 s e in
      let nd : 17 - depth_of f 17 s ≡ suc (16 - depth_of f 17 s) = omega arith in
      let ne : need_of f c (17 - depth_of f 17 s) s ≡ lets_before f s c + greatest_below (block_need f s (need_of f c (16 - depth_of f 17 s))) c = ap (λ (y : ℕ). need_of f c y s) nd ∙ need-suc (16 - depth_of f 17 s) s in
      omega (arith, i, st, fb, ne)

  -- frames around a frame are of its function
  pub around-func : (k e s : ℕ) → s < c → encloses f k e s ≡ true → (f e).func ≡ (f s).func
  unfolding encloses
  around-func zero e s h q = ap (λ (y : ℕ). (f y).func) (sym (eqb-true s e q))
  around-func (suc k) e s h q =
      elim (ℕ_discrete s e) [
        | yes d ↦ ap (λ (y : ℕ). (f y).func) (sym d)
        | no d ↦ elim (ℕ_discrete (f s).kind 3) [
          | yes b ↦ around-func k e (f s).scope (omega (arith, (out s h b).low))
              (sym (if_eq-yes (encloses f k e (f s).scope) false b) ∙ sym (if_eq-no true (if_eq (f s).kind 3 (encloses f k e (f s).scope) false) d) ∙ q)
              ∙ (out s h b).same
          | no b ↦ true-false (sym q ∙ if_eq-no true (if_eq (f s).kind 3 (encloses f k e (f s).scope) false) d ∙ if_eq-no (encloses f k e (f s).scope) false b)
        ]
      ]
