-- Frame words: those of lets and blocks lie behind the parameters and within the frame, and a let's word in scope is that of no open block.
-- Assumes nothing.
use mathlib.Core.Path.{◌≡◌, refl, sym, ◌∙◌, ap, subst}
use mathlib.Core.Bool.{Bool, true, false}
use Prim.Native.Nat.{ℕ, zero, suc, ◌+◌, ◌-◌, ◌<◌, ◌≤◌}
use native.Mathlib.Decide.{ℕ_discrete}
use native.Mathlib.Omega.{arith}
use borrow.Author.Tests.{eqb-true, eq-eqb, leb-true, leb-false, ltb-true, lt-ltb}
use lib.Dec.{eqb, ltb, leb}
use Rattle.base_prelude.specs.Choice.{if_eq}
use Rattle.base_prelude.proofs.Choice.{true-false, if_eq-yes, if_eq-no, if_lt-no}
use Rattle.base_limits.specs.declared.Width.{Width}
use Rattle.lang_kinds.specs.Nesting.{is_frame}
use Rattle.base_limits.specs.Limits.{block_depth}
use Rattle.prog_tables.specs.Layout.{frame_head}
use Rattle.prog_tables.specs.Tests.{both, one_of, some_below, count_below}
use Rattle.prog_tables.specs.Statement.{Row}
use Rattle.prog_tables.specs.Label.{Tables, rows}
use Rattle.prog_tables.specs.Program.{program_from}
use Rattle.prog_tables.specs.Nesting.{stands, depth_of, encloses}
use Rattle.prog_tables.specs.Frames.{frame_depth, is_in, lets_before, first_let, block_word, let_word, locals_at, let_seen, is_parameter, seen_at, in_scope}
use Rattle.prog_tables.specs.Faults.{size_at, own_word, has_word, word_fault}
use Rattle.prog_tables.specs.WellFormed.{shallow, sets_local, framed, WellFormed}
use Rattle.prog_tables.proofs.Each.{both_left, both_right, both_true, given-then, all-at, shallow-at, framed_at, sets-at}
use Rattle.prog_tables.proofs.Words.{count_less, At, scopes, func-own, first-stable, around-func}
use Rattle.prog_tables.proofs.Sound.{ok, frame-tests}
use Rattle.prog_tables.proofs.Whole.{Found, some-found, let-size, word_sound}
use Rattle.prog_laws.proofs.Next.{end-block}
use Rattle.prog_laws.proofs.Rows.{size-here}

frame-function : (k : ℕ) → is_frame k ≡ true → (k ≡ 3 → ⊥) → k ≡ 1
unfolding is_frame
frame-function k e q =
    elim (ℕ_discrete k 1) [
      | yes d ↦ d
      | no d ↦ true-false (sym e ∙ if_eq-no true (if_eq k 3 true false) d ∙ if_eq-no true false q)
    ]

is-let : (f : ℕ → Row) (n : ℕ) → (f n).kind ≡ 5 → is_in f 5 (f n).scope n ≡ true
unfolding is_in
is-let f n e = both_true (eqb (f n).kind 5) (eqb (f n).scope (f n).scope) (eq-eqb _ _ e) (eq-eqb (f n).scope (f n).scope refl)

-- ---- the first let of a frame

module _ (f : ℕ → Row) (c : ℕ) (ok : (n : ℕ) → n < c → stands f n ≡ true) where
  out : (s : ℕ) → s < c → (f s).kind ≡ 3 → At f c ok s (f s).scope
  out s h q = scopes f c ok c (omega arith) s h (λ (d : (f s).kind ≡ 1). omega arith)

  first_function : (k s : ℕ) → ((f s).kind ≡ 3 → ⊥) → first_let f c (suc k) s ≡ frame_head + (f s).b
  unfolding first_let
  first_function k s q = if_eq-no (suc (first_let f c k (f s).scope + lets_before f (f s).scope c)) (frame_head + (f s).b) q

  first_block : (k s : ℕ) → (f s).kind ≡ 3 → first_let f c (suc k) s ≡ suc (first_let f c k (f s).scope + lets_before f (f s).scope c)
  unfolding first_let
  first_block k s e = if_eq-yes (suc (first_let f c k (f s).scope + lets_before f (f s).scope c)) (frame_head + (f s).b) e

  depth-block : (k s : ℕ) → (f s).kind ≡ 3 → depth_of f (suc k) s ≡ suc (depth_of f k (f s).scope)
  unfolding depth_of
  depth-block k s e = if_eq-yes (suc (depth_of f k (f s).scope)) 0 e

  low-function : (k s : ℕ) → s < c → is_frame (f s).kind ≡ true → ((f s).kind ≡ 3 → ⊥) → 3 + (f (f s).func).b ≤ first_let f c (suc k) s
  low-function k s h e q = omega (arith, first_function k s q, ap (λ (x : ℕ). (f x).b) (func-own f c ok s h (frame-function (f s).kind e q)))

  -- it lies behind the parameters
  first-low : (k s : ℕ) → s < c → is_frame (f s).kind ≡ true → depth_of f (suc k) s ≤ k → 3 + (f (f s).func).b ≤ first_let f c (suc k) s
  first-low zero s h e g =
      elim (ℕ_discrete (f s).kind 3) [
        | no q ↦ low-function 0 s h e q
        | yes q ↦ absurd (omega (arith, depth-block 0 s q))
      ]
  first-low (suc k) s h e g =
      elim (ℕ_discrete (f s).kind 3) [
        | no q ↦ low-function (suc k) s h e q
        | yes q ↦ omega (
          arith,
          first_block (suc k) s q,
          ap (λ (x : ℕ). (f x).b) (out s h q).same,
          first-low k (f s).scope (omega (arith, (out s h q).low)) (out s h q).frame (omega (arith, depth-block (suc k) s q)),
        )
      ]

  -- behind the word of its block
  first-behind : (s : ℕ) → s < c → (f s).kind ≡ 3 → depth_of f 17 s ≤ 16 → first_let f c 17 s ≡ suc (block_word f c s)
  unfolding block_word
  first-behind s h e g =
      first_block 16 s e
      ∙ ap (λ (x : ℕ). suc (x + lets_before f (f s).scope c)) (first-stable f c ok 15 (f s).scope (omega (arith, (out s h e).low)) (omega (arith, depth-block 16 s e)))

  first-behind-sum : (s : ℕ) → s < c → (f s).kind ≡ 3 → depth_of f 17 s ≤ 16 → first_let f c 17 s ≡ suc (first_let f c 17 (f s).scope + lets_before f (f s).scope c)
  unfolding block_word
  first-behind-sum s h e g = first-behind s h e g

  -- ---- frames one in the other

  around-step : (k e s : ℕ) → (s ≡ e → ⊥) → (f s).kind ≡ 3 → encloses f (suc k) e s ≡ encloses f k e (f s).scope
  unfolding encloses
  around-step k e s q b = if_eq-no true (if_eq (f s).kind 3 (encloses f k e (f s).scope) false) q ∙ if_eq-yes (encloses f k e (f s).scope) false b

  around-none : (k e s : ℕ) → (s ≡ e → ⊥) → ((f s).kind ≡ 3 → ⊥) → encloses f (suc k) e s ≡ false
  unfolding encloses
  around-none k e s q b = if_eq-no true (if_eq (f s).kind 3 (encloses f k e (f s).scope) false) q ∙ if_eq-no (encloses f k e (f s).scope) false b

  around-zero : (e s : ℕ) → encloses f zero e s ≡ true → s ≡ e
  unfolding encloses
  around-zero e s h = eqb-true s e h

  pub around-self : (k s : ℕ) → encloses f k s s ≡ true
  unfolding encloses
  around-self zero s = eq-eqb s s refl
  around-self (suc k) s = if_eq-yes true (if_eq (f s).kind 3 (encloses f k s (f s).scope) false) refl

  -- all frames are shallow
  module _ (flat : (s : ℕ) → s < c → depth_of f 17 s ≤ 16) where
    -- a frame around another ends before the other's block
    above : {P : Type 0} (k a s : ℕ) → s < c → encloses f k a s ≡ true → (s ≡ a → P) → (first_let f c 17 a + lets_before f a c < first_let f c 17 s → P) → P
    above {P = P} zero a s h e y z = y (around-zero a s e)
    above {P = P} (suc k) a s h e y z =
        elim (ℕ_discrete s a) [
          | yes d ↦ y d
          | no d ↦ elim (ℕ_discrete (f s).kind 3) [
            | no b ↦ true-false (sym e ∙ around-none k a s d b)
            | yes b ↦ z (above {P = first_let f c 17 a + lets_before f a c < first_let f c 17 s} k a (f s).scope (omega (arith, (out s h b).low)) (sym (around-step k a s d b) ∙ e) (first b) (λ g. further b g))
          ]
        ]
      where
        is : (f s).kind ≡ 3 → first_let f c 17 s ≡ suc (first_let f c 17 (f s).scope + lets_before f (f s).scope c)
        is b = first-behind-sum s h b (flat s h)

        first : (f s).kind ≡ 3 → (f s).scope ≡ a → first_let f c 17 a + lets_before f a c < first_let f c 17 s
        first b d = omega (arith, is b, ap (λ (x : ℕ). first_let f c 17 x + lets_before f x c) d)

        further : (f s).kind ≡ 3 → first_let f c 17 a + lets_before f a c < first_let f c 17 (f s).scope → first_let f c 17 a + lets_before f a c < first_let f c 17 s
        further b g = omega (arith, is b)

    -- of two frames around a frame one is around the other
    linear : {P : Type 0} (k m a b s : ℕ) → s < c → encloses f k a s ≡ true → encloses f m b s ≡ true → ((i : ℕ) → encloses f i a b ≡ true → P) → ((i : ℕ) → encloses f i b a ≡ true → P) → P
    linear zero m a b s h p q y z = z m (subst (λ (x : ℕ). encloses f m b x ≡ true) (around-zero a s p) q)
    linear (suc k) zero a b s h p q y z = y (suc k) (subst (λ (x : ℕ). encloses f (suc k) a x ≡ true) (around-zero b s q) p)
    linear (suc k) (suc m) a b s h p q y z =
        elim (ℕ_discrete s a) [
          | yes d ↦ z (suc m) (subst (λ (x : ℕ). encloses f (suc m) b x ≡ true) d q)
          | no d ↦ elim (ℕ_discrete s b) [
            | yes e ↦ y (suc k) (subst (λ (x : ℕ). encloses f (suc k) a x ≡ true) e p)
            | no e ↦ elim (ℕ_discrete (f s).kind 3) [
              | no r ↦ true-false (sym p ∙ around-none k a s d r)
              | yes r ↦ linear k m a b (f s).scope (omega (arith, (out s h r).low)) (sym (around-step k a s d r) ∙ p) (sym (around-step m b s e r) ∙ q) y z
            ]
          ]
        ]

    -- the let at row i, whose frame is around frame s, has another word than block e around s
    pub words-apart : (i e s k m : ℕ) → i < c → e < c → s < c → (f i).kind ≡ 5 → (f e).kind ≡ 3 → encloses f k (f i).scope s ≡ true → encloses f m e s ≡ true
        → let_word f c i ≡ block_word f c e → ⊥
    unfolding let_word lets_before
    words-apart i e s k m h g l p q a b d =
        linear k m (f i).scope e s l a b (λ j x. above j (f i).scope e g x same before)
        (λ j x. above j e (f i).scope (omega (arith, at.low)) x (λ z. same (sym z)) behind)
      where
        at : At f c ok i (f i).scope
        at = scopes f c ok c (omega arith) i h (λ (z : (f i).kind ≡ 1). omega arith)

        fb : first_let f c 17 e ≡ suc (block_word f c e)
        fb = first-behind e g q (flat e g)

        less : count_below (is_in f 5 (f i).scope) i < count_below (is_in f 5 (f i).scope) c
        less = count_less (is_in f 5 (f i).scope) c i (is-let f i p) h

        same : e ≡ (f i).scope → ⊥
        same z = omega (arith, d, fb, ap (first_let f c 17) z)

        before : first_let f c 17 (f i).scope + count_below (is_in f 5 (f i).scope) c < first_let f c 17 e → ⊥
        before z = omega (arith, d, fb, less)

        behind : first_let f c 17 e + count_below (is_in f 5 e) c < first_let f c 17 (f i).scope → ⊥
        behind z = omega (arith, d, fb)

-- ---- well-formed tables

or_cases : {P : Type 0} (p q : Bool) → (p ≡ true → P) → (q ≡ true → P) → one_of p q ≡ true → P
or_cases true q a b e = a refl
or_cases false q a b e = b e

both-then : (p q : Bool) → p ≡ true → both p q ≡ false → q ≡ false
both-then true q e d = d
both-then false q e d = true-false (sym e)

own_block : (r : Row) → r.kind ≡ 3 → own_word r ≡ r.a + r.b
unfolding own_word
own_block r e = if_eq-yes (r.a + r.b) r.a e

own-other : (r : Row) → (r.kind ≡ 3 → ⊥) → own_word r ≡ r.a
unfolding own_word
own-other r q = if_eq-no (r.a + r.b) r.a q

has_word_lem : (k : ℕ) → 3 ≤ k → k < 7 → has_word k ≡ true
unfolding has_word
has_word_lem k g h = if_lt-no false (ltb k 7) g ∙ lt-ltb k 7 h

module _ (bits : Width) (t : Tables) (w : WellFormed (program_from bits t)) where
  -- blocks are at most 16 deep
  pub frame-shallow : (s : ℕ) → s < t.count → depth_of (rows t) 17 s ≤ 16
  unfolding shallow depth_of
  frame-shallow s h =
      elim (ℕ_discrete (rows t s).kind 3) [
        | yes q ↦ leb-true _ _ (given-then (eqb (rows t s).kind 3) (leb (depth_of (rows t) frame_depth s) block_depth) (shallow-at bits t w s h) (eq-eqb _ _ q))
        | no q ↦ none (if_eq-no (suc (depth_of (rows t) 16 (rows t s).scope)) 0 q)
      ]
    where
      none : depth_of (rows t) 17 s ≡ 0 → depth_of (rows t) 17 s ≤ 16
      none e = omega arith

  module _ (n : ℕ) (h : n < t.count) where
    frame_at : ((rows t n).kind ≡ 1 → ⊥) → At (rows t) t.count (ok bits t w) n (rows t n).scope
    frame_at q = scopes (rows t) t.count (ok bits t w) t.count (omega arith) n h q

    -- the first let of its frame lies behind the parameters of its function
    frame-low : ((rows t n).kind ≡ 1 → ⊥) → 3 + (rows t (rows t n).func).b ≤ first_let (rows t) t.count 17 (rows t n).scope
    frame-low q =
        let x : At (rows t) t.count (ok bits t w) n (rows t n).scope = frame_at q in
        let s : (rows t n).scope < t.count = omega (arith, x.low) in
        omega (arith, ap (λ (y : ℕ). (rows t y).b) x.same, first-low (rows t) t.count (ok bits t w) 16 (rows t n).scope s x.frame (frame-shallow (rows t n).scope s))

    -- the last word that a row names is in the frame
    pub own-low : 3 ≤ (rows t n).kind → (rows t n).kind < 7 → own_word (rows t n) < (rows t (rows t n).func).a
    unfolding word_fault
    own-low g l =
        omega (
          arith,
          size-here bits t w n h,
          leb-false (size_at (rows t) t.count n) (own_word (rows t n))
              (both-then (has_word (rows t n).kind) (leb (size_at (rows t) t.count n) (own_word (rows t n))) (has_word_lem (rows t n).kind g l) (word_sound bits t w n h)),
        )

    -- ---- lets

    pub let-is : (rows t n).kind ≡ 5 → (rows t n).a ≡ let_word (rows t) t.count n
    unfolding framed frame-tests
    let-is e = eqb-true _ _ (given-then (eqb (rows t n).kind 5) (eqb (rows t n).a (let_word (rows t) t.count n)) (all-at (frame-tests bits t w n h) 0 (framed_at bits t w n h) (omega arith)) (eq-eqb _ _ e))

    pub let-low : (rows t n).kind ≡ 5 → 3 + (rows t (rows t n).func).b ≤ (rows t n).a
    unfolding let_word
    let-low e = omega (arith, let-is e, frame-low (λ (d : (rows t n).kind ≡ 1). omega arith))

    pub let-within : (rows t n).kind ≡ 5 → (rows t n).a < (rows t (rows t n).func).a
    let-within e = omega (arith, let-size bits t w n h e, size-here bits t w n h)

    -- ---- blocks

    block-tests : Bool
    block-tests = both (eqb (rows t n).b (lets_before (rows t) n t.count)) (eqb (rows t n).callee (locals_at (rows t) n))

    block-good : (rows t n).kind ≡ 3 → both (eqb (rows t n).a (block_word (rows t) t.count n)) block-tests ≡ true
    unfolding framed frame-tests block-tests
    block-good e =
        given-then (eqb (rows t n).kind 3) (both (eqb (rows t n).a (block_word (rows t) t.count n)) block-tests)
        (all-at (frame-tests bits t w n h) 1 (framed_at bits t w n h) (omega arith)) (eq-eqb _ _ e)

    pub block-is : (rows t n).kind ≡ 3 → (rows t n).a ≡ block_word (rows t) t.count n
    block-is e = eqb-true _ _ (both_left (eqb (rows t n).a (block_word (rows t) t.count n)) block-tests (block-good e))

    pub block-low : (rows t n).kind ≡ 3 → 3 + (rows t (rows t n).func).b ≤ (rows t n).a
    unfolding block_word
    block-low e = omega (arith, block-is e, frame-low (λ (d : (rows t n).kind ≡ 1). omega arith))

    -- a block's word and those of its lets are in the frame
    pub block_within : (rows t n).kind ≡ 3 → (rows t n).a + (rows t n).b < (rows t (rows t n).func).a
    block_within e = omega (arith, own-low (omega arith) (omega arith), own_block (rows t n) e)

  -- ---- `end block`

  pub record EndBlock (n : ℕ) : Type 0 where
    pub before : (rows t n).scope < n
    pub is_block : (rows t (rows t n).scope).kind ≡ 3
    pub word : (rows t n).a ≡ (rows t (rows t n).scope).a

  pub end-facts : (n : ℕ) → n < t.count → (rows t n).kind ≡ 4 → EndBlock n
  unfolding framed frame-tests
  end-facts n h e =
      let k : (rows t (rows t n).scope).kind ≡ 3 = end-block (rows t) t.count (ok bits t w) n h e in
      let l : (rows t n).scope < n = (frame_at n h (λ (d : (rows t n).kind ≡ 1). omega arith)).low in
      record {
        before = l;
        is_block = k;
        word =
            eqb-true _ _
            (given-then (eqb (rows t n).kind 4) (eqb (rows t n).a (block_word (rows t) t.count (rows t n).scope)) (all-at (frame-tests bits t w n h) 2 (framed_at bits t w n h) (omega arith)) (eq-eqb _ _ e))
            ∙ sym (block-is (rows t n).scope (omega arith) k);
      }

  pub end_low : (n : ℕ) → n < t.count → (rows t n).kind ≡ 4 → 3 + (rows t (rows t n).func).b ≤ (rows t n).a
  end_low n h e =
      omega (
        arith,
        (end-facts n h e).word,
        ap (λ (x : ℕ). (rows t x).b) (frame_at n h (λ (d : (rows t n).kind ≡ 1). omega arith)).same,
        block-low (rows t n).scope (omega (arith, (end-facts n h e).before)) (end-facts n h e).is_block,
      )

  pub end-within : (n : ℕ) → n < t.count → (rows t n).kind ≡ 4 → (rows t n).a < (rows t (rows t n).func).a
  end-within n h e = omega (arith, own-low n h (omega arith) (omega arith), own-other (rows t n) (λ (d : (rows t n).kind ≡ 3). omega arith))

  -- ---- destinations

  -- v is no word of the frame's head, and not that of a block open at row n
  pub record Apart (n v : ℕ) : Type 0 where
    pub low : 3 ≤ v
    pub apart : (e : ℕ) → e < t.count → (rows t e).kind ≡ 3 → encloses (rows t) frame_depth e (rows t n).scope ≡ true → v ≡ (rows t e).a → ⊥

  module _ (n : ℕ) (h : n < t.count) (q : (rows t n).kind ≡ 1 → ⊥) where
    scope-low : (rows t n).scope < t.count
    scope-low = omega (arith, (frame_at n h q).low)

    -- the let at row i, whose frame is around row n
    let-apart : (i : ℕ) → i < t.count → (rows t i).kind ≡ 5 → encloses (rows t) frame_depth (rows t i).scope (rows t n).scope ≡ true → Apart n (rows t i).a
    let-apart i l k x =
        record {
          low = omega (arith, let-low i l k);
          apart = λ e g b y d. words-apart (rows t) t.count (ok bits t w) frame-shallow i e (rows t n).scope 17 17 l g scope-low k b x y (sym (let-is i l k) ∙ d ∙ block-is e g b);
        }

    parameter-apart : (v : ℕ) → is_parameter (rows t (rows t n).func).b v ≡ true → Apart n v
    unfolding is_parameter
    parameter-apart v p =
        let a : 3 ≤ v = leb-true frame_head v (both_left (leb frame_head v) (ltb (v - frame_head) (rows t (rows t n).func).b) p) in
        let b : v - 3 < (rows t (rows t n).func).b = ltb-true (v - frame_head) (rows t (rows t n).func).b (both_right (leb frame_head v) (ltb (v - frame_head) (rows t (rows t n).func).b) p) in
        record { low = a; apart = λ e g k y d. far a b e g k y d }
      where
        far : 3 ≤ v → v - 3 < (rows t (rows t n).func).b → (e : ℕ) → e < t.count → (rows t e).kind ≡ 3 → encloses (rows t) 17 e (rows t n).scope ≡ true → v ≡ (rows t e).a → ⊥
        far a b e g k y d =
            omega (arith, block-low e g k, ap (λ (x : ℕ). (rows t x).b) (around-func (rows t) t.count (ok bits t w) 17 e (rows t n).scope scope-low y ∙ (frame_at n h q).same))

    -- a word in scope
    pub scope-apart : (v : ℕ) → in_scope (rows t) n v ≡ true → Apart n v
    unfolding in_scope seen_at let_seen
    scope-apart v e =
        or_cases (is_parameter (rows t (rows t n).func).b v) (some_below (λ i. both (both (eqb (rows t i).kind 5) (encloses (rows t) 17 (rows t i).scope (rows t n).scope)) (eqb (rows t i).a v)) n)
        (parameter-apart v)
        (λ d. seen (some-found (λ i. both (both (eqb (rows t i).kind 5) (encloses (rows t) 17 (rows t i).scope (rows t n).scope)) (eqb (rows t i).a v)) n d))
        e
      where
        seen : Found (λ i. both (both (eqb (rows t i).kind 5) (encloses (rows t) 17 (rows t i).scope (rows t n).scope)) (eqb (rows t i).a v)) n → Apart n v
        seen x =
            let a : (rows t x.i).a ≡ v = eqb-true _ _ (both_right (both (eqb (rows t x.i).kind 5) (encloses (rows t) 17 (rows t x.i).scope (rows t n).scope)) (eqb (rows t x.i).a v) x.passes) in
            let b : both (eqb (rows t x.i).kind 5) (encloses (rows t) 17 (rows t x.i).scope (rows t n).scope) ≡ true = both_left (both (eqb (rows t x.i).kind 5) (encloses (rows t) 17 (rows t x.i).scope (rows t n).scope)) (eqb (rows t x.i).a v) x.passes in
            subst (Apart n) a
            (let-apart x.i (omega (arith, x.below)) (eqb-true _ _ (both_left (eqb (rows t x.i).kind 5) (encloses (rows t) 17 (rows t x.i).scope (rows t n).scope) b))
            (both_right (eqb (rows t x.i).kind 5) (encloses (rows t) 17 (rows t x.i).scope (rows t n).scope) b))

  -- the destination of a `let`
  pub let-destination : (n : ℕ) → n < t.count → (rows t n).kind ≡ 5 → Apart n (rows t n).a
  let-destination n h e = let-apart n h (λ (d : (rows t n).kind ≡ 1). omega arith) n h e (around-self (rows t) t.count (ok bits t w) 17 (rows t n).scope)

  -- that of a `set`
  pub set-destination : (n : ℕ) → n < t.count → (rows t n).kind ≡ 6 → Apart n (rows t n).a
  unfolding sets_local
  set-destination n h e =
      scope-apart n h (λ (d : (rows t n).kind ≡ 1). omega arith) (rows t n).a
      (given-then (eqb (rows t n).kind 6) (in_scope (rows t) n (rows t n).a) (sets-at bits t w n h) (eq-eqb (rows t n).kind 6 e))

  -- the destination of a row that has one
  pub destination-apart : (n : ℕ) → n < t.count → 5 ≤ (rows t n).kind → (rows t n).kind ≤ 6 → Apart n (rows t n).a
  destination-apart n h a b =
      elim (ℕ_discrete (rows t n).kind 5) [ yes e ↦ let-destination n h e | no e ↦ set-destination n h (omega arith) ]

  pub set-within : (n : ℕ) → n < t.count → (rows t n).kind ≡ 6 → (rows t n).a < (rows t (rows t n).func).a
  set-within n h e = omega (arith, own-low n h (omega arith) (omega arith), own-other (rows t n) (λ (d : (rows t n).kind ≡ 3). omega arith))
