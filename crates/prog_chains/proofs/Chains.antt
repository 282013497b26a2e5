-- Chains of frames: where the rows before row n have the words that frames give them, the counts of lets before it tell what is in scope there.
-- Assumes nothing.
use mathlib.Core.Path.{◌≡◌, refl, sym, ◌∙◌, ap}
use mathlib.Core.Bool.{Bool, true, false}
use mathlib.Core.List.{List}
use Prim.Native.Nat.{ℕ, zero, suc, ◌+◌, ◌-◌, ◌<◌, ◌≤◌}
use native.Mathlib.Numerals.{add-one}
use native.Mathlib.Decide.{ℕ_discrete}
use native.Mathlib.Omega.{arith}
use borrow.Author.Tests.{eqb-true, eq-eqb, ne_eqb, leb-true}
use lib.Dec.{eqb, ltb, leb}
use lib.ListN.{length, get_or, set, length-set, length-replicate, get_or-replicate}
use lib.Seq.{get_or-set_same, get_or-set_other}
use Rattle.base_prelude.specs.Choice.{pick, if_eq, if_true}
use Rattle.base_prelude.proofs.Choice.{true-false, either-eq, if_eq-yes, if_eq-no}
use Rattle.base_prelude.specs.Lists.{zeros}
use Rattle.base_limits.specs.Limits.{block_depth}
use Rattle.lang_kinds.specs.Nesting.{is_frame}
use Rattle.prog_tables.specs.Layout.{frame_head}
use Rattle.prog_tables.specs.Tests.{both, one_of, some_below, count_below}
use Rattle.prog_tables.specs.Statement.{Row}
use Rattle.prog_tables.specs.Nesting.{open_before, scope_in, stands, depth_of, encloses}
use Rattle.prog_tables.specs.Frames.{frame_depth, is_in, lets_before, first_let, block_word, let_word, let_seen, is_parameter, seen_at, in_scope, locals_at}
use Rattle.prog_tables.specs.WellFormed.{shallow}
use Rattle.prog_tables.proofs.Each.{both_left, both_right, both_true, both_false, given-then}
use Rattle.prog_tables.proofs.Nested.{here}
use Rattle.prog_tables.proofs.Words.{scopes, first-stable}
use Rattle.prog_chains.specs.Counted.{noted, let_counts, first_word, next_word, holds, chain_holds, chain_lets, scope_holds, scope_size}
use Rattle.prog_chains.proofs.Numbers.{eqb-flip, some_same, some-none, some_or, count_same, count_none, count-or, numbered}

-- blocks are at most 16 deep
pub depth_low : (f : ℕ → Row) (s : ℕ) → shallow f s ≡ true → depth_of f 17 s ≤ 16
unfolding shallow depth_of
depth_low f s h =
    elim (ℕ_discrete (f s).kind 3) [
      | yes q ↦ leb-true _ _ (given-then (eqb (f s).kind 3) (leb (depth_of f frame_depth s) block_depth) h (eq-eqb _ _ q))
      | no q ↦ none (if_eq-no (suc (depth_of f 16 (f s).scope)) 0 q)
    ]
  where
    none : depth_of f 17 s ≡ 0 → depth_of f 17 s ≤ 16
    none e = omega arith

depth-block : (f : ℕ → Row) (s : ℕ) → (f s).kind ≡ 3 → depth_of f 17 s ≡ suc (depth_of f 16 (f s).scope)
unfolding depth_of
depth-block f s e = if_eq-yes (suc (depth_of f 16 (f s).scope)) 0 e

own-word : (f : ℕ → Row) (c s i : ℕ) → (f i).scope ≡ s → let_word f c i ≡ first_let f c 17 s + count_below (is_in f 5 s) i
unfolding let_word lets_before
own-word f c s i e = ap (λ (y : ℕ). first_let f c 17 y + count_below (is_in f 5 y) i) e

-- ---- tests on one row

spread : (a b c : Bool) → both a (one_of b c) ≡ one_of (both a b) (both a c)
spread false b c = refl
spread true b c = refl

-- the frames around a frame: itself, and those around the frame outside
around-is : (f : ℕ → Row) (k e s : ℕ) → encloses f (suc k) e s ≡ one_of (eqb e s) (if_eq (f s).kind 3 (encloses f k e (f s).scope) false)
unfolding encloses if_eq
around-is f k e s = ap (λ (b : Bool). one_of b (pick (eqb (f s).kind 3) (encloses f k e (f s).scope) false)) (eqb-flip s e)

around-none : (f : ℕ → Row) (e s : ℕ) → encloses f zero e s ≡ eqb e s
unfolding encloses
around-none f e s = eqb-flip s e

-- the let at row i, in frame s or one around it
seen_in : (ℕ → Row) → ℕ → ℕ → ℕ → Bool
seen_in f k s i = both (eqb (f i).kind 5) (encloses f k (f i).scope s)

-- the same further out
seen_out : (ℕ → Row) → ℕ → ℕ → ℕ → Bool
seen_out f k s i = both (eqb (f i).kind 5) (if_eq (f s).kind 3 (encloses f k (f i).scope (f s).scope) false)

seen-zero : (f : ℕ → Row) (s i : ℕ) → seen_in f zero s i ≡ is_in f 5 s i
unfolding seen_in is_in
seen-zero f s i = ap (λ (b : Bool). both (eqb (f i).kind 5) b) (around-none f (f i).scope s)

seen-suc : (f : ℕ → Row) (k s i : ℕ) → seen_in f (suc k) s i ≡ one_of (is_in f 5 s i) (seen_out f k s i)
unfolding seen_in seen_out is_in
seen-suc f k s i =
    ap (λ (b : Bool). both (eqb (f i).kind 5) b) (around-is f k (f i).scope s)
    ∙ spread (eqb (f i).kind 5) (eqb (f i).scope s) (if_eq (f s).kind 3 (encloses f k (f i).scope (f s).scope) false)

out-block : (f : ℕ → Row) (k s i : ℕ) → (f s).kind ≡ 3 → seen_out f k s i ≡ seen_in f k (f s).scope i
unfolding seen_in seen_out
out-block f k s i e = ap (λ (b : Bool). both (eqb (f i).kind 5) b) (if_eq-yes (encloses f k (f i).scope (f s).scope) false e)

out_none : (f : ℕ → Row) (k s i : ℕ) → ((f s).kind ≡ 3 → ⊥) → seen_out f k s i ≡ false
unfolding seen_out
out_none f k s i e = ap (λ (b : Bool). both (eqb (f i).kind 5) b) (if_eq-no (encloses f k (f i).scope (f s).scope) false e) ∙ both_false (eqb (f i).kind 5)

parted : (a b d : Bool) → both (one_of a b) d ≡ one_of (both a d) (both b d)
parted true true true = refl
parted true true false = refl
parted true false true = refl
parted true false false = refl
parted false b d = refl

let-kind : (f : ℕ → Row) (s i : ℕ) → is_in f 5 s i ≡ true → (f i).kind ≡ 5
unfolding is_in
let-kind f s i e = eqb-true _ _ (both_left (eqb (f i).kind 5) (eqb (f i).scope s) e)

let-scope : (f : ℕ → Row) (s i : ℕ) → is_in f 5 s i ≡ true → (f i).scope ≡ s
unfolding is_in
let-scope f s i e = eqb-true _ _ (both_right (eqb (f i).kind 5) (eqb (f i).scope s) e)

-- ---- counts

-- x holds at each frame's row number the lets of that frame before row n
pub record Counts (f : ℕ → Row) (c n : ℕ) (x : List ℕ) : Type 0 where
  pub long : length x ≡ 1024
  pub each : (s : ℕ) → s < c → get_or x s 0 ≡ lets_before f s n

module _ (f : ℕ → Row) (c : ℕ) (ok : (n : ℕ) → n < c → stands f n ≡ true) where
  -- ---- the frame of a row

  -- a row's frame is a row before it, or the row itself where that is a function
  pub record Framed (n : ℕ) : Type 0 where
    pub low : (f n).scope < c
    pub block : (f (f n).scope).kind ≡ 3 → (f n).scope < n

  own-scope : (n : ℕ) → n < c → (f n).kind ≡ 1 → (f n).scope ≡ n
  unfolding scope_in
  own-scope n h e =
      (here f c ok n h).scope-is
      ∙ if_eq-yes n (if_true (is_frame (f (open_before f n - 1)).kind) (open_before f n - 1) (f (open_before f n - 1)).scope) e

  pub frame-of : (n : ℕ) → n < c → Framed n
  frame-of n h =
      elim (ℕ_discrete (f n).kind 1) [
        | yes e ↦ own e (own-scope n h e)
        | no e ↦ outer (scopes f c ok c (omega arith) n h e).low
      ]
    where
      own : (f n).kind ≡ 1 → (f n).scope ≡ n → Framed n
      own e q = record { low = omega arith; block = λ d. absurd (omega (arith, ap (λ (x : ℕ). (f x).kind) q)) }

      outer : (f n).scope < n → Framed n
      outer l = record { low = omega arith; block = λ d. l }

  out-low : (s : ℕ) → s < c → (f s).kind ≡ 3 → (f s).scope < s
  out-low s h e = (scopes f c ok c (omega arith) s h (λ (d : (f s).kind ≡ 1). omega arith)).low

  -- ---- one more row is counted

  counts-let : (n : ℕ) (x : List ℕ) → Counts f c n x → n < c → c ≤ 1024 → (f n).kind ≡ 5
      → Counts f c (suc n) (set x (f n).scope (get_or x (f n).scope 0 + 1))
  unfolding lets_before count_below is_in
  counts-let n x h l g e =
      record {
        long = length-set x (f n).scope (get_or x (f n).scope 0 + 1) ∙ h.long;
        each = λ s q. elim (ℕ_discrete s (f n).scope) [
          | yes d ↦ ap (λ (y : ℕ). get_or (set x (f n).scope (get_or x (f n).scope 0 + 1)) y 0) d
              ∙ get_or-set_same x (f n).scope (get_or x (f n).scope 0 + 1) 0 (omega (arith, (frame-of n l).low, h.long))
              ∙ add-one (get_or x (f n).scope 0)
              ∙ ap suc (h.each (f n).scope (frame-of n l).low)
              ∙ ap (λ (y : ℕ). suc (count_below (is_in f 5 y) n)) (sym d)
              ∙ ap (λ (b : Bool). pick b (suc (count_below (is_in f 5 s) n)) (count_below (is_in f 5 s) n))
              (sym (both_true (eqb (f n).kind 5) (eqb (f n).scope s) (eq-eqb _ _ e) (eq-eqb (f n).scope s (sym d))))
          | no d ↦ get_or-set_other x (f n).scope s (get_or x (f n).scope 0 + 1) 0 d ∙ h.each s q
              ∙ ap (λ (b : Bool). pick b (suc (count_below (is_in f 5 s) n)) (count_below (is_in f 5 s) n)) (sym (other s d))
        ];
      }
    where
      other : (s : ℕ) → (s ≡ (f n).scope → ⊥) → is_in f 5 s n ≡ false
      other s d = ap (λ (b : Bool). both (eqb (f n).kind 5) b) (ne_eqb (f n).scope s (λ q. d (sym q))) ∙ both_false (eqb (f n).kind 5)

  counts-other : (n : ℕ) (x : List ℕ) → Counts f c n x → ((f n).kind ≡ 5 → ⊥) → Counts f c (suc n) x
  unfolding lets_before count_below is_in
  counts-other n x h e =
      record {
        long = h.long;
        each = λ s q. h.each s q ∙ ap (λ (b : Bool). pick b (suc (count_below (is_in f 5 s) n)) (count_below (is_in f 5 s) n))
            (sym (ap (λ (b : Bool). both b (eqb (f n).scope s)) (ne_eqb (f n).kind 5 e)));
      }

  pub counts-more : (n : ℕ) (x : List ℕ) → Counts f c n x → n < c → c ≤ 1024 → Counts f c (suc n) (noted f n x)
  unfolding noted
  counts-more n x h l g =
      either-eq (Counts f c (suc n)) (f n).kind 5 (set x (f n).scope (get_or x (f n).scope 0 + 1)) x (counts-let n x h l g) (counts-other n x h)

  counts-none : c ≤ 1024 → Counts f c 0 (zeros 1024)
  unfolding lets_before count_below
  counts-none g = record { long = length-replicate {A = ℕ} 1024 0; each = λ s q. get_or-replicate 1024 s 0 0 (omega arith) }

  pub counts-are : (n : ℕ) → n ≤ c → c ≤ 1024 → Counts f c n (let_counts f n)
  unfolding let_counts
  counts-are zero h g = counts-none g
  counts-are (suc n) h g = counts-more n (let_counts f n) (counts-are n (omega arith) g) h g

  -- ---- chains, where the rows before n have their words

  module _ (flat : (s : ℕ) → s < c → depth_of f 17 s ≤ 16)
      (n : ℕ)
      (blocks : (i : ℕ) → i < n → (f i).kind ≡ 3 → (f i).a ≡ block_word f c i)
      (lets : (i : ℕ) → i < n → (f i).kind ≡ 5 → (f i).a ≡ let_word f c i)
      (within : n ≤ c)
      (x : List ℕ)
      (counts : Counts f c n x) where
    -- a frame's first let
    pub first-is : (s : ℕ) → s < c → ((f s).kind ≡ 3 → s < n) → first_word f s ≡ first_let f c 17 s
    unfolding first_word first_let block_word
    first-is s h g =
        elim (ℕ_discrete (f s).kind 3) [
          | yes e ↦ if_eq-yes ((f s).a + 1) (frame_head + (f s).b) e
              ∙ add-one (f s).a
              ∙ ap suc (blocks s (g e) e ∙ ap (λ (y : ℕ). y + lets_before f (f s).scope c) (sym (first-stable f c ok 15 (f s).scope (omega (arith, out-low s h e)) (omega (arith, flat s h, depth-block f s e)))))
              ∙ sym (if_eq-yes (suc (first_let f c 16 (f s).scope + lets_before f (f s).scope c)) (frame_head + (f s).b) e)
          | no e ↦ if_eq-no ((f s).a + 1) (frame_head + (f s).b) e ∙ sym (if_eq-no (suc (first_let f c 16 (f s).scope + lets_before f (f s).scope c)) (frame_head + (f s).b) e)
        ]

    -- the lets of frame s before n have the words from its first on, in source order
    own-lets : (s w : ℕ) → s < c → ((f s).kind ≡ 3 → s < n) → holds f x w s ≡ some_below (λ i. both (is_in f 5 s i) (eqb (f i).a w)) n
    unfolding holds next_word lets_before
    own-lets s w h g =
        ap (λ (y : ℕ). both (leb y w) (ltb w (y + get_or x s 0))) (first-is s h g)
        ∙ ap (λ (y : ℕ). both (leb (first_let f c 17 s) w) (ltb w (first_let f c 17 s + y))) (counts.each s h)
        ∙ sym (numbered (is_in f 5 s) (λ i. (f i).a) (first_let f c 17 s) w n own)
      where
        own : (i : ℕ) → i < n → is_in f 5 s i ≡ true → (f i).a ≡ first_let f c 17 s + count_below (is_in f 5 s) i
        own i l e = lets i l (let-kind f s i e) ∙ own-word f c s i (let-scope f s i e)

    -- the frames further out
    out-holds : (w k s : ℕ) → ((f s).kind ≡ 3 → chain_holds f x w k (f s).scope ≡ some_below (λ i. both (seen_in f k (f s).scope i) (eqb (f i).a w)) n)
        → if_eq (f s).kind 3 (chain_holds f x w k (f s).scope) false ≡ some_below (λ i. both (seen_out f k s i) (eqb (f i).a w)) n
    out-holds w k s on =
        elim (ℕ_discrete (f s).kind 3) [
          | yes e ↦ if_eq-yes (chain_holds f x w k (f s).scope) false e
              ∙ on e
              ∙ some_same (λ i. both (seen_in f k (f s).scope i) (eqb (f i).a w)) (λ i. both (seen_out f k s i) (eqb (f i).a w)) n
              (λ i l. ap (λ (b : Bool). both b (eqb (f i).a w)) (sym (out-block f k s i e)))
          | no e ↦ if_eq-no (chain_holds f x w k (f s).scope) false e
              ∙ sym (some-none n)
              ∙ some_same (λ i. false) (λ i. both (seen_out f k s i) (eqb (f i).a w)) n
              (λ i l. ap (λ (b : Bool). both b (eqb (f i).a w)) (sym (out_none f k s i e)))
        ]

    chain-holds : (w k s : ℕ) → s < c → ((f s).kind ≡ 3 → s < n) → chain_holds f x w k s ≡ some_below (λ i. both (seen_in f k s i) (eqb (f i).a w)) n
    unfolding chain_holds
    chain-holds w zero s h g =
        own-lets s w h g
        ∙ some_same (λ i. both (is_in f 5 s i) (eqb (f i).a w)) (λ i. both (seen_in f zero s i) (eqb (f i).a w)) n
        (λ i l. ap (λ (b : Bool). both b (eqb (f i).a w)) (sym (seen-zero f s i)))
    chain-holds w (suc k) s h g =
        ap (λ (b : Bool). one_of b (if_eq (f s).kind 3 (chain_holds f x w k (f s).scope) false)) (own-lets s w h g)
        ∙ ap (λ (b : Bool). one_of (some_below (λ i. both (is_in f 5 s i) (eqb (f i).a w)) n) b)
        (out-holds w k s (λ e. chain-holds w k (f s).scope (omega (arith, out-low s h e)) (λ d. omega (arith, g e, out-low s h e))))
        ∙ sym (some_or (λ i. both (is_in f 5 s i) (eqb (f i).a w)) (λ i. both (seen_out f k s i) (eqb (f i).a w)) n)
        ∙ some_same (λ i. one_of (both (is_in f 5 s i) (eqb (f i).a w)) (both (seen_out f k s i) (eqb (f i).a w))) (λ i. both (seen_in f (suc k) s i) (eqb (f i).a w)) n
        (λ i l. sym (ap (λ (b : Bool). both b (eqb (f i).a w)) (seen-suc f k s i) ∙ parted (is_in f 5 s i) (seen_out f k s i) (eqb (f i).a w)))

    -- ---- how many are in scope

    -- a frame around another is not behind it
    around-low : (k e s : ℕ) → s < c → encloses f k e s ≡ true → e ≤ s
    around-low zero e s h q = let d : e ≡ s = eqb-true e s (sym (around-none f e s) ∙ q) in omega arith
    around-low (suc k) e s h q =
        elim (ℕ_discrete e s) [
          | yes d ↦ omega arith
          | no d ↦ further d (ℕ_discrete (f s).kind 3) (λ b. around-low k e (f s).scope (omega (arith, out-low s h b))) (sym (around-is f k e s) ∙ q)
        ]
      where
        further : (e ≡ s → ⊥) → Dec ((f s).kind ≡ 3) → ((f s).kind ≡ 3 → encloses f k e (f s).scope ≡ true → e ≤ (f s).scope)
            → one_of (eqb e s) (if_eq (f s).kind 3 (encloses f k e (f s).scope) false) ≡ true → e ≤ s
        further d (yes b) on p =
            omega (
              arith,
              out-low s h b,
              on b (sym (if_eq-yes (encloses f k e (f s).scope) false b) ∙ sym (ap (λ (y : Bool). one_of y (if_eq (f s).kind 3 (encloses f k e (f s).scope) false)) (ne_eqb e s d)) ∙ p),
            )
        further d (no b) on p =
            true-false (sym p ∙ ap (λ (y : Bool). one_of y (if_eq (f s).kind 3 (encloses f k e (f s).scope) false)) (ne_eqb e s d) ∙ if_eq-no (encloses f k e (f s).scope) false b)

    own-count : (s : ℕ) → s < c → get_or x s 0 ≡ count_below (is_in f 5 s) n
    unfolding lets_before
    own-count s h = counts.each s h

    out-lets : (k s : ℕ) → ((f s).kind ≡ 3 → chain_lets f x k (f s).scope ≡ count_below (seen_in f k (f s).scope) n)
        → if_eq (f s).kind 3 (chain_lets f x k (f s).scope) 0 ≡ count_below (seen_out f k s) n
    out-lets k s on =
        elim (ℕ_discrete (f s).kind 3) [
          | yes e ↦ if_eq-yes (chain_lets f x k (f s).scope) 0 e
              ∙ on e
              ∙ count_same (seen_in f k (f s).scope) (seen_out f k s) n (λ i l. sym (out-block f k s i e))
          | no e ↦ if_eq-no (chain_lets f x k (f s).scope) 0 e
              ∙ sym (count_none n)
              ∙ count_same (λ i. false) (seen_out f k s) n (λ i l. sym (out_none f k s i e))
        ]

    -- no let is both of a frame and of one further out
    apart : (k s i : ℕ) → s < c → is_in f 5 s i ≡ true → seen_out f k s i ≡ true → ⊥
    unfolding seen_in
    apart k s i h a b =
        elim (ℕ_discrete (f s).kind 3) [
          | no e ↦ true-false (sym b ∙ out_none f k s i e)
          | yes e ↦ omega (
            arith,
            let-scope f s i a,
            out-low s h e,
            around-low k (f i).scope (f s).scope (omega (arith, out-low s h e))
                (both_right (eqb (f i).kind 5) (encloses f k (f i).scope (f s).scope) (sym (out-block f k s i e) ∙ b)),
          )
        ]

    chain-lets : (k s : ℕ) → s < c → chain_lets f x k s ≡ count_below (seen_in f k s) n
    unfolding chain_lets
    chain-lets zero s h = own-count s h ∙ count_same (is_in f 5 s) (seen_in f zero s) n (λ i l. sym (seen-zero f s i))
    chain-lets (suc k) s h =
        ap (λ (y : ℕ). y + if_eq (f s).kind 3 (chain_lets f x k (f s).scope) 0) (own-count s h)
        ∙ ap (λ (y : ℕ). count_below (is_in f 5 s) n + y) (out-lets k s (λ e. chain-lets k (f s).scope (omega (arith, out-low s h e))))
        ∙ sym (count-or (is_in f 5 s) (seen_out f k s) n (λ i l a b. apart k s i h a b))
        ∙ count_same (λ i. one_of (is_in f 5 s i) (seen_out f k s i)) (seen_in f (suc k) s) n (λ i l. sym (seen-suc f k s i))

    -- ---- what is in scope at row n

    module _ (low : n < c) where
      pub scope-is : (w : ℕ) → scope_holds f x n w ≡ in_scope f n w
      unfolding scope_holds in_scope seen_at let_seen seen_in
      scope-is w =
          ap (λ (b : Bool). one_of (is_parameter (f (f n).func).b w) b) (chain-holds w 17 (f n).scope (frame-of n low).low (frame-of n low).block)

      pub size_is : scope_size f x n ≡ locals_at f n
      unfolding scope_size locals_at let_seen seen_in
      size_is = ap (λ (y : ℕ). (f (f n).func).b + y) (chain-lets 17 (f n).scope (frame-of n low).low)

      -- the next let's word
      pub let-next : next_word f x (f n).scope ≡ let_word f c n
      unfolding next_word let_word
      let-next =
          ap (λ (y : ℕ). y + get_or x (f n).scope 0) (first-is (f n).scope (frame-of n low).low (frame-of n low).block)
          ∙ ap (λ (y : ℕ). first_let f c 17 (f n).scope + y) (counts.each (f n).scope (frame-of n low).low)

      -- a block's word, y holding all lets
      pub block-next : (y : List ℕ) → Counts f c c y → next_word f y (f n).scope ≡ block_word f c n
      unfolding next_word block_word
      block-next y whole =
          ap (λ (z : ℕ). z + get_or y (f n).scope 0) (first-is (f n).scope (frame-of n low).low (frame-of n low).block)
          ∙ ap (λ (z : ℕ). first_let f c 17 (f n).scope + z) (whole.each (f n).scope (frame-of n low).low)
