-- Frames around rows that stand: the frame of what is open, before and behind each row.
-- Assumes nothing.
use mathlib.Core.Path.{◌≡◌, refl, sym, ◌∙◌, ap, subst}
use mathlib.Core.Bool.{Bool, true, false, not}
use mathlib.Core.List.{List, [], ◌∷◌}
use Prim.Native.Nat.{ℕ, zero, suc, ◌-◌, ◌≤◌, ◌<◌}
use native.Mathlib.Nat.{not-suc-le-zero}
use native.Mathlib.Decide.{ℕ_discrete, dec_lt}
use native.Mathlib.Omega.{arith}
use borrow.Author.Tests.{eqb-true, eq-eqb, ne_eqb, leb-true, ltb-true, le-leb}
use lib.Dec.{eqb, ltb, leb}
use lib.ListN.{get_or}
use Rattle.base_prelude.specs.Choice.{if_lt, if_eq, if_true}
use Rattle.base_prelude.proofs.Choice.{either_true, either-eq, if_true-yes, if_true-no, if_eq-yes, if_eq-no}
use Rattle.lang_kinds.specs.Nesting.{statement_in, stands_in, enters, leaves, ground_of, is_frame}
use Rattle.prog_tables.specs.Tests.{both, given, all, all_below}
use Rattle.prog_tables.specs.Statement.{Row}
use Rattle.prog_tables.specs.Nesting.{behind, open_before, scope_in, up_in, is_listed, stands}
use Rattle.prog_tables.proofs.Each.{both_true, given-then, all-at, below_at}
use Rattle.prog_tables.proofs.Nested.{here, ground-some, ground-low, ground-high, open-some, small, func-open, kind-not}
use Rattle.thm_outline.proofs.Standing.{leaver-some}

-- the frame in which a row stands, where what has the number o is open
abbrev pub frame_in : (ℕ → Row) → ℕ → ℕ
frame_in f o = if_true (is_frame (f (o - 1)).kind) (o - 1) (f (o - 1)).scope

-- ---- kinds

abbrev frame_facts : ℕ → List Bool
frame_facts k =
    given (both (leaves k) (both (not (eqb k 2)) (not (eqb k 4)))) (leb 6 (stands_in k).start)
    ∷ given (leb 6 (ground_of k)) (leb 14 k)
    ∷ given (eqb (ground_of k) 4) (eqb k 1)
    ∷ given (eqb (ground_of k) 5) (eqb k 3)
    ∷ []

frames-table : all_below (λ k. given (is_listed k) (all (frame_facts k))) 23 ≡ true
unfolding all_below all is_listed stands_in statement_in enters leaves ground_of if_eq if_lt if_true
frames-table = refl

listed-low : (k : ℕ) → is_listed k ≡ true → k < 23
unfolding is_listed
listed-low k h = either-eq (λ (b : Bool). b ≡ true → k < 23) k 0 false (ltb k 23) (λ e q. omega arith) (λ e q. ltb-true k 23 q) h

-- ends of functions and blocks
abbrev Ends : ℕ → ℕ → Type 0
Ends k g = (leaves k ≡ true) × (enters k ≡ false) × ((stands_in k).start ≡ g) × ((stands_in k).end ≡ suc g)

two_ends : Ends 2 4
unfolding stands_in statement_in enters leaves if_eq if_lt
two_ends = (refl, refl, refl, refl)

four-ends : Ends 4 5
unfolding stands_in statement_in enters leaves if_eq if_lt
four-ends = (refl, refl, refl, refl)

one-opens : (enters 1 ≡ true) × (leaves 1 ≡ false)
unfolding enters leaves if_eq if_lt
one-opens = (refl, refl)

three-opens : (enters 3 ≡ true) × (leaves 3 ≡ false)
unfolding enters leaves if_eq if_lt
three-opens = (refl, refl)

frame-one : (k : ℕ) → k ≡ 1 → is_frame k ≡ true
unfolding is_frame
frame-one k e = if_eq-yes _ _ e

frame-three : (k : ℕ) → k ≡ 3 → is_frame k ≡ true
unfolding is_frame
frame-three k e = if_eq-no _ _ (λ q. omega arith) ∙ if_eq-yes _ _ e

frame-no : (k : ℕ) → (k ≡ 1 → ⊥) → (k ≡ 3 → ⊥) → is_frame k ≡ false
unfolding is_frame
frame-no k a b = if_eq-no _ _ a ∙ if_eq-no _ _ b

not-ne : (a b : ℕ) → (a ≡ b → ⊥) → not (eqb a b) ≡ true
not-ne a b h = ap not (ne_eqb a b h)

module _ (f : ℕ → Row) (c : ℕ) (ok : (n : ℕ) → n < c → stands f n ≡ true) where
  frame-fact : (n j : ℕ) → n < c → j < 4 → get_or (frame_facts (f n).kind) j true ≡ true
  frame-fact n j h l =
      let k : is_listed (f n).kind ≡ true = (here f c ok n h).listed in
      all-at (frame_facts (f n).kind) j
      (given-then (is_listed (f n).kind) (all (frame_facts (f n).kind)) (below_at (λ k. given (is_listed k) (all (frame_facts k))) 23 (f n).kind frames-table (listed-low (f n).kind k)) k) l

  pub open-low : (j : ℕ) → j ≤ c → open_before f j ≤ j
  open-low j h = (small f c ok j h).open-low

  pub up-low : (j : ℕ) → j < c → (f j).up ≤ j
  up-low j h = (small f c ok c (omega arith)).ups j h

  -- ---- the frame of a row

  pub scope-own : (j : ℕ) → j < c → (f j).kind ≡ 1 → (f j).scope ≡ j
  unfolding scope_in
  scope-own j h q = (here f c ok j h).scope-is ∙ if_eq-yes j _ q

  pub scope-open : (j : ℕ) → j < c → ((f j).kind ≡ 1 → ⊥) → (f j).scope ≡ frame_in f (open_before f j)
  unfolding scope_in
  scope-open j h q = (here f c ok j h).scope-is ∙ if_eq-no j _ q

  scopes-low : (j : ℕ) → j ≤ c → (i : ℕ) → i < j → (f i).scope ≤ i
  scopes-low zero h i l = absurd (not-suc-le-zero l)
  scopes-low (suc j) h i l =
      elim (ℕ_discrete i j) [
        | no e ↦ scopes-low j (omega arith) i (omega arith)
        | yes e ↦ subst (λ (x : ℕ). (f x).scope ≤ x) (sym e)
            (elim (ℕ_discrete (f j).kind 1) [
              | yes q ↦ omega (arith, scope-own j h q)
              | no q ↦
                  let s : 1 ≤ open_before f j = open-some f c ok j h q in
                  let o : open_before f j ≤ j = open-low j (omega arith) in
                  subst (λ (x : ℕ). x ≤ j) (sym (scope-open j h q))
                  (either_true (λ (x : ℕ). x ≤ j) (is_frame (f (open_before f j - 1)).kind) (open_before f j - 1) (f (open_before f j - 1)).scope (λ _. omega arith)
                  (λ _. omega (arith, scopes-low j (omega arith) (open_before f j - 1) (omega arith))))
            ])
      ]

  pub scope-low : (i : ℕ) → i < c → (f i).scope ≤ i
  scope-low i h = scopes-low c (omega arith) i h

  pub frame-low : (o : ℕ) → 1 ≤ o → o ≤ c → frame_in f o < o
  frame-low o l h =
      either_true (λ (x : ℕ). x < o) (is_frame (f (o - 1)).kind) (o - 1) (f (o - 1)).scope (λ _. omega arith) (λ _. omega (arith, scope-low (o - 1) (omega arith)))

  -- ---- what stands around a row

  up-stays : (p : ℕ) → p < c → leaves (f p).kind ≡ false → (f p).up ≡ open_before f p
  unfolding up_in
  up-stays p h e = (here f c ok p h).up_is ∙ if_true-no (f (open_before f p - 1)).up (open_before f p) e

  up-leaves : (p : ℕ) → p < c → leaves (f p).kind ≡ true → (f p).up ≡ (f (open_before f p - 1)).up
  unfolding up_in
  up-leaves p h e = (here f c ok p h).up_is ∙ if_true-yes (f (open_before f p - 1)).up (open_before f p) e

  -- an arm: no frame
  arm-high : (p : ℕ) → p < c → leaves (f p).kind ≡ true → ((f p).kind ≡ 2 → ⊥) → ((f p).kind ≡ 4 → ⊥) → 14 ≤ (f (open_before f p - 1)).kind
  arm-high p h e a b =
      let k : both (leaves (f p).kind) (both (not (eqb (f p).kind 2)) (not (eqb (f p).kind 4))) ≡ true = both_true _ _ e (both_true _ _ (not-ne _ _ a) (not-ne _ _ b)) in
      let l : 6 ≤ (stands_in (f p).kind).start = leb-true _ _ (given-then (both (leaves (f p).kind) (both (not (eqb (f p).kind 2)) (not (eqb (f p).kind 4)))) (leb 6 (stands_in (f p).kind).start) (frame-fact p 0 h (omega arith)) k) in
      let s : 1 ≤ open_before f p = leaver-some f c ok p h e in
      let o : open_before f p ≤ p = open-low p (omega arith) in
      let g : 6 ≤ ground_of (f (open_before f p - 1)).kind = omega (arith, ground-low f c ok p h, ground-some f c ok (open_before f p) s) in
      leb-true _ _ (given-then (leb 6 (ground_of (f (open_before f p - 1)).kind)) (leb 14 (f (open_before f p - 1)).kind) (frame-fact (open_before f p - 1) 1 (omega arith) (omega arith)) (le-leb _ _ g))

  frame-arm : (o : ℕ) → 14 ≤ (f (o - 1)).kind → frame_in f o ≡ (f (o - 1)).scope
  frame-arm o h = if_true-no (o - 1) (f (o - 1)).scope (frame-no _ (λ q. omega arith) (λ q. omega arith))

  -- row p and what is around it
  pub record Around (p : ℕ) : Type 0 where
    pub func : 1 ≤ (f p).up → (f ((f p).up - 1)).func ≡ (f p).func
    pub scope : ((f p).kind ≡ 1 → ⊥) → ((f p).kind ≡ 2 → ⊥) → ((f p).kind ≡ 4 → ⊥) → (f p).scope ≡ frame_in f (f p).up

  around-one : (p : ℕ) → p < c → ((q : ℕ) → q < p → Around q) → Around p
  around-one p h before = split (leaves (f p).kind) refl
    where
      split : (b : Bool) → leaves (f p).kind ≡ b → Around p
      split false e =
          let u : (f p).up ≡ open_before f p = up-stays p h e in
          record {
            func = λ l. ap (λ (o : ℕ). (f (o - 1)).func) u ∙ sym (func-open f c ok p h (omega arith));
            scope = λ a b d. scope-open p h a ∙ ap (frame_in f) (sym u);
          }
      split true e =
          let u : (f p).up ≡ (f (open_before f p - 1)).up = up-leaves p h e in
          let s : 1 ≤ open_before f p = leaver-some f c ok p h e in
          let o : open_before f p ≤ p = open-low p (omega arith) in
          let q : Around (open_before f p - 1) = before (open_before f p - 1) (omega arith) in
          record {
            func = λ l. ap (λ (i : ℕ). (f (i - 1)).func) u ∙ q.func (omega arith) ∙ sym (func-open f c ok p h s);
            scope = λ a b d. let m : 14 ≤ (f (open_before f p - 1)).kind = arm-high p h e b d in
                scope-open p h a ∙ frame-arm (open_before f p) m ∙ q.scope (λ z. omega arith) (λ z. omega arith) (λ z. omega arith) ∙ ap (frame_in f) (sym u);
          }

  arounds : (j : ℕ) → j ≤ c → (p : ℕ) → p < j → Around p
  arounds zero h p l = absurd (not-suc-le-zero l)
  arounds (suc j) h p l = around-one p (omega arith) (λ q m. arounds j (omega arith) q (omega arith))

  pub around : (p : ℕ) → p < c → Around p
  around p h = arounds c (omega arith) p h

  -- ---- behind a row

  open-enters : (j : ℕ) → enters (f j).kind ≡ true → open_before f (suc j) ≡ suc j
  unfolding open_before behind
  open-enters j e = if_true-yes (suc j) (f j).up e

  open_stays : (j : ℕ) → enters (f j).kind ≡ false → open_before f (suc j) ≡ (f j).up
  unfolding open_before behind
  open_stays j e = if_true-no (suc j) (f j).up e

  -- the function does not change within
  pub func-stays : (j : ℕ) → j < c → 1 ≤ open_before f (suc j) → (f (open_before f (suc j) - 1)).func ≡ (f j).func
  func-stays j h l = split (enters (f j).kind) refl
    where
      split : (b : Bool) → enters (f j).kind ≡ b → (f (open_before f (suc j) - 1)).func ≡ (f j).func
      split true e = let z : open_before f (suc j) - 1 ≡ j = omega (arith, open-enters j e) in ap (λ (i : ℕ). (f i).func) z
      split false e =
          let u : open_before f (suc j) ≡ (f j).up = open_stays j e in
          ap (λ (i : ℕ). (f (i - 1)).func) u ∙ (around j h).func (omega arith)

  -- a row that neither opens nor closes a frame leaves it as it is
  pub frame-stays : (j : ℕ) → j < c → ((f j).kind ≡ 1 → ⊥) → ((f j).kind ≡ 2 → ⊥) → ((f j).kind ≡ 3 → ⊥) → ((f j).kind ≡ 4 → ⊥) → frame_in f (open_before f (suc j)) ≡ (f j).scope
  frame-stays j h a b d g = split (enters (f j).kind) refl
    where
      split : (v : Bool) → enters (f j).kind ≡ v → frame_in f (open_before f (suc j)) ≡ (f j).scope
      split true e =
          let z : open_before f (suc j) - 1 ≡ j = omega (arith, open-enters j e) in
          ap (λ (i : ℕ). if_true (is_frame (f i).kind) i (f i).scope) z ∙ if_true-no j (f j).scope (frame-no _ a d)
      split false e = ap (frame_in f) (open_stays j e) ∙ sym ((around j h).scope a b g)

  frame-opens : (j : ℕ) → enters (f j).kind ≡ true → is_frame (f j).kind ≡ true → frame_in f (open_before f (suc j)) ≡ j
  frame-opens j e d =
      let z : open_before f (suc j) - 1 ≡ j = omega (arith, open-enters j e) in
      ap (λ (i : ℕ). if_true (is_frame (f i).kind) i (f i).scope) z ∙ if_true-yes j (f j).scope d

  pub frame-function : (j : ℕ) → (f j).kind ≡ 1 → frame_in f (open_before f (suc j)) ≡ j
  frame-function j e = frame-opens j (subst (λ (k : ℕ). enters k ≡ true) (sym e) one-opens.0) (frame-one _ e)

  pub frame-block : (j : ℕ) → (f j).kind ≡ 3 → frame_in f (open_before f (suc j)) ≡ j
  frame-block j e = frame-opens j (subst (λ (k : ℕ). enters k ≡ true) (sym e) three-opens.0) (frame-three _ e)

  -- what an end closes
  record Closed (j g : ℕ) : Type 0 where
    q : ℕ
    opened : open_before f j ≡ suc q
    below : q < j
    ground : ground_of (f q).kind ≡ g
    up : open_before f (suc j) ≡ (f q).up

  closed : (j g : ℕ) → j < c → Ends (f j).kind g → Closed j g
  closed j g h e =
      let s : 1 ≤ open_before f j = leaver-some f c ok j h e.0 in
      let o : open_before f j ≤ j = open-low j (omega arith) in
      record {
        q = open_before f j - 1;
        opened = omega arith;
        below = omega arith;
        ground = omega (arith, ground-low f c ok j h, ground-high f c ok j h, ground-some f c ok (open_before f j) s, e.2, e.3);
        up = open_stays j e.1 ∙ up-leaves j h e.0;
      }

  -- behind a function nothing is open
  pub end-function : (j : ℕ) → j < c → (f j).kind ≡ 2 → open_before f (suc j) ≡ 0
  end-function j h e =
      let z : Closed j 4 = closed j 4 h (subst (λ (k : ℕ). Ends k 4) (sym e) two_ends) in
      let k : (f z.q).kind ≡ 1 = eqb-true _ _ (given-then (eqb (ground_of (f z.q).kind) 4) (eqb (f z.q).kind 1) (frame-fact z.q 2 (omega (arith, z.below)) (omega arith)) (eq-eqb _ _ z.ground)) in
      let u : (f z.q).up ≡ open_before f z.q = up-stays z.q (omega (arith, z.below)) (subst (λ (i : ℕ). leaves i ≡ false) (sym k) one-opens.1) in
      elim (ℕ_discrete (open_before f z.q) 0) [
        | yes d ↦ omega (arith, z.up)
        | no d ↦ absurd (kind-not f c ok z.q (omega (arith, z.below)) (omega arith) k)
      ]

  -- the block that an `end block` closes
  pub record Block (j : ℕ) : Type 0 where
    pub q : ℕ
    pub below : q < j
    pub kind : (f q).kind ≡ 3
    pub opened : open_before f j ≡ suc q
    pub up : open_before f (suc j) ≡ (f q).up
    pub frame : frame_in f (open_before f j) ≡ q
    pub outer : frame_in f (open_before f (suc j)) ≡ (f q).scope

  pub end-block : (j : ℕ) → j < c → (f j).kind ≡ 4 → Block j
  end-block j h e =
      let z : Closed j 5 = closed j 5 h (subst (λ (k : ℕ). Ends k 5) (sym e) four-ends) in
      let k : (f z.q).kind ≡ 3 = eqb-true _ _ (given-then (eqb (ground_of (f z.q).kind) 5) (eqb (f z.q).kind 3) (frame-fact z.q 3 (omega (arith, z.below)) (omega arith)) (eq-eqb _ _ z.ground)) in
      let i : open_before f j - 1 ≡ z.q = omega (arith, z.opened) in
      record {
        q = z.q;
        below = z.below;
        kind = k;
        opened = z.opened;
        up = z.up;
        frame = ap (λ (i : ℕ). if_true (is_frame (f i).kind) i (f i).scope) i ∙ if_true-yes z.q (f z.q).scope (frame-three _ k);
        outer = ap (frame_in f) z.up ∙ sym ((around z.q (omega (arith, z.below))).scope (λ d. omega arith) (λ d. omega arith) (λ d. omega arith));
      }

  -- ---- rows since what is open

  -- the frame around row q is not behind its own
  frame-up : (q : ℕ) → q < c → 1 ≤ (f q).up → frame_in f (f q).up ≤ (f q).scope → frame_in f (f q).up ≤ frame_in f (suc q)
  frame-up q h l s =
      let z : suc q - 1 ≡ q = omega arith in
      subst (λ (i : ℕ). frame_in f (f q).up ≤ if_true (is_frame (f i).kind) i (f i).scope) (sym z)
      (either_true (λ (x : ℕ). frame_in f (f q).up ≤ x) (is_frame (f q).kind) q (f q).scope (λ _. omega (arith, frame-low (f q).up l (omega (arith, up-low q h)), up-low q h)) (λ _. s))

  record Since (p : ℕ) : Type 0 where
    own : 1 ≤ (f p).up → frame_in f (f p).up ≤ (f p).scope
    rows : 1 ≤ (f p).up → (i : ℕ) → (f p).up ≤ i → i < p → frame_in f (f p).up ≤ (f i).scope

  abbrev Tops : ℕ → Type 0
  Tops j = 1 ≤ open_before f j → (i : ℕ) → open_before f j ≤ i → i < j → frame_in f (open_before f j) ≤ (f i).scope

  own-frame : (p : ℕ) → p < c → (f p).kind ≡ 1 → 1 ≤ (f p).up → frame_in f (f p).up ≤ (f p).scope
  own-frame p h e l = omega (arith, frame-low (f p).up l (omega (arith, up-low p h)), up-low p h, scope-own p h e)

  since-one : (p : ℕ) → p < c → ((q : ℕ) → q < p → Since q) → Tops p → Since p
  since-one p h before tops = split (leaves (f p).kind) refl
    where
      split : (b : Bool) → leaves (f p).kind ≡ b → Since p
      split false e =
          let u : (f p).up ≡ open_before f p = up-stays p h e in
          record {
            own = λ l. elim (ℕ_discrete (f p).kind 1) [
              | yes a ↦ own-frame p h a l
              | no a ↦ omega (arith, scope-open p h a, ap (frame_in f) u)
            ];
            rows = λ l i m n. omega (arith, tops (omega arith) i (omega arith) n, ap (frame_in f) u);
          }
      split true e =
          let u : (f p).up ≡ (f (open_before f p - 1)).up = up-leaves p h e in
          let s : 1 ≤ open_before f p = leaver-some f c ok p h e in
          let o : open_before f p ≤ p = open-low p (omega arith) in
          let q : Since (open_before f p - 1) = before (open_before f p - 1) (omega arith) in
          let z : suc (open_before f p - 1) ≡ open_before f p = omega arith in
          let m : (1 ≤ (f p).up → frame_in f (f p).up ≤ frame_in f (open_before f p)) = λ l. omega (arith, ap (frame_in f) u, ap (frame_in f) z, frame-up (open_before f p - 1) (omega arith) (omega arith) (q.own (omega arith))) in
          record {
            own = λ l. elim (ℕ_discrete (f p).kind 1) [
              | yes a ↦ own-frame p h a l
              | no a ↦ omega (arith, scope-open p h a, m l)
            ];
            rows = λ l i a b. elim (dec_lt i (open_before f p)) [
              | no d ↦ omega (arith, m l, tops s i (omega arith) b)
              | yes d ↦ elim (ℕ_discrete i (open_before f p - 1)) [
                | yes y ↦ subst (λ (i : ℕ). frame_in f (f p).up ≤ (f i).scope) (sym y) (omega (arith, ap (frame_in f) u, q.own (omega arith)))
                | no y ↦ omega (arith, ap (frame_in f) u, q.rows (omega arith) i (omega arith) (omega arith))
              ]
            ];
          }

  tops_next : (j : ℕ) → Since j → Tops (suc j)
  tops_next j s = split (enters (f j).kind) refl
    where
      split : (b : Bool) → enters (f j).kind ≡ b → Tops (suc j)
      split true e l i a b = absurd (omega (arith, open-enters j e))
      split false e l i a b =
          let u : open_before f (suc j) ≡ (f j).up = open_stays j e in
          elim (ℕ_discrete i j) [
            | yes y ↦ subst (λ (i : ℕ). frame_in f (open_before f (suc j)) ≤ (f i).scope) (sym y) (omega (arith, ap (frame_in f) u, s.own (omega arith)))
            | no y ↦ omega (arith, ap (frame_in f) u, s.rows (omega arith) i (omega arith) (omega arith))
          ]

  sinces : (j : ℕ) → j ≤ c → Tops j × ((p : ℕ) → p < j → Since p)
  unfolding open_before
  sinces zero h = (λ l i a b. absurd (not-suc-le-zero b), λ p l. absurd (not-suc-le-zero l))
  sinces (suc j) h =
      let r : Tops j × ((p : ℕ) → p < j → Since p) = sinces j (omega arith) in
      let s : Since j = since-one j h r.1 r.0 in (
        tops_next j s,
        λ p l. elim (ℕ_discrete p j) [ yes e ↦ subst Since (sym e) s | no e ↦ r.1 p (omega arith) ],
      )

  -- rows since row q, which is open before row j, are in its frame or further in
  pub inner : (j : ℕ) → j ≤ c → 1 ≤ open_before f j → (i : ℕ) → open_before f j ≤ i → i < j → frame_in f (open_before f j) ≤ (f i).scope
  inner j h = (sinces j h).0
