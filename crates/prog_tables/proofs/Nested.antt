-- What the rule of nesting gives for all rows: each row is in a function, an arm is closed by an arm or `end if` of the same `if`, and all
-- rows up to there are in the same function.
-- Assumes nothing.
use mathlib.Core.Path.{◌≡◌, refl, sym, ◌∙◌, ap, subst}
use mathlib.Core.Bool.{Bool, true, false, not}
use mathlib.Core.List.{List, [], ◌∷◌}
use Prim.Native.Nat.{ℕ, zero, suc, ◌+◌, ◌-◌, ◌<◌, ◌≤◌}
use native.Mathlib.Nat.{not-suc-le-zero}
use native.Mathlib.Decide.{ℕ_discrete}
use native.Mathlib.Omega.{arith}
use borrow.Author.Tests.{eqb-true, eq-eqb, ne_eqb, leb-true, ltb-true}
use lib.Dec.{eqb, ltb, leb}
use lib.ListN.{get_or}
use Rattle.base_prelude.specs.Choice.{if_lt, if_eq, if_true}
use Rattle.base_prelude.proofs.Choice.{either_true, either-eq, true-false, if_eq-yes, if_eq-no, if_true-yes}
use Rattle.lang_kinds.specs.Nesting.{statement_in, stands_in, enters, leaves, ground_of}
use Rattle.prog_tables.specs.Tests.{both, given, all, all_below}
use Rattle.prog_tables.specs.Statement.{Row, is_test}
use Rattle.prog_tables.specs.Nesting.{behind, open_before, ground_in, func_in, scope_in, up_in, is_listed, may_stand, follows_jump, stands_tests, stands}
use Rattle.prog_tables.proofs.Each.{both_left, both_right, given-then, all-at, below_at}

-- ---- one row

pub record Standing (f : ℕ → Row) (n : ℕ) : Type 0 where
  pub listed : is_listed (f n).kind ≡ true
  pub ground : may_stand (f n).kind (ground_in f (open_before f n)) ≡ true
  pub jump : given (follows_jump f n) (is_test (f n).kind) ≡ true
  pub func-is : (f n).func ≡ func_in (f n).kind n (f (open_before f n - 1))
  pub scope-is : (f n).scope ≡ scope_in (f n).kind n (open_before f n) (f (open_before f n - 1))
  pub up_is : (f n).up ≡ up_in (f n).kind (open_before f n) (f (open_before f n - 1))

pub standing : (f : ℕ → Row) (n : ℕ) → stands f n ≡ true → Standing f n
unfolding stands
standing f n h =
    record {
      listed = all-at (stands_tests f n) 0 h (omega arith);
      ground = all-at (stands_tests f n) 1 h (omega arith);
      jump = all-at (stands_tests f n) 2 h (omega arith);
      func-is = eqb-true _ _ (all-at (stands_tests f n) 3 h (omega arith));
      scope-is = eqb-true _ _ (all-at (stands_tests f n) 4 h (omega arith));
      up_is = eqb-true _ _ (all-at (stands_tests f n) 5 h (omega arith));
    }

-- ---- kinds, by one computed test over all of them

abbrev pub kind_facts : ℕ → List Bool
kind_facts k =
    given (not (eqb k 1)) (leb 4 (stands_in k).start)
    ∷ given (leaves k) (not (eqb k 1))
    ∷ given (both (leaves k) (may_stand k 6)) (both (leb 20 k) (leb k 22))
    ∷ given (both (leaves k) (may_stand k 7)) (eqb k 22)
    ∷ given (is_test k) (both (enters k) (both (not (leaves k)) (both (eqb (ground_of k) 6) (not (eqb k 1)))))
    ∷ given (eqb k 20) (both (enters k) (both (leaves k) (eqb (ground_of k) 7)))
    ∷ given (eqb k 21) (both (not (enters k)) (leaves k))
    ∷ given (enters k) (leb 4 (ground_of k))
    ∷ given (eqb k 1) (both (eqb (stands_in k).start 1) (eqb (stands_in k).end 2))
    ∷ not (eqb (ground_of k) 1)
    ∷ given (eqb (ground_of k) 6) (is_test k)
    ∷ given (eqb k 21) (both (eqb (stands_in k).start 6) (eqb (stands_in k).end 7))
    ∷ given (eqb k 4) (both (eqb (stands_in k).start 5) (eqb (stands_in k).end 6))
    ∷ given (eqb (ground_of k) 5) (eqb k 3)
    ∷ []

kinds-table : all_below (λ k. given (is_listed k) (all (kind_facts k))) 23 ≡ true
unfolding all_below all is_listed may_stand is_test stands_in statement_in enters leaves ground_of if_eq if_lt if_true
kinds-table = refl

listed-low : (k : ℕ) → is_listed k ≡ true → k < 23
unfolding is_listed
listed-low k h = either-eq (λ (b : Bool). b ≡ true → k < 23) k 0 false (ltb k 23) (λ e q. omega arith) (λ e q. ltb-true k 23 q) h

pub kind-fact : (k j : ℕ) → is_listed k ≡ true → j < 14 → get_or (kind_facts k) j true ≡ true
kind-fact k j h l =
    all-at (kind_facts k) j
    (given-then (is_listed k) (all (kind_facts k)) (below_at (λ k. given (is_listed k) (all (kind_facts k))) 23 k kinds-table (listed-low k h)) h) l

pub not-true : (b : Bool) → not b ≡ true → b ≡ false
not-true true h = sym h
not-true false h = refl

pub true-not : (b : Bool) → b ≡ false → not b ≡ true
true-not true h = sym h
true-not false h = refl

pub not-eq : (a b : ℕ) → not (eqb a b) ≡ true → a ≡ b → ⊥
not-eq a b h e = true-false (sym h ∙ ap not (eq-eqb a b e))

-- ---- all rows

module _ (f : ℕ → Row) (c : ℕ) (ok : (n : ℕ) → n < c → stands f n ≡ true) where
  pub here : (n : ℕ) → n < c → Standing f n
  here n h = standing f n (ok n h)

  pub fact : (n j : ℕ) → n < c → j < 14 → get_or (kind_facts (f n).kind) j true ≡ true
  fact n j h l = kind-fact (f n).kind j (here n h).listed l

  pub ground-low : (n : ℕ) → n < c → (stands_in (f n).kind).start ≤ ground_in f (open_before f n)
  unfolding may_stand
  ground-low n h = leb-true _ _ (both_left (leb (stands_in (f n).kind).start (ground_in f (open_before f n))) (ltb (ground_in f (open_before f n)) (stands_in (f n).kind).end) (here n h).ground)

  pub ground-high : (n : ℕ) → n < c → ground_in f (open_before f n) < (stands_in (f n).kind).end
  unfolding may_stand
  ground-high n h = ltb-true _ _ (both_right (leb (stands_in (f n).kind).start (ground_in f (open_before f n))) (ltb (ground_in f (open_before f n)) (stands_in (f n).kind).end) (here n h).ground)

  ground-none : (o : ℕ) → o ≡ 0 → ground_in f o ≡ 1
  unfolding ground_in
  ground-none o e = if_eq-yes 1 (ground_of (f (o - 1)).kind) e

  pub ground-some : (o : ℕ) → 1 ≤ o → ground_in f o ≡ ground_of (f (o - 1)).kind
  unfolding ground_in
  ground-some o h = if_eq-no 1 (ground_of (f (o - 1)).kind) (λ (e : o ≡ 0). omega arith)

  -- what is no function stands in something open
  pub open-some : (n : ℕ) → n < c → ((f n).kind ≡ 1 → ⊥) → 1 ≤ open_before f n
  open-some n h q =
      let l : 4 ≤ (stands_in (f n).kind).start = leb-true _ _ (given-then (not (eqb (f n).kind 1)) (leb 4 (stands_in (f n).kind).start) (fact n 0 h (omega arith)) (ap not (ne_eqb _ _ q))) in
      elim (ℕ_discrete (open_before f n) 0) [
        | yes e ↦ absurd (omega (arith, l, ground-low n h, ground-none (open_before f n) e))
        | no e ↦ omega arith
      ]

  leaver-some : (n : ℕ) → n < c → leaves (f n).kind ≡ true → 1 ≤ open_before f n
  leaver-some n h q =
      open-some n h
      (not-eq (f n).kind 1 (given-then (leaves (f n).kind) (not (eqb (f n).kind 1)) (fact n 1 h (omega arith)) q))

  -- numbers only grow inward
  pub record Small (j : ℕ) : Type 0 where
    pub ups : (i : ℕ) → i < j → (f i).up ≤ i
    pub open-low : open_before f j ≤ j

  up_small : (j : ℕ) → Small j → j < c → (f j).up ≤ j
  unfolding up_in
  up_small j s h =
      subst (λ (x : ℕ). x ≤ j) (sym (here j h).up_is)
      (either_true (λ (x : ℕ). x ≤ j) (leaves (f j).kind) (f (open_before f j - 1)).up (open_before f j)
      (λ e. omega (arith, leaver-some j h e, s.open-low, s.ups (open_before f j - 1) (omega (arith, leaver-some j h e, s.open-low))))
      (λ e. s.open-low))

  pub small : (j : ℕ) → j ≤ c → Small j
  unfolding open_before behind
  small zero h = record { ups = λ i l. absurd (not-suc-le-zero l); open-low = omega arith }
  small (suc j) h =
      let s : Small j = small j (omega arith) in
      let u : (f j).up ≤ j = up_small j s h in
      record {
        ups = λ i l. elim (ℕ_discrete i j) [
          | yes e ↦ subst (λ (x : ℕ). (f x).up ≤ x) (sym e) u
          | no e ↦ s.ups i (omega arith)
        ];
        open-low = either_true (λ (x : ℕ). x ≤ suc j) (enters (f j).kind) (suc j) (f j).up (λ e. omega arith) (λ e. omega (arith, u));
      }

  -- what stands in something open is no function
  pub kind-not : (n : ℕ) → n < c → 1 ≤ open_before f n → (f n).kind ≡ 1 → ⊥
  kind-not n h l e =
      let r : both (eqb (stands_in (f n).kind).start 1) (eqb (stands_in (f n).kind).end 2) ≡ true = given-then (eqb (f n).kind 1) (both (eqb (stands_in (f n).kind).start 1) (eqb (stands_in (f n).kind).end 2)) (fact n 8 h (omega arith)) (eq-eqb _ _ e) in
      let lo : (stands_in (f n).kind).start ≡ 1 = eqb-true _ _ (both_left (eqb (stands_in (f n).kind).start 1) (eqb (stands_in (f n).kind).end 2) r) in
      let hi : (stands_in (f n).kind).end ≡ 2 = eqb-true _ _ (both_right (eqb (stands_in (f n).kind).start 1) (eqb (stands_in (f n).kind).end 2) r) in
      not-eq (ground_of (f (open_before f n - 1)).kind) 1
      (fact (open_before f n - 1) 9 (omega (arith, (small n (omega arith)).open-low)) (omega arith))
      (omega (arith, lo, hi, ground-low n h, ground-high n h, ground-some (open_before f n) l))

  pub func-open : (n : ℕ) → n < c → 1 ≤ open_before f n → (f n).func ≡ (f (open_before f n - 1)).func
  unfolding func_in
  func-open n h l = (here n h).func-is ∙ if_eq-no n (f (open_before f n - 1)).func (kind-not n h l)

  -- each row is in a function
  pub record Held (i : ℕ) : Type 0 where
    pub before : (f i).func ≤ i
    pub is-function : (f (f i).func).kind ≡ 1

  pub held : (j : ℕ) → j ≤ c → (i : ℕ) → i < j → Held i
  unfolding func_in
  held zero h i l = absurd (not-suc-le-zero l)
  held (suc j) h i l =
      elim (ℕ_discrete i j) [
        | no e ↦ held j (omega arith) i (omega arith)
        | yes e ↦ subst Held (sym e)
            (elim (ℕ_discrete (f j).kind 1) [
              | yes q ↦ own ((here j h).func-is ∙ if_eq-yes j (f (open_before f j - 1)).func q) q
              | no q ↦ outer (func-open j h (open-some j h q)) (held j (omega arith) (open_before f j - 1) (omega (arith, open-some j h q, (small j (omega arith)).open-low)))
            ])
      ]
    where
      own : (f j).func ≡ j → (f j).kind ≡ 1 → Held j
      own a q = record { before = omega arith; is-function = ap (λ (x : ℕ). (f x).kind) a ∙ q }

      outer : (f j).func ≡ (f (open_before f j - 1)).func → Held (open_before f j - 1) → Held j
      outer a w = record { before = omega (arith, w.before, (small j (omega arith)).open-low); is-function = ap (λ (x : ℕ). (f x).kind) a ∙ w.is-function }

  -- row n is open from behind it to before row j
  pub record Inside (n j : ℕ) : Type 0 where
    pub still : n < open_before f j
    pub ups : (i : ℕ) → n < i → i < j → n < (f i).up
    pub funcs : (i : ℕ) → n ≤ i → i < j → (f i).func ≡ (f n).func

  inside-start : (n : ℕ) → enters (f n).kind ≡ true → Inside n (suc n)
  unfolding open_before behind
  inside-start n e =
      record {
        still = subst (λ (x : ℕ). n < x) (sym (if_true-yes (suc n) (f n).up e)) (omega arith);
        ups = λ i l g. absurd (omega arith);
        funcs = λ i l g. let q : i ≡ n = omega arith in ap (λ (x : ℕ). (f x).func) q;
      }

  inside-func : (n j : ℕ) → Inside n j → j < c → (f j).func ≡ (f n).func
  inside-func n j s h =
      func-open j h (omega (arith, s.still))
      ∙ s.funcs (open_before f j - 1) (omega (arith, s.still)) (omega (arith, s.still, (small j (omega arith)).open-low))

  more-funcs : (n j : ℕ) → Inside n j → j < c → (i : ℕ) → n ≤ i → i < suc j → (f i).func ≡ (f n).func
  more-funcs n j s h i l g =
      elim (ℕ_discrete i j) [
        | yes e ↦ ap (λ (x : ℕ). (f x).func) e ∙ inside-func n j s h
        | no e ↦ s.funcs i l (omega arith)
      ]

  inside-up : (n j : ℕ) → Inside n j → j < c → (leaves (f j).kind ≡ true → open_before f j ≡ suc n → ⊥) → n < (f j).up
  unfolding up_in
  inside-up n j s h q =
      subst (λ (x : ℕ). n < x) (sym (here j h).up_is)
      (either_true (λ (x : ℕ). n < x) (leaves (f j).kind) (f (open_before f j - 1)).up (open_before f j)
      (λ e. s.ups (open_before f j - 1) (above (q e)) (omega (arith, s.still, (small j (omega arith)).open-low))) (λ e. s.still))
    where
      above : (open_before f j ≡ suc n → ⊥) → n < open_before f j - 1
      above r = omega (arith, s.still)

  inside-next : (n j : ℕ) → Inside n j → n < j → j < c → (leaves (f j).kind ≡ true → open_before f j ≡ suc n → ⊥) → Inside n (suc j)
  unfolding open_before behind
  inside-next n j s l h q =
      let u : n < (f j).up = inside-up n j s h q in
      record {
        still = either_true (λ (x : ℕ). n < x) (enters (f j).kind) (suc j) (f j).up (λ e. omega arith) (λ e. u);
        ups = λ i a b. elim (ℕ_discrete i j) [
          | yes e ↦ subst (λ (x : ℕ). n < (f x).up) (sym e) u
          | no e ↦ s.ups i a (omega arith)
        ];
        funcs = more-funcs n j s h;
      }

  -- the row that closes row n
  pub record Closes (n : ℕ) : Type 0 where
    pub m : ℕ
    pub after : n < m
    pub within : m < c
    pub opened : open_before f m ≡ suc n
    pub leave : leaves (f m).kind ≡ true
    pub same_up : (f m).up ≡ (f n).up
    pub funcs : (i : ℕ) → n ≤ i → i < suc m → (f i).func ≡ (f n).func

  module _ (shut : open_before f c ≡ 0) where
    found : (n j : ℕ) → Inside n j → n < j → j < c → leaves (f j).kind ≡ true → open_before f j ≡ suc n → Closes n
    unfolding up_in
    found n j s l h e o =
        let p : open_before f j - 1 ≡ n = omega arith in
        record {
          m = j;
          after = l;
          within = h;
          opened = o;
          leave = e;
          same_up = (here j h).up_is ∙ if_true-yes (f (open_before f j - 1)).up (open_before f j) e ∙ ap (λ (x : ℕ). (f x).up) p;
          funcs = more-funcs n j s h;
        }

    closes-from : (k n j : ℕ) → Inside n j → n < j → j ≤ c → c ≤ j + k → Closes n
    closes-from zero n j s l h g = let e : j ≡ c = omega arith in absurd (omega (arith, s.still, ap (open_before f) e, shut))
    closes-from (suc k) n j s l h g =
        elim (ℕ_discrete j c) [
          | yes e ↦ absurd (omega (arith, s.still, ap (open_before f) e, shut))
          | no e ↦ split (λ a q. closes-from k n (suc j) (inside-next n j s l a q) (omega arith) a (omega arith)) (leaves (f j).kind) refl (omega arith)
        ]
      where
        split : (j < c → (leaves (f j).kind ≡ true → open_before f j ≡ suc n → ⊥) → Closes n) → (b : Bool) → leaves (f j).kind ≡ b → j < c → Closes n
        split on false e a = on a (λ t o. true-false (sym t ∙ e))
        split on true e a =
            elim (ℕ_discrete (open_before f j) (suc n)) [ yes o ↦ found n j s l a e o | no o ↦ on a (λ t r. o r) ]

    pub closes : (n : ℕ) → n < c → enters (f n).kind ≡ true → Closes n
    closes n h e = closes-from c n (suc n) (inside-start n e) (omega arith) h (omega arith)

    -- the row behind a row that leaves something open
    pub next_row_lem : (r : ℕ) → r < c → 1 ≤ behind r (f r) → suc r < c
    unfolding open_before
    next_row_lem r h l =
        elim (ℕ_discrete (suc r) c) [
          | yes e ↦ absurd (omega (arith, l, ap (open_before f) e, shut))
          | no e ↦ omega arith
        ]

    pub next-func : (r : ℕ) → (h : r < c) → (l : 1 ≤ behind r (f r)) → (f (suc r)).func ≡ (f (behind r (f r) - 1)).func
    unfolding open_before
    next-func r h l = func-open (suc r) (next_row_lem r h l) l
