-- Where tests, `else` and else-if jumps go: to a row of their own function.
-- Assumes nothing.
use mathlib.Core.Path.{◌≡◌, refl, sym, ◌∙◌, ap, subst}
use mathlib.Core.Bool.{Bool, true, false, not}
use Prim.Native.Nat.{ℕ, zero, suc, ◌+◌, ◌-◌, ◌<◌, ◌≤◌}
use native.Mathlib.Decide.{ℕ_discrete, dec_lt}
use native.Mathlib.Omega.{arith}
use borrow.Author.Tests.{eqb-true, eq-eqb, leb-true}
use lib.Dec.{eqb, leb}
use Rattle.base_prelude.specs.Choice.{pick, if_eq, if_true}
use Rattle.base_prelude.proofs.Choice.{either_true, either-eq, true-false, if_true-yes, if_true-no, if_eq-no}
use Rattle.lang_kinds.specs.Nesting.{stands_in, enters, leaves, ground_of}
use Rattle.prog_tables.specs.Tests.{both, first_from}
use Rattle.prog_tables.specs.Statement.{Row, is_test}
use Rattle.prog_tables.specs.Nesting.{behind, open_before, ground_in, up_in, may_stand, follows_jump, stands, is_arm, is_end_if, next_arm, end_if_of, past_arm, target_of, has_target}
use Rattle.prog_tables.proofs.Each.{both_left, both_right, both_true, given-then}
use Rattle.prog_tables.proofs.Nested.{not-true, not-eq, here, fact, ground-some, ground-low, ground-high, open-some, small, func-open, Closes, closes, next_row_lem, next-func}

-- a search finds no later than where it could
pub record First (p : ℕ → Bool) (i m r : ℕ) : Type 0 where
  pub passes : p r ≡ true
  pub from : i ≤ r
  pub upto : r ≤ m

pub first_found : (p : ℕ → Bool) (left i m : ℕ) → p m ≡ true → i ≤ m → m < i + left → First p i m (first_from p left i)
unfolding first_from
first_found p zero i m e l h = absurd (omega arith)
first_found p (suc left) i m e l h = split (λ q. first_found p left (suc i) m e (later q) (omega arith)) (p i) refl
  where
    later : p i ≡ false → suc i ≤ m
    later q =
        elim (ℕ_discrete i m) [ yes d ↦ true-false (sym e ∙ ap p (sym d) ∙ q) | no d ↦ omega arith ]

    split : (p i ≡ false → First p (suc i) m (first_from p left (suc i))) → (b : Bool) → p i ≡ b → First p i m (pick b i (first_from p left (suc i)))
    split on true q = record { passes = q; from = omega arith; upto = l }
    split on false q = record { passes = (on q).passes; from = omega (arith, (on q).from); upto = (on q).upto }

module _ (f : ℕ → Row) (c : ℕ) (ok : (n : ℕ) → n < c → stands f n ≡ true) (shut : open_before f c ≡ 0) where
  -- row a is a statement of the function of row n
  pub record Aimed (n a : ℕ) : Type 0 where
    pub within : a < c
    pub same : (f a).func ≡ (f n).func

  ground-at : (m n : ℕ) → open_before f m ≡ suc n → ground_in f (open_before f m) ≡ ground_of (f n).kind
  ground-at m n o =
      let p : open_before f m - 1 ≡ n = omega arith in
      ground-some f c ok (open_before f m) (omega arith) ∙ ap (λ (x : ℕ). ground_of (f x).kind) p

  stands_on_lem : (m g : ℕ) → m < c → ground_in f (open_before f m) ≡ g → may_stand (f m).kind g ≡ true
  stands_on_lem m g h e = subst (λ (x : ℕ). may_stand (f m).kind x ≡ true) e (here f c ok m h).ground

  -- ---- tests

  record TestRow (n : ℕ) : Type 0 where
    pub opens : enters (f n).kind ≡ true
    pub stays : leaves (f n).kind ≡ false
    pub six : ground_of (f n).kind ≡ 6
    pub other : (f n).kind ≡ 1 → ⊥

  test-row : (n : ℕ) → n < c → is_test (f n).kind ≡ true → TestRow n
  test-row n h t = parts (enters (f n).kind) (not (leaves (f n).kind)) (eqb (ground_of (f n).kind) 6) (not (eqb (f n).kind 1))
      (λ a b d e. record { opens = a; stays = not-true (leaves (f n).kind) b; six = eqb-true _ _ d; other = not-eq (f n).kind 1 e })
      (given-then (is_test (f n).kind) (both (enters (f n).kind) (both (not (leaves (f n).kind)) (both (eqb (ground_of (f n).kind) 6) (not (eqb (f n).kind 1))))) (fact f c ok n 4 h (omega arith)) t)
    where
      parts : (p q r s : Bool) → (p ≡ true → q ≡ true → r ≡ true → s ≡ true → TestRow n) → both p (both q (both r s)) ≡ true → TestRow n
      parts p q r s k e =
          k (both_left p (both q (both r s)) e) (both_left q (both r s) (both_right p (both q (both r s)) e))
          (both_left r s (both_right q (both r s) (both_right p (both q (both r s)) e)))
          (both_right r s (both_right q (both r s) (both_right p (both q (both r s)) e)))

  test-up : (n : ℕ) → n < c → is_test (f n).kind ≡ true → (f n).up ≡ open_before f n
  unfolding up_in
  test-up n h t = (here f c ok n h).up_is ∙ if_true-no (f (open_before f n - 1)).up (open_before f n) (test-row n h t).stays

  -- what closes a test is an arm of its `if`
  test-arm : (n : ℕ) → n < c → is_test (f n).kind ≡ true → (x : Closes f c ok n) → both (leb 20 (f x.m).kind) (leb (f x.m).kind 22) ≡ true
  test-arm n h t x =
      given-then (both (leaves (f x.m).kind) (may_stand (f x.m).kind 6)) (both (leb 20 (f x.m).kind) (leb (f x.m).kind 22))
      (fact f c ok x.m 2 x.within (omega arith))
      (both_true (leaves (f x.m).kind) (may_stand (f x.m).kind 6) x.leave
      (stands_on_lem x.m 6 x.within (ground-at x.m n x.opened ∙ (test-row n h t).six)))

  -- ---- the row behind an arm

  else-behind : (r : ℕ) → r < c → (f r).kind ≡ 20 → behind r (f r) ≡ suc r
  unfolding behind
  else-behind r h e =
      if_true-yes (suc r) (f r).up
      (both_left (enters (f r).kind) (both (leaves (f r).kind) (eqb (ground_of (f r).kind) 7))
      (given-then (eqb (f r).kind 20) (both (enters (f r).kind) (both (leaves (f r).kind) (eqb (ground_of (f r).kind) 7))) (fact f c ok r 5 h (omega arith)) (eq-eqb _ _ e)))

  jump-fact : (r : ℕ) → r < c → (f r).kind ≡ 21 → both (not (enters (f r).kind)) (leaves (f r).kind) ≡ true
  jump-fact r h e = given-then (eqb (f r).kind 21) (both (not (enters (f r).kind)) (leaves (f r).kind)) (fact f c ok r 6 h (omega arith)) (eq-eqb _ _ e)

  jump-behind : (r : ℕ) → r < c → (f r).kind ≡ 21 → behind r (f r) ≡ (f r).up
  unfolding behind
  jump-behind r h e = if_true-no (suc r) (f r).up (not-true (enters (f r).kind) (both_left (not (enters (f r).kind)) (leaves (f r).kind) (jump-fact r h e)))

  aimed-past : (n r : ℕ) → n < c → is_test (f n).kind ≡ true → r < c → (f r).func ≡ (f n).func → (f r).up ≡ (f n).up → 20 ≤ (f r).kind → (f r).kind ≤ 22
      → ((f r).kind ≡ 22 → ⊥) → Aimed n (suc r)
  aimed-past n r h t l a u g k q =
      elim (ℕ_discrete (f r).kind 20) [
        | yes e ↦ behind-else (else-behind r l e)
        | no e ↦ behind-jump (jump-behind r l (omega arith) ∙ u ∙ test-up n h t)
      ]
    where
      behind-else : behind r (f r) ≡ suc r → Aimed n (suc r)
      behind-else b =
          let p : behind r (f r) - 1 ≡ r = omega arith in
          record {
            within = next_row_lem f c ok shut r l (omega arith);
            same = next-func f c ok shut r l (omega arith) ∙ ap (λ (x : ℕ). (f x).func) p ∙ a;
          }

      behind-jump : behind r (f r) ≡ open_before f n → Aimed n (suc r)
      behind-jump b =
          let o : 1 ≤ open_before f n = open-some f c ok n h (test-row n h t).other in
          let w : 1 ≤ behind r (f r) = omega arith in
          record {
            within = next_row_lem f c ok shut r l w;
            same = next-func f c ok shut r l w ∙ ap (λ (x : ℕ). (f (x - 1)).func) b ∙ sym (func-open f c ok n h o);
          }

  -- a false test goes to a statement of its function
  pub test-aimed : (n : ℕ) → n < c → is_test (f n).kind ≡ true → Aimed n (past_arm f (next_arm f c n))
  unfolding next_arm past_arm is_arm
  test-aimed n h t = from (closes f c ok shut n h (test-row n h t).opens)
    where
      past : (r m : ℕ) → m < c → ((i : ℕ) → n ≤ i → i < suc m → (f i).func ≡ (f n).func) → First (is_arm f (f n).up) (suc n) m r → Aimed n (if_eq (f r).kind 22 r (suc r))
      past r m l s x =
          let u : (f r).up ≡ (f n).up = eqb-true _ _ (both_left (eqb (f r).up (f n).up) (both (leb 20 (f r).kind) (leb (f r).kind 22)) x.passes) in
          let v : both (leb 20 (f r).kind) (leb (f r).kind 22) ≡ true = both_right (eqb (f r).up (f n).up) (both (leb 20 (f r).kind) (leb (f r).kind 22)) x.passes in
          let w : r < c = omega (arith, x.upto) in
          let a : (f r).func ≡ (f n).func = s r (omega (arith, x.from)) (omega (arith, x.upto)) in
          either-eq (λ (y : ℕ). Aimed n y) (f r).kind 22 r (suc r)
          (λ e. record { within = w; same = a })
          (λ e. aimed-past n r h t w a u (leb-true _ _ (both_left (leb 20 (f r).kind) (leb (f r).kind 22) v)) (leb-true _ _ (both_right (leb 20 (f r).kind) (leb (f r).kind 22) v)) e)

      from : Closes f c ok n → Aimed n (if_eq (f (first_from (is_arm f (f n).up) (c - suc n) (suc n))).kind 22 (first_from (is_arm f (f n).up) (c - suc n) (suc n)) (suc (first_from (is_arm f (f n).up) (c - suc n) (suc n))))
      from x =
          past (first_from (is_arm f (f n).up) (c - suc n) (suc n)) x.m x.within x.funcs
          (first_found (is_arm f (f n).up) (c - suc n) (suc n) x.m
          (both_true (eqb (f x.m).up (f n).up) (both (leb 20 (f x.m).kind) (leb (f x.m).kind 22)) (eq-eqb _ _ x.same_up) (test-arm n h t x)) x.after (omega (arith, x.within, x.after)))

  -- ---- the `end if`

  -- a later `end if` of the same `if`, in the same function
  pub record Ends (n : ℕ) : Type 0 where
    pub m : ℕ
    pub after : n < m
    pub within : m < c
    pub same_up : (f m).up ≡ (f n).up
    pub is-end : (f m).kind ≡ 22
    pub funcs : (i : ℕ) → n ≤ i → i < suc m → (f i).func ≡ (f n).func

  -- from an arm that belongs to the same `if`
  ends-later : (n r : ℕ) → n < r → (f r).up ≡ (f n).up → ((i : ℕ) → n ≤ i → i < suc r → (f i).func ≡ (f n).func) → Ends r → Ends n
  ends-later n r l u s x =
      record {
        m = x.m;
        after = omega (arith, x.after);
        within = x.within;
        same_up = x.same_up ∙ u;
        is-end = x.is-end;
        funcs = λ i a b. elim (dec_lt i (suc r)) [
          | yes e ↦ s i a e
          | no e ↦ x.funcs i (omega arith) b ∙ s r (omega arith) (omega arith)
        ];
      }

  ends-here : (n : ℕ) (x : Closes f c ok n) → (f x.m).kind ≡ 22 → Ends n
  ends-here n x e = record { m = x.m; after = x.after; within = x.within; same_up = x.same_up; is-end = e; funcs = x.funcs }

  -- a bare else is closed by the `end if`
  else-ends : (n : ℕ) → n < c → (f n).kind ≡ 20 → Ends n
  else-ends n h e = from (closes f c ok shut n h (both_left (enters (f n).kind) (both (leaves (f n).kind) (eqb (ground_of (f n).kind) 7)) facts))
    where
      facts : both (enters (f n).kind) (both (leaves (f n).kind) (eqb (ground_of (f n).kind) 7)) ≡ true
      facts = given-then (eqb (f n).kind 20) (both (enters (f n).kind) (both (leaves (f n).kind) (eqb (ground_of (f n).kind) 7))) (fact f c ok n 5 h (omega arith)) (eq-eqb _ _ e)

      seven : ground_of (f n).kind ≡ 7
      seven = eqb-true _ _ (both_right (leaves (f n).kind) (eqb (ground_of (f n).kind) 7) (both_right (enters (f n).kind) (both (leaves (f n).kind) (eqb (ground_of (f n).kind) 7)) facts))

      from : Closes f c ok n → Ends n
      from x =
          ends-here n x
          (eqb-true _ _
          (given-then (both (leaves (f x.m).kind) (may_stand (f x.m).kind 7)) (eqb (f x.m).kind 22) (fact f c ok x.m 3 x.within (omega arith))
          (both_true (leaves (f x.m).kind) (may_stand (f x.m).kind 7) x.leave (stands_on_lem x.m 7 x.within (ground-at x.m n x.opened ∙ seven)))))

  -- what an else-if jump closes is a test
  module _ (n : ℕ) (h : n < c) (e : (f n).kind ≡ 21) where
    jump-open : 1 ≤ open_before f n
    jump-open = open-some f c ok n h (λ (q : (f n).kind ≡ 1). omega arith)

    jump-test : is_test (f (open_before f n - 1)).kind ≡ true
    jump-test =
        let r : both (eqb (stands_in (f n).kind).start 6) (eqb (stands_in (f n).kind).end 7) ≡ true = given-then (eqb (f n).kind 21) (both (eqb (stands_in (f n).kind).start 6) (eqb (stands_in (f n).kind).end 7)) (fact f c ok n 11 h (omega arith)) (eq-eqb _ _ e) in
        let lo : (stands_in (f n).kind).start ≡ 6 = eqb-true _ _ (both_left (eqb (stands_in (f n).kind).start 6) (eqb (stands_in (f n).kind).end 7) r) in
        let hi : (stands_in (f n).kind).end ≡ 7 = eqb-true _ _ (both_right (eqb (stands_in (f n).kind).start 6) (eqb (stands_in (f n).kind).end 7) r) in
        let g : ground_of (f (open_before f n - 1)).kind ≡ 6 = omega (arith, lo, hi, ground-low f c ok n h, ground-high f c ok n h, ground-some f c ok (open_before f n) jump-open) in
        given-then (eqb (ground_of (f (open_before f n - 1)).kind) 6) (is_test (f (open_before f n - 1)).kind)
        (fact f c ok (open_before f n - 1) 10 before (omega arith)) (eq-eqb _ _ g)
      where
        before : open_before f n - 1 < c
        before = omega (arith, jump-open, (small f c ok n (omega arith)).open-low)

    arm : ℕ
    arm = open_before f n - 1

    arm_low : open_before f n - 1 < c
    arm_low = omega (arith, jump-open, (small f c ok n (omega arith)).open-low)

    jump-up : (f n).up ≡ open_before f (open_before f n - 1)
    unfolding up_in
    jump-up =
        (here f c ok n h).up_is ∙ if_true-yes (f (open_before f n - 1)).up (open_before f n) (both_right (not (enters (f n).kind)) (leaves (f n).kind) (jump-fact n h e))
        ∙ test-up (open_before f n - 1) arm_low jump-test

    jump-some : 1 ≤ behind n (f n)
    jump-some = omega (arith, jump-behind n h e, jump-up, open-some f c ok (open_before f n - 1) arm_low (test-row (open_before f n - 1) arm_low jump-test).other)

    pub jump-next : suc n < c
    jump-next = next_row_lem f c ok shut n h jump-some

    pub jump-next-test : is_test (f (suc n)).kind ≡ true
    unfolding follows_jump
    jump-next-test = given-then (eqb (f n).kind 21) (is_test (f (suc n)).kind) (here f c ok (suc n) jump-next).jump (eq-eqb _ _ e)

    jump-next-up : (f (suc n)).up ≡ (f n).up
    unfolding open_before
    jump-next-up = test-up (suc n) jump-next jump-next-test ∙ jump-behind n h e

    jump-next-func : (f (suc n)).func ≡ (f n).func
    jump-next-func =
        next-func f c ok shut n h jump-some ∙ ap (λ (x : ℕ). (f (x - 1)).func) (jump-behind n h e ∙ jump-up)
        ∙ sym (func-open f c ok (open_before f n - 1) arm_low (open-some f c ok (open_before f n - 1) arm_low (test-row (open_before f n - 1) arm_low jump-test).other))
        ∙ sym (func-open f c ok n h jump-open)

    jump-ends : Ends (suc n) → Ends n
    jump-ends x =
        ends-later n (suc n) (omega arith) jump-next-up
        (λ i a b. elim (ℕ_discrete i n) [
          | yes q ↦ ap (λ (y : ℕ). (f y).func) q
          | no q ↦ let w : i ≡ suc n = omega arith in ap (λ (y : ℕ). (f y).func) w ∙ jump-next-func
        ]) x

  -- every arm has its `end if`
  ends : (k n : ℕ) → n < c → c ≤ n + k → has_target (f n).kind ≡ true → Ends n
  unfolding has_target if_true
  ends zero n h l t = absurd (omega arith)
  ends (suc k) n h l t =
      split
      (λ r a b g. ends k r b (omega arith) g)
      (is_test (f n).kind) refl t
    where
      armed : (r : ℕ) → 20 ≤ (f r).kind → (f r).kind ≤ 22 → ((f r).kind ≡ 22 → ⊥) → has_target (f r).kind ≡ true
      armed r a b q =
          either_true (λ (x : Bool). x ≡ true) (is_test (f r).kind) true (if_eq (f r).kind 20 true (eqb (f r).kind 21)) (λ e. refl)
          (λ e. either-eq (λ (x : Bool). x ≡ true) (f r).kind 20 true (eqb (f r).kind 21) (λ d. refl) (λ d. eq-eqb (f r).kind 21 (omega arith)))

      from : ((r : ℕ) → n < r → r < c → has_target (f r).kind ≡ true → Ends r) → is_test (f n).kind ≡ true → Closes f c ok n → Ends n
      from on e x =
          elim (ℕ_discrete (f x.m).kind 22) [
            | yes q ↦ ends-here n x q
            | no q ↦ ends-later n x.m x.after x.same_up x.funcs
                (on x.m x.after x.within
                (armed x.m (leb-true _ _ (both_left (leb 20 (f x.m).kind) (leb (f x.m).kind 22) (test-arm n h e x)))
                (leb-true _ _ (both_right (leb 20 (f x.m).kind) (leb (f x.m).kind 22) (test-arm n h e x))) q))
          ]

      tested : (r : ℕ) → is_test (f r).kind ≡ true → has_target (f r).kind ≡ true
      tested r e = if_true-yes true (if_eq (f r).kind 20 true (eqb (f r).kind 21)) e

      split : ((r : ℕ) → n < r → r < c → has_target (f r).kind ≡ true → Ends r) → (b : Bool) → is_test (f n).kind ≡ b → pick b true (if_eq (f n).kind 20 true (eqb (f n).kind 21)) ≡ true → Ends n
      split on true e t = from on e (closes f c ok shut n h (test-row n h e).opens)
      split on false e t =
          elim (ℕ_discrete (f n).kind 20) [
            | yes q ↦ else-ends n h q
            | no q ↦ jumped on (eqb-true _ _ (sym (if_eq-no true (eqb (f n).kind 21) q) ∙ t))
          ]
        where
          jumped : ((r : ℕ) → n < r → r < c → has_target (f r).kind ≡ true → Ends r) → (f n).kind ≡ 21 → Ends n
          jumped on e = jump-ends n h e (on (suc n) (omega arith) (jump-next n h e) (tested (suc n) (jump-next-test n h e)))

  -- `else` and an else-if jump go to a statement of their function
  pub else-aimed : (n : ℕ) → n < c → has_target (f n).kind ≡ true → Aimed n (end_if_of f c n)
  unfolding end_if_of is_end_if
  else-aimed n h t = from (ends c n h (omega arith) t)
    where
      past : (r m : ℕ) → m < c → ((i : ℕ) → n ≤ i → i < suc m → (f i).func ≡ (f n).func) → First (is_end_if f (f n).up) (suc n) m r → Aimed n r
      past r m l s x = record { within = omega (arith, x.upto); same = s r (omega (arith, x.from)) (omega (arith, x.upto)) }

      from : Ends n → Aimed n (first_from (is_end_if f (f n).up) (c - suc n) (suc n))
      from x =
          past (first_from (is_end_if f (f n).up) (c - suc n) (suc n)) x.m x.within x.funcs
          (first_found (is_end_if f (f n).up) (c - suc n) (suc n) x.m
          (both_true (eqb (f x.m).up (f n).up) (eqb (f x.m).kind 22) (eq-eqb _ _ x.same_up) (eq-eqb _ _ x.is-end)) x.after (omega (arith, x.within, x.after)))

  pub target-aimed : (n : ℕ) → n < c → has_target (f n).kind ≡ true → Aimed n (target_of f c n)
  unfolding target_of
  target-aimed n h t =
      either_true (λ (x : ℕ). Aimed n x) (is_test (f n).kind) (past_arm f (next_arm f c n)) (end_if_of f c n) (λ e. test-aimed n h e) (λ e. else-aimed n h t)
