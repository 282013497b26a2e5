-- The parts of a row of each form.
-- Assumes nothing.
use mathlib.Core.Path.{◌≡◌, refl, sym, ◌∙◌, ap, subst}
use mathlib.Core.Bool.{Bool, true, false, not}
use mathlib.Core.List.{List}
use mathlib.Core.Logic.{◌⊎◌}
use Prim.Native.Nat.{ℕ, suc, ◌+◌, ◌-◌, ◌≤◌, ◌<◌}
use native.Mathlib.Decide.{dec_lt, ℕ_discrete}
use native.Mathlib.Omega.{arith}
use lib.Dec.{eqb, ltb, leb}
use lib.ListN.{length}
use borrow.Author.Tests.{eqb-true, ltb-true, ne_eqb, lt-ltb, le-ltb}
use Rattle.base_prelude.specs.Choice.{if_lt, if_eq, if_true}
use Rattle.base_prelude.proofs.Choice.{either, either-eq, either_true, true-false, if_lt-yes, if_lt-no, if_eq-yes, if_eq-no, if_true-yes, if_true-no}
use Rattle.base_prelude.proofs.Walk.{Kept, walk_kept}
use Rattle.lang_words.specs.Words.{words, first_of, is_number, entry_of, least_operands}
use Rattle.parse_lines.specs.Tokens.{kind_at, word_at, skip_step, skip, all_from}
use Rattle.parse_lines.proofs.Scans.{skip-from}
use Rattle.parse_shapes.specs.Shapes.{is_name, is_operator, operands_from, call_from, operator_from, operand_at, symbol_from, expression_from}
use Rattle.prog_tables.specs.Tests.{both, one_of, all_below}
use Rattle.prog_tables.specs.Statement.{has_expression, is_test, is_call_row, is_call, is_import, is_call_expression, expression_uses, used_by}
use Rattle.prog_tables.specs.Statement as statement
use Rattle.prog_tables.specs.Faults.{expression_listed}
use Rattle.prog_tables.specs.WellFormed.{has_operands}
use Rattle.prog_tables.proofs.Each.{below_at, both_left, both_right, one-no, one-rest}
use Rattle.prog_tables.proofs.CallRows.{quiet_row, listed-none, listed-expression, listed-call}
use Rattle.res_scope.specs.Parts.{parts, symbol_parts, expression_parts, return_parts, lists_operands, plain_parts, parts_of}
use Rattle.res_scope.specs.declared.Parts.{Parts}
use Rattle.thm_outline.specs.Parted.{Parted}
use Rattle.thm_outline.proofs.Forms.{Form, function, early, naming, address, setting, going, calling, returning, giving, testing, late}

-- ---- tokens of a scan

module _ (t : List ℕ) (lo hi from : ℕ) where
  abbrev Inside : ℕ → Type 0
  Inside j = (i : ℕ) → from ≤ i → i < j → (lo ≤ kind_at t i) × (kind_at t i < hi)

  inside-step : (j : ℕ) → Inside j → Kept Inside Inside (skip_step t lo hi j)
  unfolding skip_step
  inside-step j h =
      either (Kept Inside Inside) (kind_at t j) lo _ _ (λ _. h) (λ g.
      either (Kept Inside Inside) (kind_at t j) hi _ _
      (λ f i a b. elim (dec_lt i j) [ yes l ↦ h i a l | no l ↦ subst (λ (x : ℕ). (lo ≤ kind_at t x) × (kind_at t x < hi)) (let e : j ≡ i = omega arith in e) (g, f) ])
      (λ _. h))

  inside : Inside (skip t lo hi from)
  unfolding skip
  inside =
      walk_kept Inside Inside (skip_step t lo hi) from (λ i a b. let z : ⊥ = omega arith in absurd z) inside-step (suc (length t)) from
      (λ i a b. let z : ⊥ = omega arith in absurd z)

-- all tokens from a place to the end of the line
pub all-inside : (t : List ℕ) (lo hi i e : ℕ) → all_from t lo hi i e ≡ true → (i ≤ e) × ((j : ℕ) → i ≤ j → j < e → (lo ≤ kind_at t j) × (kind_at t j < hi))
unfolding all_from
all-inside t lo hi i e =
    either-eq (λ (b : Bool). b ≡ true → (i ≤ e) × ((j : ℕ) → i ≤ j → j < e → (lo ≤ kind_at t j) × (kind_at t j < hi))) (skip t lo hi i) e _ _
    (λ p _. subst (λ (x : ℕ). (i ≤ x) × ((j : ℕ) → i ≤ j → j < x → (lo ≤ kind_at t j) × (kind_at t j < hi))) p (skip-from t lo hi i, inside t lo hi i)) (λ _ q. true-false (sym q))

pub operands-inside : (t : List ℕ) (i e : ℕ) → operands_from t i e ≡ true → (i ≤ e) × ((j : ℕ) → i ≤ j → j < e → (3 ≤ kind_at t j) × (kind_at t j < 9))
unfolding operands_from
operands-inside t i e h = all-inside t 3 9 i e h

pub name-kind : (t : List ℕ) (i : ℕ) → is_name t i ≡ true → kind_at t i ≡ 3
unfolding is_name
name-kind t i = either-eq (λ (b : Bool). b ≡ true → kind_at t i ≡ 3) (kind_at t i) 3 _ _ (λ e _. e) (λ _ q. true-false (sym q))

call-inside : (t : List ℕ) (i e : ℕ) → call_from t (i + 1) e ≡ true → (kind_at t (i + 1) ≡ 3) × (operands_from t (i + 2) e ≡ true)
unfolding call_from
call-inside t i e =
    let r : i + 1 + 1 ≡ i + 2 = omega arith in
    either_true (λ (b : Bool). b ≡ true → (kind_at t (i + 1) ≡ 3) × (operands_from t (i + 2) e ≡ true)) (is_name t (i + 1)) _ _
    (λ p q. (name-kind t (i + 1) p, subst (λ (j : ℕ). operands_from t j e ≡ true) r q)) (λ _ q. true-false (sym q))

-- ---- an expression

-- what its parts are
data View (t : List ℕ) (i e : ℕ) : Parts → Type 0 where
  call : kind_at t (i + 1) ≡ 3 → operands_from t (i + 2) e ≡ true → View t i e (parts 2 (i + 1) (i + 2))
  operator : is_operator (word_at t i) ≡ true → e - (i + 1) ≡ least_operands (word_at t i) → operands_from t (i + 1) e ≡ true → View t i e (parts (word_at t i) 0 (i + 1))
  operand : e ≡ i + 1 → operands_from t i e ≡ true → View t i e (parts 1 0 i)

module _ (t : List ℕ) (i e : ℕ) where
  operand-view : operand_at t i e ≡ true → View t i e (parts 1 0 i)
  unfolding operand_at
  operand-view = either-eq (λ (b : Bool). b ≡ true → View t i e (parts 1 0 i)) e (i + 1) _ _ (λ p q. operand p q) (λ _ q. true-false (sym q))

  operator-view : is_operator (word_at t i) ≡ true → operator_from t i e ≡ true → View t i e (parts (word_at t i) 0 (i + 1))
  unfolding operator_from
  operator-view h =
      either-eq (λ (b : Bool). b ≡ true → View t i e (parts (word_at t i) 0 (i + 1))) (e - (i + 1)) (least_operands (word_at t i)) _ _ (λ p q. operator h p q) (λ _ q. true-false (sym q))

  other-view : (b : Bool) → is_operator (word_at t i) ≡ b → if_true b (operator_from t i e) (operand_at t i e) ≡ true → View t i e (if_true b (parts (word_at t i) 0 (i + 1)) (parts 1 0 i))
  unfolding if_true
  other-view true p h = operator-view p h
  other-view false p h = operand-view h

  symbol-view : symbol_from t i e ≡ true → View t i e (symbol_parts (word_at t i) i)
  unfolding symbol_from symbol_parts
  symbol-view h =
      elim (ℕ_discrete (word_at t i) 14) [
        | yes p ↦
            let q : call_from t (i + 1) e ≡ true = sym (if_eq-yes _ _ p) ∙ h in
            let r = call-inside t i e q in
            subst (View t i e) (sym (if_eq-yes _ _ p)) (call r.0 r.1)
        | no p ↦
            subst (View t i e) (sym (if_eq-no _ _ p)) (other-view (is_operator (word_at t i)) refl (sym (if_eq-no _ _ p) ∙ h))
      ]

  name-view : (b : Bool) → is_name t i ≡ b → if_true b (symbol_from t i e) (operand_at t i e) ≡ true → View t i e (if_true b (symbol_parts (word_at t i) i) (parts 1 0 i))
  unfolding if_true
  name-view true p h = symbol-view h
  name-view false p h = operand-view h

  expression-view : expression_from t i e ≡ true → View t i e (expression_parts t i)
  unfolding expression_from expression_parts
  expression-view h = name-view (is_name t i) refl h

-- ---- operators

operator-is : (w : ℕ) → is_operator w ≡ true → statement.is_operator w ≡ true
unfolding is_operator statement.is_operator
operator-is w =
    either (λ (b : Bool). b ≡ true → if_lt w 33 false (ltb w 52) ≡ true) w 33 _ _ (λ _ q. true-false (sym q)) (λ h.
    either (λ (b : Bool). b ≡ true → if_lt w 33 false (ltb w 52) ≡ true) w 52 _ _ (λ g _. if_lt-no _ _ h ∙ lt-ltb w 52 g) (λ _ q. true-false (sym q)))

operator-range : (w : ℕ) → is_operator w ≡ true → (33 ≤ w) × (w < 52)
unfolding is_operator
operator-range w =
    either (λ (b : Bool). b ≡ true → (33 ≤ w) × (w < 52)) w 33 _ _ (λ _ q. true-false (sym q)) (λ h.
    either (λ (b : Bool). b ≡ true → (33 ≤ w) × (w < 52)) w 52 _ _ (λ g _. (h, g)) (λ _ q. true-false (sym q)))

-- a test over a range of numbers
range_at : (p : ℕ → Bool) (a m k : ℕ) → all_below (λ j. p (a + j)) m ≡ true → a ≤ k → k < a + m → p k ≡ true
range_at p a m k h g l =
    let e : a + (k - a) ≡ k = omega arith in
    subst (λ (i : ℕ). p i ≡ true) e (below_at (λ j. p (a + j)) m (k - a) h (omega arith))

operators-few : all_below (λ j. ltb (least_operands (33 + j)) 3) 19 ≡ true
unfolding all_below least_operands entry_of first_of is_number words
operators-few = refl

operator-few : (w : ℕ) → is_operator w ≡ true → least_operands w < 3
operator-few w h =
    let r = operator-range w h in
    ltb-true _ _ (range_at (λ (i : ℕ). ltb (least_operands i) 3) 33 19 w operators-few r.0 (omega (arith, r.1)))

-- a row without an expression calls no imported function
no-import : (k : ℕ) → is_import k 0 ≡ false
unfolding is_import if_eq
no-import k = refl

-- ---- rows with an expression

module _ (kind : ℕ) (x : has_expression kind ≡ true) where
  has-operands : has_operands kind ≡ false → ⊥
  unfolding has_operands
  has-operands h = true-false (sym (ap (λ (b : Bool). one_of b (one_of (is_test kind) (both (leb 8 kind) (both (leb kind 12) (not (eqb kind 10)))))) x) ∙ h)

  uses-is : (ex m : ℕ) → used_by kind ex m ≡ expression_uses ex m
  unfolding used_by
  uses-is ex m = if_true-yes _ _ x

  no-expression : (j : ℕ) → has_expression j ≡ false → kind ≡ j → ⊥
  no-expression j h e = true-false (sym x ∙ ap has_expression e ∙ h)

  call-is : (ex : ℕ) → is_call kind ex ≡ eqb ex 2
  unfolding is_call has_expression if_lt
  call-is ex =
      either-eq (λ (b : Bool). b ≡ eqb ex 2) ex 3 _ _ (λ e. sym (ne_eqb ex 2 (λ z. let y : ⊥ = omega arith in y)))
      (λ _. if_eq-no _ _ (no-expression 11 refl) ∙ if_eq-no _ _ (no-expression 12 refl) ∙ if_true-yes _ _ x)

  no_plain : {P : Type 0} → one_of (has_expression kind) (is_call_row kind) ≡ false → P
  no_plain h = true-false (sym x ∙ one-no (has_expression kind) (is_call_row kind) h)

  module _ (t : List ℕ) (i₀ i e : ℕ) (o : i₀ < i) (l : e ≤ i + 10) where
    call-parted : kind_at t (i + 1) ≡ 3 → operands_from t (i + 2) e ≡ true → Parted t kind i₀ e (parts 2 (i + 1) (i + 2))
    unfolding expression_uses expression_listed is_call_expression if_eq if_true
    call-parted a b =
        let r = operands-inside t (i + 2) e b in
        record {
          behind = omega arith;
          within = r.0;
          shaped = λ _. uses-is 2 (e - (i + 2));
          idle = λ h. absurd (has-operands h);
          few = omega arith;
          listed = listed-expression kind 2 x refl;
          plain = no_plain;
          operands = r.1;
          called = λ _. (omega arith, omega (arith, r.0), a);
          uncalled = λ h. true-false (sym (call-is 2) ∙ h);
        }

    operator-uses : (w m : ℕ) → is_operator w ≡ true → expression_uses w m ≡ least_operands w
    unfolding expression_uses
    operator-uses w m h =
        let r = operator-range w h in
        if_eq-no _ _ (λ z. omega (arith, r.0)) ∙ if_eq-no _ _ (λ z. omega (arith, r.0)) ∙ if_eq-no _ _ (λ z. omega (arith, r.0)) ∙ if_true-yes _ _ (operator-is w h)

    operator-calls : (w : ℕ) → is_operator w ≡ true → is_call_expression w ≡ false
    unfolding is_call_expression
    operator-calls w h =
        let r = operator-range w h in
        if_eq-no _ _ (λ z. omega (arith, r.0)) ∙ ne_eqb w 3 (λ z. omega (arith, r.0))

    operator-listed : (w : ℕ) → is_operator w ≡ true → expression_listed kind w ≡ true
    unfolding expression_listed
    operator-listed w h =
        let r = operator-range w h in
        if_eq-no _ _ (λ z. omega (arith, r.0)) ∙ if_eq-no _ _ (λ z. omega (arith, r.0)) ∙ if_true-no _ _ (operator-calls w h) ∙ operator-is w h

    operator-parted : (w : ℕ) → is_operator w ≡ true → e - (i + 1) ≡ least_operands w → operands_from t (i + 1) e ≡ true → Parted t kind i₀ e (parts w 0 (i + 1))
    operator-parted w h c b =
        let r = operands-inside t (i + 1) e b in
        let s = operator-range w h in
        record {
          behind = omega arith;
          within = r.0;
          shaped = λ _. uses-is w (e - (i + 1)) ∙ operator-uses w (e - (i + 1)) h ∙ sym c;
          idle = λ z. absurd (has-operands z);
          few = omega (arith, operator-few w h);
          listed = listed-expression kind w x (operator-listed w h);
          plain = no_plain;
          operands = r.1;
          called = λ z. true-false (sym (sym (ne_eqb w 2 (λ y. omega (arith, s.0))) ∙ sym (call-is w) ∙ z));
          uncalled = λ _. refl;
        }

    operand-parted : e ≡ i + 1 → operands_from t i e ≡ true → Parted t kind i₀ e (parts 1 0 i)
    unfolding expression_uses expression_listed if_eq
    operand-parted c b =
        let r = operands-inside t i e b in
        let d : 1 ≡ e - i = omega arith in
        record {
          behind = o;
          within = r.0;
          shaped = λ _. uses-is 1 (e - i) ∙ d;
          idle = λ z. absurd (has-operands z);
          few = omega arith;
          listed = listed-expression kind 1 x refl;
          plain = no_plain;
          operands = r.1;
          called = λ z. true-false (sym (sym (call-is 1) ∙ z));
          uncalled = λ _. refl;
        }

    view-parted : (p : Parts) → View t i e p → Parted t kind i₀ e p
    view-parted p (call a b) = call-parted a b
    view-parted p (operator a b c) = operator-parted (word_at t i) a b c
    view-parted p (operand a b) = operand-parted a b

    expression-parted : expression_from t i e ≡ true → Parted t kind i₀ e (expression_parts t i)
    expression-parted h = view-parted (expression_parts t i) (expression-view t i e h)

-- ---- rows without an expression

unfoldable idle_test : ℕ → Bool
idle_test k = both (not (has_operands k)) (both (not (has_expression k)) (not (is_call k 0)))

idle-early : all_below idle_test 5 ≡ true
unfolding all_below idle_test has_operands has_expression is_test is_call if_lt if_eq if_true
idle-early = refl

idle-goto : idle_test 10 ≡ true
unfolding idle_test has_operands has_expression is_test is_call if_lt if_eq if_true
idle-goto = refl

idle-late : all_below (λ j. idle_test (20 + j)) 3 ≡ true
unfolding all_below idle_test has_operands has_expression is_test is_call if_lt if_eq if_true
idle-late = refl

untrue : (b : Bool) → not b ≡ true → b ≡ false
untrue true h = true-false (sym h)
untrue false h = refl

module _ (t : List ℕ) (kind i e : ℕ) (o : i < e) where
  -- a row that has no operands
  idle-parted : idle_test kind ≡ true → Parted t kind i e (parts 0 0 e)
  unfolding idle_test
  idle-parted h =
      let a : has_operands kind ≡ false = untrue _ (both_left _ _ h) in
      let b : both (not (has_expression kind)) (not (is_call kind 0)) ≡ true = both_right (not (has_operands kind)) _ h in
      let c : has_expression kind ≡ false = untrue _ (both_left _ _ b) in
      let d : is_call kind 0 ≡ false = untrue _ (both_right (not (has_expression kind)) _ b) in
      record {
        behind = o;
        within = omega arith;
        shaped = λ z. true-false (sym z ∙ a);
        idle = λ _. refl;
        few = omega arith;
        listed = listed-none kind 0 c (quiet_row kind 0 d (no-import kind));
        plain = λ _. refl;
        operands = λ j p q. let z : ⊥ = omega arith in absurd z;
        called = λ z. true-false (sym z ∙ d);
        uncalled = λ _. refl;
      }

  bare-return : kind ≡ 13 → Parted t kind i e (parts 0 0 e)
  unfolding has_expression has_operands used_by expression_uses statement.is_operator expression_listed is_call if_lt if_eq if_true
  bare-return q =
      let z : 0 ≡ e - e = omega arith in
      subst (λ (k : ℕ). Parted t k i e (parts 0 0 e)) (sym q)
      (record {
        behind = o;
        within = omega arith;
        shaped = λ _. z;
        idle = λ _. refl;
        few = omega arith;
        listed = refl;
        plain = λ _. refl;
        operands = λ j p q. let y : ⊥ = omega arith in absurd y;
        called = λ y. true-false (sym y);
        uncalled = λ _. refl;
      })

unfoldable list_test : ℕ → Bool
list_test k = both (has_operands k) (both (not (has_expression k)) (both (not (is_call k 0)) (lists_operands k)))

list-sets : all_below (λ j. list_test (8 + j)) 2 ≡ true
unfolding all_below list_test lists_operands has_operands has_expression is_test is_call if_lt if_eq if_true
list-sets = refl

list-tests : all_below (λ j. list_test (14 + j)) 6 ≡ true
unfolding all_below list_test lists_operands has_operands has_expression is_test is_call if_lt if_eq if_true
list-tests = refl

tests-are : all_below (λ j. is_test (14 + j)) 6 ≡ true
unfolding all_below is_test if_lt
tests-are = refl

sets-are : all_below (λ j. both (not (is_test (8 + j))) (eqb (if_eq (8 + j) 8 3 (if_eq (8 + j) 9 3 0)) 3)) 2 ≡ true
unfolding all_below is_test if_lt if_eq
sets-are = refl

module _ (kind : ℕ) (h : list_test kind ≡ true) where
  list-rest : both (not (has_expression kind)) (both (not (is_call kind 0)) (lists_operands kind)) ≡ true
  unfolding list_test
  list-rest = both_right (has_operands kind) _ h

  list-has : has_operands kind ≡ true
  unfolding list_test
  list-has = both_left _ _ h

  list-plain : has_expression kind ≡ false
  list-plain = untrue _ (both_left _ _ list-rest)

  list-quiet : is_call kind 0 ≡ false
  list-quiet = untrue _ (both_left _ _ (both_right (not (has_expression kind)) _ list-rest))

  list-row : is_call_row kind ≡ false
  list-row = quiet_row kind 0 list-quiet (no-import kind)

  list-lists : lists_operands kind ≡ true
  list-lists = both_right (not (is_call kind 0)) _ (both_right (not (has_expression kind)) _ list-rest)

  list-uses : (m : ℕ) → used_by kind 0 m ≡ if_true (is_test kind) 2 (if_eq kind 8 3 (if_eq kind 9 3 0))
  unfolding used_by
  list-uses m = if_true-no _ _ list-plain ∙ if_true-no _ _ list-row

  -- a row of operands alone
  list-parted : (t : List ℕ) (i e : ℕ) → operands_from t (i + 1) e ≡ true → e - (i + 1) ≤ 8 → if_true (is_test kind) 2 (if_eq kind 8 3 (if_eq kind 9 3 0)) ≡ e - (i + 1)
      → Parted t kind i e (parts 0 0 (i + 1))
  list-parted t i e b l q =
      let r = operands-inside t (i + 1) e b in
      record {
        behind = omega arith;
        within = r.0;
        shaped = λ _. list-uses (e - (i + 1)) ∙ q;
        idle = λ z. true-false (sym list-has ∙ z);
        few = l;
        listed = listed-none kind 0 list-plain list-row;
        plain = λ _. refl;
        operands = r.1;
        called = λ z. true-false (sym z ∙ list-quiet);
        uncalled = λ _. refl;
      }

set-parted : (t : List ℕ) (kind i e : ℕ) → 8 ≤ kind → kind < 10 → operands_from t (i + 1) e ≡ true → e - (i + 1) ≡ 3 → Parted t kind i e (parts 0 0 (i + 1))
set-parted t kind i e a b h c =
    let z : both (not (is_test kind)) (eqb (if_eq kind 8 3 (if_eq kind 9 3 0)) 3) ≡ true = range_at (λ (j : ℕ). both (not (is_test j)) (eqb (if_eq j 8 3 (if_eq j 9 3 0)) 3)) 8 2 kind sets-are a b in
    list-parted kind (range_at list_test 8 2 kind list-sets a b) t i e h (omega arith)
    (if_true-no _ _ (untrue _ (both_left _ _ z)) ∙ eqb-true _ _ (both_right (not (is_test kind)) _ z) ∙ sym c)

test-parted : (t : List ℕ) (kind i e : ℕ) → 14 ≤ kind → kind < 20 → operands_from t (i + 1) e ≡ true → e - (i + 1) ≡ 2 → Parted t kind i e (parts 0 0 (i + 1))
test-parted t kind i e a b h c =
    list-parted kind (range_at list_test 14 6 kind list-tests a b) t i e h (omega arith) (if_true-yes _ _ (range_at is_test 14 6 kind tests-are a b) ∙ sym c)

unfoldable call_test : ℕ → Bool
call_test k = both (has_operands k) (both (not (has_expression k)) (both (is_call_row k) (both (is_call k 2) (not (lists_operands k)))))

calls_are : all_below (λ j. call_test (11 + j)) 2 ≡ true
unfolding all_below call_test lists_operands has_operands has_expression is_test is_call if_lt if_eq if_true
calls_are = refl

module _ (kind : ℕ) (h : call_test kind ≡ true) where
  calls-rest : both (not (has_expression kind)) (both (is_call_row kind) (both (is_call kind 2) (not (lists_operands kind)))) ≡ true
  unfolding call_test
  calls-rest = both_right (has_operands kind) _ h

  calls-has : has_operands kind ≡ true
  unfolding call_test
  calls-has = both_left _ _ h

  calls-plain : has_expression kind ≡ false
  calls-plain = untrue _ (both_left _ _ calls-rest)

  calls-row : is_call_row kind ≡ true
  calls-row = both_left _ _ (both_right (not (has_expression kind)) _ calls-rest)

  calls-end : both (is_call kind 2) (not (lists_operands kind)) ≡ true
  calls-end = both_right (is_call_row kind) _ (both_right (not (has_expression kind)) _ calls-rest)

  calls-call : is_call kind 2 ≡ true
  calls-call = both_left _ _ calls-end

  calls-lists : lists_operands kind ≡ false
  calls-lists = untrue _ (both_right (is_call kind 2) _ calls-end)

  calls-uses : (m : ℕ) → used_by kind 2 m ≡ m
  unfolding used_by
  calls-uses m = if_true-no _ _ calls-plain ∙ if_true-yes _ _ calls-row

  calls-parted : (t : List ℕ) (i e : ℕ) → call_from t (i + 1) e ≡ true → e ≤ i + 10 → Parted t kind i e (parts 2 (i + 1) (i + 2))
  calls-parted t i e b l =
      let c = call-inside t i e b in
      let r = operands-inside t (i + 2) e c.1 in
      record {
        behind = omega arith;
        within = r.0;
        shaped = λ _. calls-uses (e - (i + 2));
        idle = λ z. true-false (sym calls-has ∙ z);
        few = omega arith;
        listed = listed-call kind calls-row;
        plain = λ z. true-false (sym calls-row ∙ one-rest (has_expression kind) (is_call_row kind) z);
        operands = r.1;
        called = λ _. (omega arith, omega (arith, r.0), c.0);
        uncalled = λ z. true-false (sym calls-call ∙ z);
      }

-- ---- the parts by the kind

module _ (t : List ℕ) (kind i e : ℕ) where
  parts-return : kind ≡ 13 → parts_of t kind i e ≡ return_parts t (i + 1) e
  unfolding parts_of
  parts-return h = if_eq-yes _ _ h

  parts-early : kind < 5 → parts_of t kind i e ≡ parts 0 0 e
  unfolding parts_of
  parts-early h = if_eq-no _ _ (λ z. let y : ⊥ = omega arith in y) ∙ if_lt-yes _ _ h

  parts-expression : 5 ≤ kind → kind < 8 → parts_of t kind i e ≡ expression_parts t (i + 2)
  unfolding parts_of
  parts-expression h g = if_eq-no _ _ (λ z. let y : ⊥ = omega arith in y) ∙ if_lt-no _ _ h ∙ if_lt-yes _ _ g

  parts-plain : 8 ≤ kind → (kind ≡ 13 → ⊥) → parts_of t kind i e ≡ plain_parts kind i e
  unfolding parts_of
  parts-plain h f = if_eq-no _ _ f ∙ if_lt-no _ _ (omega arith) ∙ if_lt-no _ _ h

  plain-list : lists_operands kind ≡ true → plain_parts kind i e ≡ parts 0 0 (i + 1)
  unfolding plain_parts
  plain-list h = if_true-yes _ _ h

  plain-call : lists_operands kind ≡ false → 11 ≤ kind → kind < 13 → plain_parts kind i e ≡ parts 2 (i + 1) (i + 2)
  unfolding plain_parts
  plain-call h a b =
      if_true-no _ _ h
      ∙ elim (ℕ_discrete kind 11) [
        | yes p ↦ if_eq-yes _ _ p
        | no p ↦ if_eq-no _ _ p ∙ if_eq-yes _ _ (let y : kind ≡ 12 = omega arith in y)
      ]

  plain-none : lists_operands kind ≡ false → (kind ≡ 11 → ⊥) → (kind ≡ 12 → ⊥) → plain_parts kind i e ≡ parts 0 0 e
  unfolding plain_parts
  plain-none h a b = if_true-no _ _ h ∙ if_eq-no _ _ a ∙ if_eq-no _ _ b

  goto-lists : kind ≡ 10 → lists_operands kind ≡ false
  unfolding lists_operands if_lt
  goto-lists h = ap lists_operands h

  late-lists : 20 ≤ kind → lists_operands kind ≡ false
  unfolding lists_operands
  late-lists h = if_lt-no _ _ (omega arith) ∙ if_lt-no _ _ (omega arith) ∙ if_lt-no _ _ (omega arith) ∙ le-ltb kind 20 h

-- ---- every form

has-return : (kind : ℕ) → kind ≡ 13 → has_expression kind ≡ true
unfolding has_expression if_lt
has-return kind h = ap has_expression h

has-let : (kind : ℕ) → 5 ≤ kind → kind < 8 → has_expression kind ≡ true
unfolding has_expression
has-let kind h g = if_lt-no _ _ h ∙ if_lt-yes _ _ g

module _ (t : List ℕ) (kind i e : ℕ) (o : i < e) where
  abbrev Is : Parts → Type 0
  Is = Parted t kind i e

  let-parted : 5 ≤ kind → kind < 8 → expression_from t (i + 2) e ≡ true → e ≤ i + 12 → Is (parts_of t kind i e)
  let-parted a b h l =
      subst Is (sym (parts-expression t kind i e a b)) (expression-parted kind (has-let kind a b) t i (i + 2) e (omega arith) (omega arith) h)

  return-bare : (m : ℕ) → m ≡ i + 1 → e ≤ m → return_parts t m e ≡ parts 0 0 e
  unfolding return_parts
  return-bare m q h = if_lt-no _ _ h

  return-with : i + 1 < e → return_parts t (i + 1) e ≡ expression_parts t (i + 1)
  unfolding return_parts
  return-with h = if_lt-yes _ _ h

  idle-plain : 8 ≤ kind → (kind ≡ 13 → ⊥) → lists_operands kind ≡ false → (kind ≡ 11 → ⊥) → (kind ≡ 12 → ⊥) → idle_test kind ≡ true → Is (parts_of t kind i e)
  idle-plain a b c d f h = subst Is (sym (parts-plain t kind i e a b ∙ plain-none t kind i e c d f)) (idle-parted t kind i e o h)

  list-plainly : 8 ≤ kind → (kind ≡ 13 → ⊥) → list_test kind ≡ true → Is (parts 0 0 (i + 1)) → Is (parts_of t kind i e)
  list-plainly a b h p = subst Is (sym (parts-plain t kind i e a b ∙ plain-list t kind i e (list-lists kind h))) p

  -- a row of any form is parted
  pub form-parted : Form t kind i e → Is (parts_of t kind i e)
  form-parted (function a b c) =
      let l : kind < 5 = omega arith in
      subst Is (sym (parts-early t kind i e l)) (idle-parted t kind i e o (below_at idle_test 5 kind idle-early l))
  form-parted (early a b c) = subst Is (sym (parts-early t kind i e a)) (idle-parted t kind i e o (below_at idle_test 5 kind idle-early a))
  form-parted (naming a b c d f) = let-parted a (omega arith) d f
  form-parted (address a b c d) = let-parted (omega arith) (omega arith) c d
  form-parted (setting a b c d) =
      list-plainly a (λ z. let y : ⊥ = omega arith in y) (range_at list_test 8 2 kind list-sets a b) (set-parted t kind i e a b c d)
  form-parted (going a b c) =
      idle-plain (omega arith) (λ z. let y : ⊥ = omega arith in y) (goto-lists t kind i e a) (λ z. let y : ⊥ = omega arith in y) (λ z. let y : ⊥ = omega arith in y)
      (subst (λ (j : ℕ). idle_test j ≡ true) (sym a) idle-goto)
  form-parted (calling a b c d) =
      let r : call_test kind ≡ true = range_at call_test 11 2 kind calls_are a b in
      subst Is (sym (parts-plain t kind i e (omega arith) (λ z. let y : ⊥ = omega arith in y) ∙ plain-call t kind i e (calls-lists kind r) a b)) (calls-parted kind r t i e c d)
  form-parted (returning a b) = subst Is (sym (parts-return t kind i e a ∙ return-bare (i + 1) refl b)) (bare-return t kind i e o a)
  form-parted (giving a b c d) =
      subst Is (sym (parts-return t kind i e a ∙ return-with b)) (expression-parted kind (has-return kind a) t i (i + 1) e (omega arith) (omega arith) c)
  form-parted (testing a b c d) =
      list-plainly (omega arith) (λ z. let y : ⊥ = omega arith in y) (range_at list_test 14 6 kind list-tests a b) (test-parted t kind i e a b c d)
  form-parted (late a b) =
      idle-plain (omega arith) (λ z. let y : ⊥ = omega arith in y) (late-lists t kind i e a) (λ z. let y : ⊥ = omega arith in y) (λ z. let y : ⊥ = omega arith in y)
      (range_at idle_test 20 3 kind idle-late a b)

-- ---- names, the address, parameters

expression-within : (t : List ℕ) (i e : ℕ) → expression_from t i e ≡ true → i < e
expression-within t i e h = by (expression_parts t i) (expression-view t i e h)
  where
    by : (p : Parts) → View t i e p → i < e
    by p (call a b) = omega (arith, (operands-inside t (i + 2) e b).0)
    by p (operator a b c) = omega (arith, (operands-inside t (i + 1) e c).0)
    by p (operand a b) = omega arith

module _ (t : List ℕ) (kind i e : ℕ) where
  -- of any listed kind
  pub form-kind : Form t kind i e → (1 ≤ kind) × (kind < 23)
  form-kind (function a b c) = (omega arith, omega arith)
  form-kind (early a b c) = (omega arith, omega arith)
  form-kind (naming a b c d f) = (omega arith, omega arith)
  form-kind (address a b c d) = (omega arith, omega arith)
  form-kind (setting a b c d) = (omega arith, omega arith)
  form-kind (going a b c) = (omega arith, omega arith)
  form-kind (calling a b c d) = (omega arith, omega arith)
  form-kind (returning a b) = (omega arith, omega arith)
  form-kind (giving a b c d) = (omega arith, omega arith)
  form-kind (testing a b c d) = (omega arith, omega arith)
  form-kind (late a b) = (omega arith, omega arith)

  -- behind `let`, `set` and `goto` stands a name
  abbrev Named : Type 0
  Named = (i + 1 < e) × (kind_at t (i + 1) ≡ 3)

  abbrev none_of : {P : Type 0} → ⊥ → P
  none_of z = absurd z

  pub form-local : 5 ≤ kind → kind < 7 → Form t kind i e → Named
  form-local l g (function a b c) = none_of (omega arith)
  form-local l g (early a b c) = none_of (omega arith)
  form-local l g (naming a b c d f) = (omega (arith, expression-within t (i + 2) e d), name-kind t (i + 1) c)
  form-local l g (address a b c d) = none_of (omega arith)
  form-local l g (setting a b c d) = none_of (omega arith)
  form-local l g (going a b c) = none_of (omega arith)
  form-local l g (calling a b c d) = none_of (omega arith)
  form-local l g (returning a b) = none_of (omega arith)
  form-local l g (giving a b c d) = none_of (omega arith)
  form-local l g (testing a b c d) = none_of (omega arith)
  form-local l g (late a b) = none_of (omega arith)

  pub form-goto : kind ≡ 10 → Form t kind i e → Named
  form-goto q (function a b c) = none_of (omega arith)
  form-goto q (early a b c) = none_of (omega arith)
  form-goto q (naming a b c d f) = none_of (omega arith)
  form-goto q (address a b c d) = none_of (omega arith)
  form-goto q (setting a b c d) = none_of (omega arith)
  form-goto q (going a b c) = (c, name-kind t (i + 1) b)
  form-goto q (calling a b c d) = none_of (omega arith)
  form-goto q (returning a b) = none_of (omega arith)
  form-goto q (giving a b c d) = none_of (omega arith)
  form-goto q (testing a b c d) = none_of (omega arith)
  form-goto q (late a b) = none_of (omega arith)

  -- behind the `set` of an address stands `@` and a name, a substitute or an integer
  abbrev Addressed : Type 0
  Addressed = (i + 1 < e) × ((kind_at t (i + 1) ≡ 5) ⊎ ((kind_at t (i + 1) ≡ 6) ⊎ (kind_at t (i + 1) ≡ 8)))

  pub form-address : kind ≡ 7 → Form t kind i e → Addressed
  form-address q (function a b c) = none_of (omega arith)
  form-address q (early a b c) = none_of (omega arith)
  form-address q (naming a b c d f) = none_of (omega arith)
  form-address q (address a b c d) = (omega (arith, expression-within t (i + 2) e c), b)
  form-address q (setting a b c d) = none_of (omega arith)
  form-address q (going a b c) = none_of (omega arith)
  form-address q (calling a b c d) = none_of (omega arith)
  form-address q (returning a b) = none_of (omega arith)
  form-address q (giving a b c d) = none_of (omega arith)
  form-address q (testing a b c d) = none_of (omega arith)
  form-address q (late a b) = none_of (omega arith)

  -- a function has names alone, at most 8
  abbrev Listing : Type 0
  Listing = (e - (i + 1) ≤ 8) × ((j : ℕ) → i < j → j < e → kind_at t j ≡ 3)

  names-alone : all_from t 3 4 (i + 1) e ≡ true → (j : ℕ) → i < j → j < e → kind_at t j ≡ 3
  names-alone h j a b = let r = (all-inside t 3 4 (i + 1) e h).1 j (omega arith) b in omega (arith, r.0, r.1)

  pub form-function : kind ≡ 1 → Form t kind i e → Listing
  form-function q (function a b c) = (omega arith, names-alone b)
  form-function q (early a b c) = none_of (c q)
  form-function q (naming a b c d f) = none_of (omega arith)
  form-function q (address a b c d) = none_of (omega arith)
  form-function q (setting a b c d) = none_of (omega arith)
  form-function q (going a b c) = none_of (omega arith)
  form-function q (calling a b c d) = none_of (omega arith)
  form-function q (returning a b) = none_of (omega arith)
  form-function q (giving a b c d) = none_of (omega arith)
  form-function q (testing a b c d) = none_of (omega arith)
  form-function q (late a b) = none_of (omega arith)
