-- The names that the statements of an accepted source use stand in the order of its tokens; so the first use of a label is its least.
-- Assumes nothing.
use mathlib.Core.Path.{◌≡◌, refl, sym, ◌∙◌, ap, subst}
use mathlib.Core.Bool.{Bool, true, false}
use mathlib.Core.List.{List, [], ◌∷◌, ◌++◌}
use Prim.Native.Nat.{ℕ, zero, suc, ◌+◌, ◌-◌, ◌≤◌, ◌<◌}
use native.Mathlib.Decide.{ℕ_discrete}
use native.Mathlib.Omega.{arith}
use lib.Dec.{ltb}
use lib.ListN.{length}
use borrow.Author.Tests.{lt-ltb, le-ltb}
use Rattle.base_prelude.specs.Choice.{pick, if_lt, if_eq, if_true}
use Rattle.base_prelude.proofs.Choice.{either, either-eq, either_true, if_lt-yes, if_lt-no, if_eq-yes, if_eq-no, if_true-yes, if_true-no, true-false}
use Rattle.base_limits.specs.declared.Width.{Width}
use Rattle.parse_lines.specs.Tokens.{kind_at, word_at, skip, all_from}
use Rattle.parse_lines.proofs.Scans.{skip-from}
use Rattle.parse_shapes.specs.Shapes.{is_name, is_operator, operands_from, call_from, operator_from, operand_at, symbol_from, expression_from}
use Rattle.parse_outline.specs.Outline.{outline_of}
use Rattle.parse_outline.specs.Outline as outline
use Rattle.parse_outline.specs.Parsed as answer
use Rattle.parse_verdict.specs.Verdict.{All}
use Rattle.prog_tables.specs.Layout.{call_expression}
use Rattle.prog_tables.specs.Statement.{row_at}
use Rattle.res_skeleton.specs.Skeleton.{skeleton_of}
use Rattle.res_scope.specs.Lines.{first_token, end_token}
use Rattle.res_scope.specs.Parts.{parts, symbol_parts, expression_parts, return_parts, lists_operands, plain_parts, parts_of}
use Rattle.res_scope.specs.declared.Parts.{Parts}
use Rattle.res_names.specs.Uses.{operand_name, operand_names, callee_names, head_names, body_names, uses_in, or_else, first_among, means_label, first_use_from, first_use}
use Rattle.thm_outline.proofs.Forms.{Form, function, early, naming, address, setting, going, calling, returning, giving, testing, late, row-form, row-order}
use Rattle.thm_outline.proofs.Lines.{row_line}
use Rattle.thm_acceptance.proofs.Order.{rows-ordered}

-- ---- numbers that do not fall, from lo to hi

abbrev pub Run : ℕ → List ℕ → ℕ → Type 0
Run lo [] hi = lo ≤ hi
Run lo (i ∷ is) hi = (lo ≤ i) × Run i is hi

run-lower : (a b hi : ℕ) (is : List ℕ) → a ≤ b → Run b is hi → Run a is hi
run-lower a b hi [] l h = omega arith
run-lower a b hi (i ∷ is) l h = (omega (arith, h.0), h.1)

run-append : (a b hi : ℕ) (is js : List ℕ) → Run a is b → Run b js hi → Run a (is ++ js) hi
run-append a b hi [] js h g = run-lower a b hi js h g
run-append a b hi (i ∷ is) js h g = (h.0, run-append i b hi is js h.1 g)

all_map : (P Q : ℕ → Type 0) → ((x : ℕ) → P x → Q x) → (xs : List ℕ) → All P xs → All Q xs
all_map P Q f [] h = tt
all_map P Q f (x ∷ xs) h = (f x h.0, all_map P Q f xs h.1)

run-above : (lo hi : ℕ) (is : List ℕ) → Run lo is hi → All (λ (i : ℕ). lo ≤ i) is
run-above lo hi [] h = tt
run-above lo hi (i ∷ is) h = (h.0, all_map (λ (x : ℕ). i ≤ x) (λ (x : ℕ). lo ≤ x) (λ x g. omega (arith, h.0)) is (run-above i hi is h.1))

run_ends : (lo hi : ℕ) (is : List ℕ) → Run lo is hi → lo ≤ hi
run_ends lo hi [] h = h
run_ends lo hi (i ∷ is) h = omega (arith, h.0, run_ends i hi is h.1)

-- ---- the first that passes

or_some : (a b : ℕ) → (a ≡ 0 → ⊥) → or_else a b ≡ a
unfolding or_else
or_some a b d = if_eq-no b a d

or-first : (a b : ℕ) → a ≡ 0 → or_else a b ≡ b
unfolding or_else
or-first a b e = if_eq-yes b a e

first-cons : (p : ℕ → Bool) (i : ℕ) (is : List ℕ) → first_among p (i ∷ is) ≡ or_else (pick (p i) i 0) (first_among p is)
unfolding first_among
first-cons p i is = refl

module _ (p : ℕ → Bool) where
  first-yes : (i : ℕ) (is : List ℕ) → 1 ≤ i → p i ≡ true → first_among p (i ∷ is) ≡ i
  first-yes i is l e =
      first-cons p i is ∙ ap (λ (b : Bool). or_else (pick b i 0) (first_among p is)) e ∙ or_some i (first_among p is) (λ z. let y : ⊥ = omega arith in y)

  first-no : (i : ℕ) (is : List ℕ) → p i ≡ false → first_among p (i ∷ is) ≡ first_among p is
  first-no i is e = first-cons p i is ∙ ap (λ (b : Bool). or_else (pick b i 0) (first_among p is)) e ∙ or-first 0 (first_among p is) refl

  first-nil : first_among p [] ≡ 0
  unfolding first_among
  first-nil = refl

  -- it stands among them
  first-high : (lo hi : ℕ) (is : List ℕ) → 1 ≤ lo → Run lo is hi → first_among p is ≤ hi
  first-high lo hi [] l h = omega (arith, first-nil)
  first-high lo hi (i ∷ is) l h = by (p i) refl (first-high i hi is (omega (arith, h.0)) h.1)
    where
      by : (b : Bool) → p i ≡ b → first_among p is ≤ hi → first_among p (i ∷ is) ≤ hi
      by true e g = omega (arith, first-yes i is (omega (arith, h.0)) e, run_ends i hi is h.1)
      by false e g = omega (arith, first-no i is e)

  -- where it is not below e, none is
  least-row : (e lo hi : ℕ) (is : List ℕ) → 1 ≤ lo → Run lo is hi → ((first_among p is ≡ 0 → ⊥) → e ≤ first_among p is) → All (λ (i : ℕ). p i ≡ true → e ≤ i) is
  least-row e lo hi [] l h f = tt
  least-row e lo hi (i ∷ is) l h f = by (p i) refl (λ g. least-row e i hi is (omega (arith, h.0)) h.1 g)
    where
      by : (b : Bool) → p i ≡ b → (((first_among p is ≡ 0 → ⊥) → e ≤ first_among p is) → All (λ (i : ℕ). p i ≡ true → e ≤ i) is) → All (λ (i : ℕ). p i ≡ true → e ≤ i) (i ∷ is)
      by true q g =
          let y : first_among p (i ∷ is) ≡ i = first-yes i is (omega (arith, h.0)) q in
          let z : e ≤ i = omega (arith, y, f (λ v. let w : ⊥ = omega (arith, y, h.0) in w)) in
          (λ _. z, all_map (λ (x : ℕ). i ≤ x) (λ (x : ℕ). p x ≡ true → e ≤ x) (λ x k _. omega arith) is (run-above i hi is h.1))
      by false q g =
          (λ v. true-false (sym v ∙ q), g (λ d. let y = first-no i is q in omega (arith, f (λ v. d (sym y ∙ v)), y)))

  -- and where none is below e, it is not
  row-least : (e : ℕ) (is : List ℕ) → All (λ (i : ℕ). p i ≡ true → e ≤ i) is → (first_among p is ≡ 0 → ⊥) → e ≤ first_among p is
  row-least e [] h d = absurd (d first-nil)
  row-least e (i ∷ is) h d = by (p i) refl (row-least e is h.1)
    where
      by : (b : Bool) → p i ≡ b → ((first_among p is ≡ 0 → ⊥) → e ≤ first_among p is) → e ≤ first_among p (i ∷ is)
      by true q g =
          elim (ℕ_discrete i 0) [
            | yes z ↦ let y : first_among p (i ∷ is) ≡ first_among p is = first-cons p i is ∙ ap (λ (b : Bool). or_else (pick b i 0) (first_among p is)) q ∙ or-first i (first_among p is) z in
                omega (arith, y, g (λ v. d (y ∙ v)))
            | no z ↦ omega (arith, first-yes i is (omega arith) q, h.0 q)
          ]
      by false q g = let y = first-no i is q in omega (arith, y, g (λ v. d (y ∙ v)))

-- ---- the names of a statement

operand-run : (t : List ℕ) (i : ℕ) → Run i (operand_name t i) i
unfolding operand_name
operand-run t i =
    either-eq (λ (is : List ℕ). Run i is i) (kind_at t i) 3 _ _ (λ _. (omega arith, omega arith)) (λ _.
    either-eq (λ (is : List ℕ). Run i is i) (kind_at t i) 5 _ _ (λ _. (omega arith, omega arith)) (λ _. omega arith))

operands-run : (left : ℕ) (t : List ℕ) (i : ℕ) → Run i (operand_names left t i) (i + left)
unfolding operand_names
operands-run zero t i = omega arith
operands-run (suc left) t i =
    let e : i + 1 + left ≡ i + suc left = omega arith in
    subst (Run i (operand_name t i ++ operand_names left t (i + 1))) e
    (run-append i i (i + 1 + left) (operand_name t i) (operand_names left t (i + 1)) (operand-run t i) (run-lower i (i + 1) (i + 1 + left) (operand_names left t (i + 1)) (omega arith) (operands-run left t (i + 1))))

callee-run : (i lo hi : ℕ) → lo ≤ hi → ((i ≡ 0 → ⊥) → (lo ≤ i) × (i ≤ hi)) → Run lo (callee_names i) hi
unfolding callee_names
callee-run i lo hi l f = either-eq (λ (is : List ℕ). Run lo is hi) i 0 _ _ (λ _. l) f

head-run : (t : List ℕ) (sort i : ℕ) → Run i (head_names t sort i) i
unfolding head_names
head-run t sort i =
    either-eq (λ (is : List ℕ). Run i is i) sort 6 _ _ (λ _. (omega arith, omega arith)) (λ _.
    either-eq (λ (is : List ℕ). Run i is i) sort 7 _ _ (λ _. operand-run t i) (λ _.
    either-eq (λ (is : List ℕ). Run i is i) sort 10 _ _ (λ _. (omega arith, omega arith)) (λ _. omega arith)))

-- the parts of a statement from token i to before e
record Within (i e : ℕ) (p : Parts) : Type 0 where
  pub low : i ≤ p.first
  pub high : p.first ≤ e
  pub callee : (p.callee ≡ 0 → ⊥) → (i ≤ p.callee) × (p.callee ≤ p.first)

within_none : (i j e x : ℕ) → i ≤ j → j ≤ e → Within i e (parts x 0 j)
within_none i j e x a b = record { low = a; high = b; callee = λ d. absurd (d refl) }

reach : (t : List ℕ) (i e : ℕ) → operands_from t i e ≡ true → i ≤ e
unfolding operands_from all_from
reach t i e = either-eq (λ (b : Bool). b ≡ true → i ≤ e) (skip t 3 9 i) e true false (λ q _. omega (arith, skip-from t 3 9 i)) (λ _ q. true-false (sym q))

call-reach : (t : List ℕ) (i e : ℕ) → call_from t i e ≡ true → i + 1 ≤ e
unfolding call_from
call-reach t i e = either_true (λ (b : Bool). b ≡ true → i + 1 ≤ e) (is_name t i) _ _ (λ _ h. reach t (i + 1) e h) (λ _ q. true-false (sym q))

operator-reach : (t : List ℕ) (i e : ℕ) → operator_from t i e ≡ true → i + 1 ≤ e
unfolding operator_from
operator-reach t i e = either-eq (λ (b : Bool). b ≡ true → i + 1 ≤ e) _ _ _ _ (λ _ h. reach t (i + 1) e h) (λ _ q. true-false (sym q))

operand-reach : (t : List ℕ) (i e : ℕ) → operand_at t i e ≡ true → i ≤ e
unfolding operand_at
operand-reach t i e = either-eq (λ (b : Bool). b ≡ true → i ≤ e) e (i + 1) _ _ (λ q _. omega arith) (λ _ q. true-false (sym q))

-- two choices by one test
both-eq : (P : Bool → Parts → Type 0) (a b : ℕ) (x y : Bool) (p q : Parts) → (a ≡ b → P x p) → ((a ≡ b → ⊥) → P y q) → P (if_eq a b x y) (if_eq a b p q)
both-eq P a b x y p q f g =
    elim (ℕ_discrete a b) [
      | yes e ↦ subst (λ (v : Bool). P v (if_eq a b p q)) (sym (if_eq-yes x y e)) (subst (P x) (sym (if_eq-yes p q e)) (f e))
      | no d ↦ subst (λ (v : Bool). P v (if_eq a b p q)) (sym (if_eq-no x y d)) (subst (P y) (sym (if_eq-no p q d)) (g d))
    ]

both_true : (P : Bool → Parts → Type 0) (c x y : Bool) (p q : Parts) → P x p → P y q → P (if_true c x y) (if_true c p q)
unfolding if_true
both_true P true x y p q f g = f
both_true P false x y p q f g = g

symbol-within : (t : List ℕ) (j e : ℕ) → symbol_from t j e ≡ true → Within j e (symbol_parts (word_at t j) j)
unfolding symbol_from symbol_parts
symbol-within t j e =
    both-eq (λ b p. b ≡ true → Within j e p) (word_at t j) 14 _ _ _ _
    (λ _ h. record { low = omega arith; high = omega (arith, call-reach t (j + 1) e h); callee = λ _. (omega arith, omega arith) })
    (λ _. both_true (λ b p. b ≡ true → Within j e p) (is_operator (word_at t j)) _ _ _ _
    (λ h. within_none j (j + 1) e _ (omega arith) (operator-reach t j e h)) (λ h. within_none j j e _ (omega arith) (operand-reach t j e h)))

expression-within : (t : List ℕ) (j e : ℕ) → expression_from t j e ≡ true → Within j e (expression_parts t j)
unfolding expression_from expression_parts
expression-within t j e =
    both_true (λ b p. b ≡ true → Within j e p) (is_name t j) _ _ _ _ (symbol-within t j e) (λ h. within_none j j e _ (omega arith) (operand-reach t j e h))

module _ (t : List ℕ) (k i e : ℕ) where
  at_return : k ≡ 13 → parts_of t k i e ≡ return_parts t (i + 1) e
  unfolding parts_of
  at_return q = if_eq-yes _ _ q

  at-early : k < 5 → parts_of t k i e ≡ parts 0 0 e
  unfolding parts_of
  at-early l = if_eq-no _ _ (λ z. omega arith) ∙ if_lt-yes _ _ l

  at-expression : 5 ≤ k → k < 8 → parts_of t k i e ≡ expression_parts t (i + 2)
  unfolding parts_of
  at-expression a b = if_eq-no _ _ (λ z. omega arith) ∙ if_lt-no _ _ a ∙ if_lt-yes _ _ b

  at_plain : 8 ≤ k → (k ≡ 13 → ⊥) → parts_of t k i e ≡ plain_parts k i e
  unfolding parts_of
  at_plain a d = if_eq-no _ _ d ∙ if_lt-no _ _ (let z : 5 ≤ k = omega arith in z) ∙ if_lt-no _ _ a

  lists-low : 8 ≤ k → k < 10 → lists_operands k ≡ true
  unfolding lists_operands
  lists-low a b = if_lt-no _ _ a ∙ if_lt-yes _ _ b

  lists-test : 14 ≤ k → k < 20 → lists_operands k ≡ true
  unfolding lists_operands
  lists-test a b = if_lt-no _ _ (let z : 8 ≤ k = omega arith in z) ∙ if_lt-no _ _ (let z : 10 ≤ k = omega arith in z) ∙ if_lt-no _ _ a ∙ lt-ltb k 20 b

  lists-middle : 10 ≤ k → k < 14 → lists_operands k ≡ false
  unfolding lists_operands
  lists-middle a b = if_lt-no _ _ (let z : 8 ≤ k = omega arith in z) ∙ if_lt-no _ _ a ∙ if_lt-yes _ _ b

  lists-late : 20 ≤ k → lists_operands k ≡ false
  unfolding lists_operands
  lists-late a =
      if_lt-no _ _ (let z : 8 ≤ k = omega arith in z) ∙ if_lt-no _ _ (let z : 10 ≤ k = omega arith in z) ∙ if_lt-no _ _ (let z : 14 ≤ k = omega arith in z) ∙ le-ltb k 20 a

  plain-operands : lists_operands k ≡ true → plain_parts k i e ≡ parts 0 0 (i + 1)
  unfolding plain_parts
  plain-operands h = if_true-yes _ _ h

  plain-none : lists_operands k ≡ false → (k ≡ 11 → ⊥) → (k ≡ 12 → ⊥) → plain_parts k i e ≡ parts 0 0 e
  unfolding plain_parts
  plain-none h a b = if_true-no _ _ h ∙ if_eq-no _ _ a ∙ if_eq-no _ _ b

  plain-call : lists_operands k ≡ false → 11 ≤ k → k < 13 → plain_parts k i e ≡ parts call_expression (i + 1) (i + 2)
  unfolding plain_parts
  plain-call h a b =
      if_true-no _ _ h ∙ elim (ℕ_discrete k 11) [
        | yes q ↦ if_eq-yes _ _ q
        | no d ↦ if_eq-no _ _ d ∙ if_eq-yes _ _ (let z : k ≡ 12 = omega arith in z)
      ]

  return-bare : e ≤ i + 1 → return_parts t (i + 1) e ≡ parts 0 0 e
  unfolding return_parts
  return-bare l = if_lt-no _ _ l

  return-some : i + 1 < e → return_parts t (i + 1) e ≡ expression_parts t (i + 1)
  unfolding return_parts
  return-some l = if_lt-yes _ _ l

  abbrev Is : Parts → Type 0
  Is p = Within (i + 1) e p

  lower : (p : Parts) → Within (i + 2) e p → Is p
  lower p h = record { low = omega (arith, h.low); high = h.high; callee = λ d. (omega (arith, (h.callee d).0), (h.callee d).1) }

  parts_within : i < e → Form t k i e → Is (parts_of t k i e)
  parts_within l (function a b c) = subst Is (sym (at-early (omega arith))) (within_none (i + 1) e e 0 (omega arith) (omega arith))
  parts_within l (early a b c) = subst Is (sym (at-early a)) (within_none (i + 1) e e 0 (omega arith) (omega arith))
  parts_within l (naming a b c d f) = subst Is (sym (at-expression a (omega arith))) (lower (expression_parts t (i + 2)) (expression-within t (i + 2) e d))
  parts_within l (address a b c d) = subst Is (sym (at-expression (omega arith) (omega arith))) (lower (expression_parts t (i + 2)) (expression-within t (i + 2) e c))
  parts_within l (setting a b c d) =
      subst Is (sym (at_plain a (λ z. omega arith) ∙ plain-operands (lists-low a b))) (within_none (i + 1) (i + 1) e 0 (omega arith) (omega arith))
  parts_within l (going a b c) =
      subst Is (sym (at_plain (omega arith) (λ z. omega arith) ∙ plain-none (lists-middle (omega arith) (omega arith)) (λ z. omega arith) (λ z. omega arith)))
      (within_none (i + 1) e e 0 (omega arith) (omega arith))
  parts_within l (calling a b c d) =
      subst Is (sym (at_plain (omega arith) (λ z. omega arith) ∙ plain-call (lists-middle (omega arith) (omega arith)) a b))
      (record { low = omega arith; high = omega (arith, call-reach t (i + 1) e c); callee = λ _. (omega arith, omega arith) })
  parts_within l (returning a b) = subst Is (sym (at_return a ∙ return-bare b)) (within_none (i + 1) e e 0 (omega arith) (omega arith))
  parts_within l (giving a b c d) = subst Is (sym (at_return a ∙ return-some b)) (expression-within t (i + 1) e c)
  parts_within l (testing a b c d) =
      subst Is (sym (at_plain (omega arith) (λ z. omega arith) ∙ plain-operands (lists-test a b))) (within_none (i + 1) (i + 1) e 0 (omega arith) (omega arith))
  parts_within l (late a b) =
      subst Is (sym (at_plain (omega arith) (λ z. omega arith) ∙ plain-none (lists-late a) (λ z. omega arith) (λ z. omega arith)))
      (within_none (i + 1) e e 0 (omega arith) (omega arith))

uses-run : (t k : List ℕ) (r : ℕ) → Within (first_token k r + 1) (end_token k r) (parts_of t (row_at k r).kind (first_token k r) (end_token k r))
    → Run (first_token k r + 1) (uses_in t k r) (end_token k r)
unfolding uses_in body_names
uses-run t k r h =
    let i = first_token k r + 1 in
    let e = end_token k r in
    let p = parts_of t (row_at k r).kind (first_token k r) (end_token k r) in
    let q : p.first + (e - p.first) ≡ e = omega (arith, h.high) in
    run-append i i e (head_names t (row_at k r).kind i) (callee_names p.callee ++ operand_names (e - p.first) t p.first) (head-run t (row_at k r).kind i)
    (run-append i p.first e (callee_names p.callee) (operand_names (e - p.first) t p.first) (callee-run p.callee i p.first h.low h.callee)
    (subst (Run p.first (operand_names (e - p.first) t p.first)) q (operands-run (e - p.first) t p.first)))

-- ---- statement after statement

-- what an accepted source's rows have
pub record InOrder (t k : List ℕ) (c : ℕ) : Type 0 where
  pub runs : (r : ℕ) → r < c → Run (first_token k r + 1) (uses_in t k r) (end_token k r)
  pub rows : (r : ℕ) → r < c → first_token k r < end_token k r
  pub steps : (r : ℕ) → r + 1 < c → end_token k r ≤ first_token k (r + 1)

later : (t k : List ℕ) (c : ℕ) → InOrder t k c → (d r : ℕ) → r + suc d < c → end_token k r ≤ first_token k (r + suc d)
later t k c o zero r h = let e : r + 1 ≡ r + suc 0 = omega arith in subst (λ (v : ℕ). end_token k r ≤ first_token k v) e (o.steps r (omega arith))
later t k c o (suc d) r h =
    let e : r + suc d + 1 ≡ r + suc (suc d) = omega arith in
    subst (λ (v : ℕ). end_token k r ≤ first_token k v) e (omega (arith, later t k c o d r (omega arith), o.rows (r + suc d) (omega arith), o.steps (r + suc d) (omega arith)))

module _ (same : ℕ → ℕ → Bool) (t k y : List ℕ) (l c j e : ℕ) where
  abbrev means : ℕ → ℕ → Bool
  means r = means_label same k y l r j

  -- no use in statement r is below token e
  abbrev pub NoneBelow : ℕ → Type 0
  NoneBelow r = All (λ (i : ℕ). means_label same k y l r j i ≡ true → e ≤ i) (uses_in t k r)

  from_cons : (left r : ℕ) → first_use_from (suc left) same t k y l j r ≡ or_else (first_among (means r) (uses_in t k r)) (first_use_from left same t k y l j (r + 1))
  unfolding first_use_from
  from_cons left r = refl

  from-nil : (r : ℕ) → first_use_from 0 same t k y l j r ≡ 0
  unfolding first_use_from
  from-nil r = refl

  uses-none : (o : InOrder t k c) (left r : ℕ) → r + left ≤ c → ((first_use_from left same t k y l j r ≡ 0 → ⊥) → e ≤ first_use_from left same t k y l j r)
      → (q : ℕ) → r ≤ q → q < r + left → NoneBelow q
  uses-none o zero r h f q a b = let z : ⊥ = omega arith in absurd z
  uses-none o (suc left) r h f q a b =
      elim (ℕ_discrete (first_among (means r) (uses_in t k r)) 0) [
        | yes z ↦
            let v : first_use_from (suc left) same t k y l j r ≡ first_use_from left same t k y l j (r + 1) = from_cons left r ∙ or-first _ _ z in
            elim (ℕ_discrete r q) [
              | yes s ↦ subst NoneBelow s (least-row (means r) e (first_token k r + 1) (end_token k r) (uses_in t k r) (omega arith) (o.runs r (omega arith)) (λ d. absurd (d z)))
              | no s ↦ uses-none o left (r + 1) (omega arith) (λ d. omega (arith, v, f (λ x. d (sym v ∙ x)))) q (omega arith) (omega arith)
            ]
        | no z ↦
            let v : first_use_from (suc left) same t k y l j r ≡ first_among (means r) (uses_in t k r) = from_cons left r ∙ or_some _ _ z in
            let x : e ≤ first_among (means r) (uses_in t k r) = omega (arith, v, f (λ d. z (sym v ∙ d))) in
            elim (ℕ_discrete r q) [
              | yes s ↦ subst NoneBelow s (least-row (means r) e (first_token k r + 1) (end_token k r) (uses_in t k r) (omega arith) (o.runs r (omega arith)) (λ _. x))
              | no s ↦
                  let g : r + suc (q - r - 1) ≡ q = omega arith in
                  let w : end_token k r ≤ first_token k q = subst (λ (i : ℕ). end_token k r ≤ first_token k i) g (later t k c o (q - r - 1) r (omega arith)) in
                  let u : first_among (means r) (uses_in t k r) ≤ end_token k r = first-high (means r) (first_token k r + 1) (end_token k r) (uses_in t k r) (omega arith) (o.runs r (omega arith)) in
                  all_map (λ (i : ℕ). first_token k q + 1 ≤ i) (λ (i : ℕ). means q i ≡ true → e ≤ i) (λ i m _. omega arith) (uses_in t k q) (run-above (first_token k q + 1) (end_token k q) (uses_in t k q) (o.runs q (omega arith)))
            ]
      ]

  none-uses : (left r : ℕ) → ((q : ℕ) → r ≤ q → q < r + left → NoneBelow q) → (first_use_from left same t k y l j r ≡ 0 → ⊥) → e ≤ first_use_from left same t k y l j r
  none-uses zero r f d = absurd (d (from-nil r))
  none-uses (suc left) r f d =
      elim (ℕ_discrete (first_among (means r) (uses_in t k r)) 0) [
        | yes z ↦ let v : first_use_from (suc left) same t k y l j r ≡ first_use_from left same t k y l j (r + 1) = from_cons left r ∙ or-first _ _ z in
            omega (arith, v, none-uses left (r + 1) (λ q a b. f q (omega arith) (omega arith)) (λ x. d (v ∙ x)))
        | no z ↦ let v : first_use_from (suc left) same t k y l j r ≡ first_among (means r) (uses_in t k r) = from_cons left r ∙ or_some _ _ z in
            omega (arith, v, row-least (means r) e (uses_in t k r) (f r (omega arith) (omega arith)) z)
      ]

  -- the first use is the least
  pub first-least : InOrder t k c → ((first_use same t k y l c j ≡ 0 → ⊥) → e ≤ first_use same t k y l c j) → (r : ℕ) → r < c → NoneBelow r
  unfolding first_use
  first-least o f r h = uses-none o c 0 (omega arith) f r (omega arith) (omega arith)

  pub least_first : ((r : ℕ) → r < c → NoneBelow r) → (first_use same t k y l c j ≡ 0 → ⊥) → e ≤ first_use same t k y l c j
  unfolding first_use
  least_first f d = none-uses c 0 (λ q a b. f q (omega arith)) d

-- the rows of an accepted source are in order
pub outline-order : (w : Width) (t : List ℕ) (n c l : ℕ) (x y : List ℕ) → length t ≡ 32768 → outline_of w t n ≡ outline.parsed (answer.accepted c l) x y → InOrder t (skeleton_of x c) c
outline-order w t n c l x y e h =
    record {
      runs = λ r g.
          let z = row_line w t n c l x y e h r g in
          uses-run t (skeleton_of x c) r (parts_within t (row_at (skeleton_of x c) r).kind (first_token (skeleton_of x c) r) (end_token (skeleton_of x c) r) (row-order w t n _ _ _ _ z) (row-form w t n _ _ _ _ z));
      rows = λ r g. row-order w t n _ _ _ _ (row_line w t n c l x y e h r g);
      steps = rows-ordered w t n c l x y e h;
    }
