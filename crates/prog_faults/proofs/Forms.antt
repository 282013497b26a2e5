-- What a row of each kind can be broken in: the other causes do not hold.
-- Assumes nothing.
use mathlib.Core.Path.{◌≡◌, refl, sym, ◌∙◌, ap}
use mathlib.Core.Bool.{Bool, true, false}
use mathlib.Core.List.{List, [], ◌∷◌}
use Prim.Native.Nat.{ℕ, ◌<◌, ◌≤◌}
use native.Mathlib.Omega.{arith}
use lib.Dec.{eqb, ltb}
use borrow.Author.Tests.{ne_eqb, le-ltb, lt-ltb, ltb-false}
use native.Mathlib.Decide.{ℕ_discrete}
use lib.Arith.{lt_of_le-ne}
use Rattle.base_prelude.specs.Choice.{if_lt, if_eq, if_true}
use Rattle.prog_tables.specs.Tests.{one_of, some, some_of}
use Rattle.prog_tables.specs.Statement.{has_expression, is_test, is_call_row, used_by, row_from, row_at}
use Rattle.prog_tables.specs.Nesting.{is_listed, has_target}
use Rattle.prog_tables.specs.Program.{Program, lent_program}
use Rattle.prog_tables.specs.Faults.{kind_fault, target_fault, function_fault, import_fault, callee_fault, size_fault, has_word, word_fault, operands_fault, address_fault, row_fault}
use Rattle.prog_tables.proofs.Each.{one-false, one-no, one-rest}
use Rattle.prog_tables.proofs.Ranges.{test-least, test-most}
use Rattle.prog_tables.proofs.CallRows.{bare-call, bare-import}

test-bare : (k : ℕ) → 14 ≤ k → has_expression k ≡ false
unfolding has_expression if_lt
test-bare k h = rw (le-ltb k 5 (omega arith), le-ltb k 8 (omega arith), ne_eqb k 13 (λ e. omega arith))

test-no-kind : (k : ℕ) → 14 ≤ k → one_of (has_expression k) (is_call_row k) ≡ false
test-no-kind k h = rw (test-bare k h, ne_eqb k 11 (λ e. omega arith), ne_eqb k 12 (λ e. omega arith))

module _ (t : List ℕ) (c : ℕ) (l : List ℕ) (lc d n : ℕ) where
  abbrev prog : Program
  prog = lent_program t c l lc d

  abbrev kind : ℕ
  kind = (row_at t n).kind

  abbrev expr : ℕ
  expr = (row_at t n).expr

  no_kind : is_listed kind ≡ true → one_of (has_expression kind) (is_call_row kind) ≡ false → kind_fault prog n ≡ false
  unfolding kind_fault if_true
  no_kind h e = rw (h, one-no (has_expression kind) (is_call_row kind) e, one-rest (has_expression kind) (is_call_row kind) e)

  no_target : one_of (has_target kind) (eqb kind 10) ≡ false → target_fault prog n ≡ false
  unfolding target_fault
  no_target h = rw h

  no-callee : one_of (has_expression kind) (is_call_row kind) ≡ false → callee_fault prog n ≡ false
  unfolding callee_fault function_fault import_fault
  no-callee e =
      let h = one-no (has_expression kind) (is_call_row kind) e in
      let q = one-rest (has_expression kind) (is_call_row kind) e in
      rw (bare-call kind expr h q, bare-import kind expr h q)

  no_size : eqb kind 1 ≡ false → size_fault prog n ≡ false
  unfolding size_fault
  no_size h = rw h

  no_word : has_word kind ≡ false → word_fault prog n ≡ false
  unfolding word_fault
  no_word h = rw h

  no-operands : used_by kind expr (row_at t n).count ≡ 0 → operands_fault prog n ≡ false
  unfolding operands_fault row_at row_from some_of
  no-operands h = rw h

  no_address : eqb kind 7 ≡ false → address_fault prog n ≡ false
  unfolding address_fault
  no_address h = rw h

  -- what the kind alone says
  module _ (k : ℕ) (e : kind ≡ k) where
    listed : is_listed k ≡ true → is_listed kind ≡ true
    listed h = ap is_listed e ∙ h

    bare : one_of (has_expression k) (is_call_row k) ≡ false → one_of (has_expression kind) (is_call_row kind) ≡ false
    bare h = ap (λ (i : ℕ). one_of (has_expression i) (is_call_row i)) e ∙ h

    aimless : one_of (has_target k) (eqb k 10) ≡ false → one_of (has_target kind) (eqb kind 10) ≡ false
    aimless h = ap (λ (i : ℕ). one_of (has_target i) (eqb i 10)) e ∙ h

    unused : used_by k expr (row_at t n).count ≡ 0 → used_by kind expr (row_at t n).count ≡ 0
    unused h = ap (λ (i : ℕ). used_by i expr (row_at t n).count) e ∙ h

  pub of_function : kind ≡ 1 → row_fault prog n ≡ size_fault prog n
  unfolding row_fault some is_listed has_expression has_target is_test has_word used_by if_true if_eq if_lt
  of_function e =
      rw (
        no_kind (listed 1 e refl) (bare 1 e refl),
        no_target (aimless 1 e refl),
        no-callee (bare 1 e refl),
        no_word (ap has_word e),
        no-operands (unused 1 e refl),
        no_address (ap (λ (i : ℕ). eqb i 7) e),
      )
      (one-false (size_fault prog n))

  pub of_end : kind ≡ 2 → row_fault prog n ≡ false
  unfolding row_fault some is_listed has_expression has_target is_test has_word used_by if_true if_eq if_lt
  of_end e =
      rw (
        no_kind (listed 2 e refl) (bare 2 e refl),
        no_target (aimless 2 e refl),
        no-callee (bare 2 e refl),
        no_size (ap (λ (i : ℕ). eqb i 1) e),
        no_word (ap has_word e),
        no-operands (unused 2 e refl),
        no_address (ap (λ (i : ℕ). eqb i 7) e),
      )

  pub of-block : kind ≡ 3 → row_fault prog n ≡ word_fault prog n
  unfolding row_fault some is_listed has_expression has_target is_test has_word used_by if_true if_eq if_lt
  of-block e =
      rw (
        no_kind (listed 3 e refl) (bare 3 e refl),
        no_target (aimless 3 e refl),
        no-callee (bare 3 e refl),
        no_size (ap (λ (i : ℕ). eqb i 1) e),
        no-operands (unused 3 e refl),
        no_address (ap (λ (i : ℕ). eqb i 7) e),
      )
      (one-false (word_fault prog n))

  pub of-end-block : kind ≡ 4 → row_fault prog n ≡ word_fault prog n
  unfolding row_fault some is_listed has_expression has_target is_test has_word used_by if_true if_eq if_lt
  of-end-block e =
      rw (
        no_kind (listed 4 e refl) (bare 4 e refl),
        no_target (aimless 4 e refl),
        no-callee (bare 4 e refl),
        no_size (ap (λ (i : ℕ). eqb i 1) e),
        no-operands (unused 4 e refl),
        no_address (ap (λ (i : ℕ). eqb i 7) e),
      )
      (one-false (word_fault prog n))

  pub of-let : kind ≡ 5 → row_fault prog n ≡ some (kind_fault prog n ∷ callee_fault prog n ∷ word_fault prog n ∷ operands_fault prog n ∷ [])
  unfolding row_fault some is_listed has_expression has_target is_test has_word used_by if_true if_eq if_lt
  of-let e =
      rw (
        no_target (aimless 5 e refl),
        no_size (ap (λ (i : ℕ). eqb i 1) e),
        no_address (ap (λ (i : ℕ). eqb i 7) e),
      )

  pub of-set : kind ≡ 6 → row_fault prog n ≡ some (kind_fault prog n ∷ callee_fault prog n ∷ word_fault prog n ∷ operands_fault prog n ∷ [])
  unfolding row_fault some is_listed has_expression has_target is_test has_word used_by if_true if_eq if_lt
  of-set e =
      rw (
        no_target (aimless 6 e refl),
        no_size (ap (λ (i : ℕ). eqb i 1) e),
        no_address (ap (λ (i : ℕ). eqb i 7) e),
      )

  pub of-set-at : kind ≡ 7 → row_fault prog n ≡ some (kind_fault prog n ∷ callee_fault prog n ∷ operands_fault prog n ∷ address_fault prog n ∷ [])
  unfolding row_fault some is_listed has_expression has_target is_test has_word used_by if_true if_eq if_lt
  of-set-at e =
      rw (
        no_target (aimless 7 e refl),
        no_size (ap (λ (i : ℕ). eqb i 1) e),
        no_word (ap has_word e),
      )

  pub of-set-byte : kind ≡ 8 → row_fault prog n ≡ operands_fault prog n
  unfolding row_fault some is_listed has_expression has_target is_test has_word used_by if_true if_eq if_lt
  of-set-byte e =
      rw (
        no_kind (listed 8 e refl) (bare 8 e refl),
        no_target (aimless 8 e refl),
        no-callee (bare 8 e refl),
        no_size (ap (λ (i : ℕ). eqb i 1) e),
        no_word (ap has_word e),
        no_address (ap (λ (i : ℕ). eqb i 7) e),
      )
      (one-false (operands_fault prog n))

  pub of-set-word : kind ≡ 9 → row_fault prog n ≡ operands_fault prog n
  unfolding row_fault some is_listed has_expression has_target is_test has_word used_by if_true if_eq if_lt
  of-set-word e =
      rw (
        no_kind (listed 9 e refl) (bare 9 e refl),
        no_target (aimless 9 e refl),
        no-callee (bare 9 e refl),
        no_size (ap (λ (i : ℕ). eqb i 1) e),
        no_word (ap has_word e),
        no_address (ap (λ (i : ℕ). eqb i 7) e),
      )
      (one-false (operands_fault prog n))

  pub of-goto : kind ≡ 10 → row_fault prog n ≡ target_fault prog n
  unfolding row_fault some is_listed has_expression has_target is_test has_word used_by if_true if_eq if_lt
  of-goto e =
      rw (
        no_kind (listed 10 e refl) (bare 10 e refl),
        no-callee (bare 10 e refl),
        no_size (ap (λ (i : ℕ). eqb i 1) e),
        no_word (ap has_word e),
        no-operands (unused 10 e refl),
        no_address (ap (λ (i : ℕ). eqb i 7) e),
      )
      (one-false (target_fault prog n))

  pub of-call : kind ≡ 11 → row_fault prog n ≡ some (kind_fault prog n ∷ callee_fault prog n ∷ operands_fault prog n ∷ [])
  unfolding row_fault some is_listed has_expression has_target is_test has_word used_by if_true if_eq if_lt
  of-call e =
      rw (
        no_target (aimless 11 e refl),
        no_size (ap (λ (i : ℕ). eqb i 1) e),
        no_word (ap has_word e),
        no_address (ap (λ (i : ℕ). eqb i 7) e),
      )

  pub of-tail-call : kind ≡ 12 → row_fault prog n ≡ some (kind_fault prog n ∷ callee_fault prog n ∷ operands_fault prog n ∷ [])
  unfolding row_fault some is_listed has_expression has_target is_test has_word used_by if_true if_eq if_lt
  of-tail-call e =
      rw (
        no_target (aimless 12 e refl),
        no_size (ap (λ (i : ℕ). eqb i 1) e),
        no_word (ap has_word e),
        no_address (ap (λ (i : ℕ). eqb i 7) e),
      )

  pub of-return : kind ≡ 13 → row_fault prog n ≡ some (kind_fault prog n ∷ callee_fault prog n ∷ operands_fault prog n ∷ [])
  unfolding row_fault some is_listed has_expression has_target is_test has_word used_by if_true if_eq if_lt
  of-return e =
      rw (
        no_target (aimless 13 e refl),
        no_size (ap (λ (i : ℕ). eqb i 1) e),
        no_word (ap has_word e),
        no_address (ap (λ (i : ℕ). eqb i 7) e),
      )

  pub of-else : kind ≡ 20 → row_fault prog n ≡ target_fault prog n
  unfolding row_fault some is_listed has_expression has_target is_test has_word used_by if_true if_eq if_lt
  of-else e =
      rw (
        no_kind (listed 20 e refl) (bare 20 e refl),
        no-callee (bare 20 e refl),
        no_size (ap (λ (i : ℕ). eqb i 1) e),
        no_word (ap has_word e),
        no-operands (unused 20 e refl),
        no_address (ap (λ (i : ℕ). eqb i 7) e),
      )
      (one-false (target_fault prog n))

  pub of-jump : kind ≡ 21 → row_fault prog n ≡ target_fault prog n
  unfolding row_fault some is_listed has_expression has_target is_test has_word used_by if_true if_eq if_lt
  of-jump e =
      rw (
        no_kind (listed 21 e refl) (bare 21 e refl),
        no-callee (bare 21 e refl),
        no_size (ap (λ (i : ℕ). eqb i 1) e),
        no_word (ap has_word e),
        no-operands (unused 21 e refl),
        no_address (ap (λ (i : ℕ). eqb i 7) e),
      )
      (one-false (target_fault prog n))

  pub of-end-if : kind ≡ 22 → row_fault prog n ≡ false
  unfolding row_fault some is_listed has_expression has_target is_test has_word used_by if_true if_eq if_lt
  of-end-if e =
      rw (
        no_kind (listed 22 e refl) (bare 22 e refl),
        no_target (aimless 22 e refl),
        no-callee (bare 22 e refl),
        no_size (ap (λ (i : ℕ). eqb i 1) e),
        no_word (ap has_word e),
        no-operands (unused 22 e refl),
        no_address (ap (λ (i : ℕ). eqb i 7) e),
      )

  pub of_test : is_test kind ≡ true → row_fault prog n ≡ some (target_fault prog n ∷ operands_fault prog n ∷ [])
  unfolding row_fault some is_listed has_expression has_word if_true if_eq if_lt
  of_test e =
      let l = test-least kind e in
      let u = test-most kind e in
      rw (
        no_kind (rw (ne_eqb kind 0 (λ q. omega (arith, l, q)), lt-ltb kind 23 (omega (arith, u)))) (test-no-kind kind l),
        no-callee (test-no-kind kind l),
        no_size (ne_eqb kind 1 (λ q. omega (arith, l, q))),
        no_word (rw (le-ltb kind 3 (omega (arith, l)), le-ltb kind 7 (omega (arith, l)))),
        no_address (ne_eqb kind 7 (λ q. omega (arith, l, q))),
      )

  pub of-unlisted : is_listed kind ≡ false → row_fault prog n ≡ true
  unfolding row_fault some kind_fault if_true
  of-unlisted h = rw h

-- ---- a kind that is not listed

high-test : (k : ℕ) → 14 ≤ k → is_test k ≡ false → 20 ≤ k
unfolding is_test if_lt
high-test k h e = le-of-not (rw (le-ltb k 14 h) at e)
  where
    le-of-not : ltb k 20 ≡ false → 20 ≤ k
    le-of-not q = ltb-false k 20 q

pub unlisted : (k : ℕ) → is_test k ≡ false → (k ≡ 1 → ⊥) → (k ≡ 2 → ⊥) → (k ≡ 3 → ⊥) → (k ≡ 4 → ⊥) → (k ≡ 5 → ⊥) → (k ≡ 6 → ⊥) → (k ≡ 7 → ⊥) → (k ≡ 8 → ⊥)
    → (k ≡ 9 → ⊥) → (k ≡ 10 → ⊥) → (k ≡ 11 → ⊥) → (k ≡ 12 → ⊥) → (k ≡ 13 → ⊥) → (k ≡ 20 → ⊥) → (k ≡ 21 → ⊥) → (k ≡ 22 → ⊥) → is_listed k ≡ false
unfolding is_listed if_eq
unlisted k t a1 a2 a3 a4 a5 a6 a7 a8 a9 a10 a11 a12 a13 a20 a21 a22 = elim (ℕ_discrete k 0) [
  | yes z ↦ rw z
  | no z ↦
      let b1 : 1 ≤ k = up 0 (omega arith) z in
      let b2 = up 1 b1 a1 in
      let b3 = up 2 b2 a2 in
      let b4 = up 3 b3 a3 in
      let b5 = up 4 b4 a4 in
      let b6 = up 5 b5 a5 in
      let b7 = up 6 b6 a6 in
      let b8 = up 7 b7 a7 in
      let b9 = up 8 b8 a8 in
      let b10 = up 9 b9 a9 in
      let b11 = up 10 b10 a10 in
      let b12 = up 11 b11 a11 in
      let b13 = up 12 b12 a12 in
      let b14 = up 13 b13 a13 in
      let b20 = high-test k b14 t in
      let b21 = up 20 b20 a20 in
      let b22 = up 21 b21 a21 in
      let b23 = up 22 b22 a22 in
      rw (ne_eqb k 0 z, le-ltb k 23 b23)
]
  where
    up : (i : ℕ) → i ≤ k → (k ≡ i → ⊥) → i < k
    up i h q = lt_of_le-ne h (λ e. q (sym e))

-- ---- the ways through the functions

module _ (p q : Bool) (b : Bool) (e : b ≡ p) where
  pub two-first : b ≡ true → true ≡ some (p ∷ q ∷ [])
  unfolding some
  two-first h = rw (← e, h)

  pub two-second : (x : Bool) → b ≡ false → x ≡ q → x ≡ some (p ∷ q ∷ [])
  unfolding some
  two-second x h d = rw (← e, h, ← d) (sym (one-false x))

module _ (p q r : Bool) (b : Bool) (e : b ≡ p) where
  pub three-first : b ≡ true → true ≡ some (p ∷ q ∷ r ∷ [])
  unfolding some
  three-first h = rw (← e, h)

  pub three-rest : (x : Bool) → b ≡ false → x ≡ some (q ∷ r ∷ []) → x ≡ some (p ∷ q ∷ r ∷ [])
  unfolding some
  three-rest x h d = rw (← e, h) d

module _ (p q r s : Bool) (b : Bool) (e : b ≡ p) where
  pub four-first : b ≡ true → true ≡ some (p ∷ q ∷ r ∷ s ∷ [])
  unfolding some
  four-first h = rw (← e, h)

  module _ (v : Bool) (h : b ≡ false) (d : v ≡ q) where
    pub four-second : v ≡ true → true ≡ some (p ∷ q ∷ r ∷ s ∷ [])
    unfolding some
    four-second g = rw (← e, h, ← d, g)

    module _ (w : Bool) (g : v ≡ false) (i : w ≡ r) where
      pub four-third : w ≡ true → true ≡ some (p ∷ q ∷ r ∷ s ∷ [])
      unfolding some
      four-third l = rw (← e, h, ← d, g, ← i, l)

      pub four-fourth : (x : Bool) → w ≡ false → x ≡ s → x ≡ some (p ∷ q ∷ r ∷ s ∷ [])
      unfolding some
      four-fourth x l o = rw (← e, h, ← d, g, ← i, l, ← o) (sym (one-false x))

pub ruleset twos = (two-first, two-second)

pub ruleset threes = (three-first, three-rest)

pub ruleset fours = (four-first, four-second, four-third, four-fourth)

module _ (t : List ℕ) (c : ℕ) (l : List ℕ) (lc d n k : ℕ) (x : Bool) (e : k ≡ (row_at t n).kind) where
  pub row-1 : k ≡ 1 → x ≡ size_fault (lent_program t c l lc d) n → x ≡ row_fault (lent_program t c l lc d) n
  row-1 h q = q ∙ sym (of_function t c l lc d n (sym e ∙ h))

  pub row-2 : k ≡ 2 → false ≡ row_fault (lent_program t c l lc d) n
  row-2 h = sym (of_end t c l lc d n (sym e ∙ h))

  pub row-22 : k ≡ 22 → false ≡ row_fault (lent_program t c l lc d) n
  row-22 h = sym (of-end-if t c l lc d n (sym e ∙ h))

  pub row-3 : k ≡ 3 → x ≡ word_fault (lent_program t c l lc d) n → x ≡ row_fault (lent_program t c l lc d) n
  row-3 h q = q ∙ sym (of-block t c l lc d n (sym e ∙ h))

  pub row-4 : k ≡ 4 → x ≡ word_fault (lent_program t c l lc d) n → x ≡ row_fault (lent_program t c l lc d) n
  row-4 h q = q ∙ sym (of-end-block t c l lc d n (sym e ∙ h))

  pub row-5 : k ≡ 5 → x ≡ some (kind_fault (lent_program t c l lc d) n ∷ callee_fault (lent_program t c l lc d) n ∷ word_fault (lent_program t c l lc d) n ∷ operands_fault (lent_program t c l lc d) n ∷ []) → x ≡ row_fault (lent_program t c l lc d) n
  row-5 h q = q ∙ sym (of-let t c l lc d n (sym e ∙ h))

  pub row-6 : k ≡ 6 → x ≡ some (kind_fault (lent_program t c l lc d) n ∷ callee_fault (lent_program t c l lc d) n ∷ word_fault (lent_program t c l lc d) n ∷ operands_fault (lent_program t c l lc d) n ∷ []) → x ≡ row_fault (lent_program t c l lc d) n
  row-6 h q = q ∙ sym (of-set t c l lc d n (sym e ∙ h))

  pub row-7 : k ≡ 7 → x ≡ some (kind_fault (lent_program t c l lc d) n ∷ callee_fault (lent_program t c l lc d) n ∷ operands_fault (lent_program t c l lc d) n ∷ address_fault (lent_program t c l lc d) n ∷ []) → x ≡ row_fault (lent_program t c l lc d) n
  row-7 h q = q ∙ sym (of-set-at t c l lc d n (sym e ∙ h))

  pub row-8 : k ≡ 8 → x ≡ operands_fault (lent_program t c l lc d) n → x ≡ row_fault (lent_program t c l lc d) n
  row-8 h q = q ∙ sym (of-set-byte t c l lc d n (sym e ∙ h))

  pub row-9 : k ≡ 9 → x ≡ operands_fault (lent_program t c l lc d) n → x ≡ row_fault (lent_program t c l lc d) n
  row-9 h q = q ∙ sym (of-set-word t c l lc d n (sym e ∙ h))

  pub row-10 : k ≡ 10 → x ≡ target_fault (lent_program t c l lc d) n → x ≡ row_fault (lent_program t c l lc d) n
  row-10 h q = q ∙ sym (of-goto t c l lc d n (sym e ∙ h))

  pub row-11 : k ≡ 11 → x ≡ some (kind_fault (lent_program t c l lc d) n ∷ callee_fault (lent_program t c l lc d) n ∷ operands_fault (lent_program t c l lc d) n ∷ []) → x ≡ row_fault (lent_program t c l lc d) n
  row-11 h q = q ∙ sym (of-call t c l lc d n (sym e ∙ h))

  pub row-12 : k ≡ 12 → x ≡ some (kind_fault (lent_program t c l lc d) n ∷ callee_fault (lent_program t c l lc d) n ∷ operands_fault (lent_program t c l lc d) n ∷ []) → x ≡ row_fault (lent_program t c l lc d) n
  row-12 h q = q ∙ sym (of-tail-call t c l lc d n (sym e ∙ h))

  pub row-13 : k ≡ 13 → x ≡ some (kind_fault (lent_program t c l lc d) n ∷ callee_fault (lent_program t c l lc d) n ∷ operands_fault (lent_program t c l lc d) n ∷ []) → x ≡ row_fault (lent_program t c l lc d) n
  row-13 h q = q ∙ sym (of-return t c l lc d n (sym e ∙ h))

  pub row-20 : k ≡ 20 → x ≡ target_fault (lent_program t c l lc d) n → x ≡ row_fault (lent_program t c l lc d) n
  row-20 h q = q ∙ sym (of-else t c l lc d n (sym e ∙ h))

  pub row-21 : k ≡ 21 → x ≡ target_fault (lent_program t c l lc d) n → x ≡ row_fault (lent_program t c l lc d) n
  row-21 h q = q ∙ sym (of-jump t c l lc d n (sym e ∙ h))

  module _ (b : Bool) (i : b ≡ is_test k) where
    pub row-test : b ≡ true → x ≡ some (target_fault (lent_program t c l lc d) n ∷ operands_fault (lent_program t c l lc d) n ∷ []) → x ≡ row_fault (lent_program t c l lc d) n
    row-test h q = q ∙ sym (of_test t c l lc d n (ap is_test (sym e) ∙ sym i ∙ h))

    pub row_other : b ≡ false → (k ≡ 1 → ⊥) → (k ≡ 2 → ⊥) → (k ≡ 3 → ⊥) → (k ≡ 4 → ⊥) → (k ≡ 5 → ⊥) → (k ≡ 6 → ⊥) → (k ≡ 7 → ⊥) → (k ≡ 8 → ⊥)
        → (k ≡ 9 → ⊥) → (k ≡ 10 → ⊥) → (k ≡ 11 → ⊥) → (k ≡ 12 → ⊥) → (k ≡ 13 → ⊥) → (k ≡ 20 → ⊥) → (k ≡ 21 → ⊥) → (k ≡ 22 → ⊥) → true ≡ row_fault (lent_program t c l lc d) n
    row_other h a1 a2 a3 a4 a5 a6 a7 a8 a9 a10 a11 a12 a13 a20 a21 a22 =
        sym (of-unlisted t c l lc d n (ap is_listed (sym e) ∙ unlisted k (sym i ∙ h) a1 a2 a3 a4 a5 a6 a7 a8 a9 a10 a11 a12 a13 a20 a21 a22))

pub ruleset row-ways = (row-1, row-2, row-3, row-4, row-5, row-6, row-7, row-8, row-9, row-10, row-11, row-12, row-13, row-20, row-21, row-22, row-test, row_other)
