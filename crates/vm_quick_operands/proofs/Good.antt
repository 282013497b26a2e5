-- What is tested and read at once is good, and gives what the definitions of the machine give.
-- Assumes nothing.
use Rattle.std.proofs.Common.{Err, None, Option, Some}
use Rattle.vm_definitions.specs.Operands.{Worked, valued}
use mathlib.Core.Path.{◌≡◌, refl, sym, ◌∙◌}
use mathlib.Core.Bool.{Bool, true, false}
use mathlib.Core.List.{List}
use Prim.Native.Nat.{ℕ, suc, ◌+◌, ◌<◌, ◌≤◌}
use native.Mathlib.Omega.{arith}
use lib.ListN.{get_or, take}
use borrow.Author.Tests.{ne_eqb, lt-ltb, le-ltb}
use Rattle.base_prelude.specs.Choice.{if_lt, if_eq, if_true}
use Rattle.base_prelude.proofs.Choice.{true-false, either, either-eq}
use Rattle.base_limits.specs.declared.Width.TheVariants.{Bits32}
use Rattle.prog_tables.specs.Tests.{some, some_of}
use Rattle.prog_tables.specs.Statement.{Row, has_expression, is_test, is_operator, is_call_expression, expression_uses, used_by, operand_at, slots, row_from, row_at}
use Rattle.prog_tables.specs.Program.{Program, lent_program}
use Rattle.prog_tables.specs.Nesting.{is_listed, has_target}
use Rattle.prog_tables.specs.Faults.{expression_listed, in_function, size_at, operand_fault, kind_fault, target_fault, function_fault, import_fault, callee_fault, size_fault, has_word, word_fault, operands_fault, address_fault, row_fault}
use Rattle.prog_tables.specs.declared.Operand.{Operand}
use Rattle.lang_words.specs.Words.{least_operands}
use Rattle.prog_tables.proofs.CallRows.{bare-call, bare-import}
use Rattle.vm_definitions.specs.Operands.{read_of, on_read}
use Rattle.vm_definitions.specs.Expressions.{eval_of}
use Rattle.vm_definitions.specs.Operators.{fetched, applied}
use Rattle.vm_quick_operands.specs.Fast.{good_read, one_read, two_read, good_work, size_of}

pub bad-got : {P : Type 0} (x : ℕ) → None ≡ Some x → P
bad-got x e = absurd (let z : ◌≡◌ {A = ℕ} 0 1 = cc in omega arith)

pub stop-value : {P : Type 0} (k v top : ℕ) → Err k ≡ valued v top → P
stop-value k v top e = absurd (let z : ◌≡◌ {A = ℕ} 0 1 = cc in omega arith)

-- ---- operands

module _ (size d : ℕ) (st : List ℕ) (s : ℕ) (m : List ℕ) (o : Operand) (x : ℕ) where
  pub record Sound : Type 0 where
    pub good : operand_fault size d o ≡ false
    pub word : read_of Bits32 st s m o ≡ Some x

  pub good-read : good_read size d st s m o ≡ Some x → Sound
  unfolding good_read if_true
  good-read = by (operand_fault size d o) refl
    where
      by : (b : Bool) → operand_fault size d o ≡ b → if_true b None (read_of Bits32 st s m o) ≡ Some x → Sound
      by true e q = bad-got x q
      by false e q = record { good = e; word = q }

-- ---- expressions

operator-uses : (b : Bool) (m j : ℕ) → if_true b m 0 ≡ suc j → b ≡ true
unfolding if_true
operator-uses true m j h = refl
operator-uses false m j h = absurd (omega (arith, h))

zero-not : (e : ℕ) → is_operator e ≡ true → e ≡ 0 → ⊥
unfolding is_operator if_lt
zero-not e o z = true-false (sym (rw z at o))

two-not : (e j : ℕ) → expression_uses e 0 ≡ suc j → e ≡ 2 → ⊥
unfolding expression_uses if_eq
two-not e j h z = let q : ◌≡◌ {A = ℕ} 0 (suc j) = rw z at h in omega arith

three-not : (e j : ℕ) → expression_uses e 0 ≡ suc j → e ≡ 3 → ⊥
unfolding expression_uses if_eq
three-not e j h z = let q : ◌≡◌ {A = ℕ} 0 (suc j) = rw z at h in omega arith

-- no call
no_call : (e j : ℕ) → expression_uses e 0 ≡ suc j → is_call_expression e ≡ false
unfolding is_call_expression if_eq
no_call e j h = rw (ne_eqb e 2 (two-not e j h), ne_eqb e 3 (three-not e j h))

-- an operator: neither a plain operand nor a call
module _ (e j : ℕ) (q : e ≡ 1 → ⊥) (h : expression_uses e 0 ≡ suc j) where
  is-operator : is_operator e ≡ true
  unfolding expression_uses if_eq
  is-operator = operator-uses (is_operator e) (least_operands e) j (rw (ne_eqb e 1 q, ne_eqb e 2 (two-not e j h), ne_eqb e 3 (three-not e j h)) at h)

  operator-listed : (k : ℕ) → expression_listed k e ≡ true
  unfolding expression_listed if_eq if_true
  operator-listed k = rw (ne_eqb e 0 (zero-not e is-operator), ne_eqb e 1 q, no_call e j h) is-operator

  operator-takes : (n : ℕ) → expression_uses e n ≡ suc j
  unfolding expression_uses if_eq if_true
  operator-takes n = rw (ne_eqb e 1 q, ne_eqb e 2 (two-not e j h), ne_eqb e 3 (three-not e j h)) (rw (ne_eqb e 1 q, ne_eqb e 2 (two-not e j h), ne_eqb e 3 (three-not e j h)) at h)

  operator-least : least_operands e ≡ suc j
  unfolding expression_uses if_eq if_true
  operator-least = rw (ne_eqb e 1 q, ne_eqb e 2 (two-not e j h), ne_eqb e 3 (three-not e j h), is-operator) at h

plain-takes : (e n : ℕ) → e ≡ 1 → expression_uses e n ≡ 1
unfolding expression_uses if_eq
plain-takes e n q = rw q

plain-listed : (e k : ℕ) → e ≡ 1 → expression_listed k e ≡ true
unfolding expression_listed if_eq
plain-listed e k q = rw q

module _ (t : List ℕ) (at size d : ℕ) (st : List ℕ) (s : ℕ) (m : List ℕ) (top v end : ℕ) where
  abbrev kind : ℕ
  kind = get_or t (at + 6) 0

  -- the expression is listed, no call, has good operands and this value; j arguments are said not to matter
  pub record Valued : Type 0 where
    pub listed : (k : ℕ) → expression_listed k kind ≡ true
    pub bare : is_call_expression kind ≡ false
    pub operands : (j : ℕ) → some_of (operand_fault size d) (take (expression_uses kind j) (slots t at)) ≡ false
    pub worked : (j : ℕ) → eval_of Bits32 st s m top kind (take (expression_uses kind j) (slots t at)) ≡ valued v end

  one_plain : (x : ℕ) → kind ≡ 1 → Sound size d st s m (operand_at t (at + 11)) x → valued x top ≡ valued v end → Valued
  unfolding some_of slots eval_of is_call_expression if_eq fetched
  one_plain x q o h =
      record {
        listed = λ k. plain-listed kind k q;
        bare = rw q;
        operands = λ j. rw (plain-takes kind j q, o.good);
        worked = λ j. rw (plain-takes kind j q, q, o.word) h;
      }

  one-operator : (x : ℕ) → (kind ≡ 1 → ⊥) → expression_uses kind 0 ≡ 1 → Sound size d st s m (operand_at t (at + 11)) x → applied Bits32 m top kind x 0 ≡ valued v end → Valued
  unfolding some_of slots eval_of if_eq on_read
  one-operator x q u o h =
      record {
        listed = operator-listed kind 0 q u;
        bare = no_call kind 0 u;
        operands = λ j. rw (operator-takes kind 0 q u j, o.good);
        worked = λ j. rw (operator-takes kind 0 q u j, ne_eqb kind 1 q, o.word, operator-least kind 0 q u) h;
      }

  two-operator : (x y : ℕ) → (kind ≡ 1 → ⊥) → expression_uses kind 0 ≡ 2 → Sound size d st s m (operand_at t (at + 11)) x → Sound size d st s m (operand_at t (at + 13)) y
      → applied Bits32 m top kind x y ≡ valued v end → Valued
  unfolding some_of slots eval_of if_eq on_read
  two-operator x y q u o p h =
      record {
        listed = operator-listed kind 1 q u;
        bare = no_call kind 1 u;
        operands = λ j. rw (operator-takes kind 1 q u j, o.good, p.good);
        worked = λ j. rw (operator-takes kind 1 q u j, ne_eqb kind 1 q, o.word, p.word, operator-least kind 1 q u) h;
      }

  from_one : expression_uses kind 0 ≡ 1 → one_read t at size d st s m top kind ≡ valued v end → Valued
  unfolding one_read on_read
  from_one u = by (good_read size d st s m (operand_at t (at + 11))) refl
    where
      by : (r : Option ℕ) → good_read size d st s m (operand_at t (at + 11)) ≡ r
          → on_read r (Err 32) (λ x. if_eq kind 1 (valued x top) (applied Bits32 m top kind x 0)) ≡ valued v end → Valued
      by None e h = stop-value 32 v end h
      by (Some x) e h =
          either-eq (λ (w : Worked). w ≡ valued v end → Valued) kind 1 (valued x top) (applied Bits32 m top kind x 0)
          (λ q. one_plain x q (good-read size d st s m (operand_at t (at + 11)) x e))
          (λ q. one-operator x q u (good-read size d st s m (operand_at t (at + 11)) x e)) h

  not_plain : expression_uses kind 0 ≡ 2 → kind ≡ 1 → ⊥
  not_plain u q = let z : ◌≡◌ {A = ℕ} 1 2 = sym (plain-takes kind 0 q) ∙ u in omega arith

  from-two : expression_uses kind 0 ≡ 2 → two_read t at size d st s m top kind ≡ valued v end → Valued
  unfolding two_read on_read
  from-two u = by (good_read size d st s m (operand_at t (at + 11))) (good_read size d st s m (operand_at t (at + 13))) refl refl
    where
      by : (r q : Option ℕ) → good_read size d st s m (operand_at t (at + 11)) ≡ r → good_read size d st s m (operand_at t (at + 13)) ≡ q
          → on_read r (Err 32) (λ x. on_read q (Err 32) (applied Bits32 m top kind x)) ≡ valued v end → Valued
      by None q e g h = stop-value 32 v end h
      by (Some x) None e g h = stop-value 32 v end h
      by (Some x) (Some y) e g h =
          two-operator x y (not_plain u) u (good-read size d st s m (operand_at t (at + 11)) x e) (good-read size d st s m (operand_at t (at + 13)) y g) h

  pub good-work : good_work t at size d st s m top ≡ valued v end → Valued
  unfolding good_work
  good-work =
      either-eq (λ (w : Worked). w ≡ valued v end → Valued) (expression_uses kind 0) 1 (one_read t at size d st s m top kind)
      (if_eq (expression_uses kind 0) 2 (two_read t at size d st s m top kind) (Err 0))
      from_one
      (λ n. either-eq (λ (w : Worked). w ≡ valued v end → Valued) (expression_uses kind 0) 2 (two_read t at size d st s m top kind) (Err 0)
      from-two (λ k. stop-value 0 v end))

-- ---- rows

-- a row whose causes are all absent
pub no-fault : (p : Program) (n : ℕ) → kind_fault p n ≡ false → target_fault p n ≡ false → callee_fault p n ≡ false → size_fault p n ≡ false
    → word_fault p n ≡ false → operands_fault p n ≡ false → address_fault p n ≡ false → row_fault p n ≡ false
unfolding row_fault some
no-fault p n e1 e2 e3 e4 e5 e6 e7 = rw (e1, e2, e3, e4, e5, e6, e7)

-- row g is a good `function` row with this frame size
pub record Function (f : ℕ → Row) (c g size : ℕ) : Type 0 where
  pub below : g < c
  pub kind : (f g).kind ≡ 1
  pub words : (f g).a ≡ size
  pub least : 3 + (f g).b ≤ size

module _ (t : List ℕ) (c g size : ℕ) (h : Function (row_at t) c g size) where
  pub function-good : (lw : List ℕ) (lc d : ℕ) → row_fault (lent_program t c lw lc d) g ≡ false
  unfolding kind_fault target_fault callee_fault function_fault import_fault size_fault word_fault operands_fault address_fault is_listed has_expression has_target is_test has_word used_by
      if_lt if_eq if_true row_at row_from some_of
  function-good lw lc d =
      let e = h.kind in
      no-fault (lent_program t c lw lc d) g (rw e) (rw e) (rw (e, bare-call 1 (row_at t g).expr refl refl, bare-import 1 (row_at t g).expr refl refl)) (rw (e, h.words, le-ltb _ _ h.least)) (rw e) (rw e) (rw e)

  -- of a row of this function
  module _ (n : ℕ) (e : (row_at t n).func ≡ g) where
    pub row_within : in_function (row_at t) c n ≡ true
    unfolding in_function
    row_within = rw (e, lt-ltb _ _ h.below, h.kind)

    pub row-size : size_at (row_at t) c n ≡ size
    unfolding size_at if_true
    row-size = rw (row_within, e, h.words)

module _ (f : ℕ → Row) (c g size : ℕ) (n : size ≡ 0 → ⊥) where
  none : 0 ≡ size → Function f c g size
  none e = absurd (n (sym e))

  pub size-function : size_of f c g ≡ size → Function f c g size
  unfolding size_of
  size-function =
      either (λ (x : ℕ). x ≡ size → Function f c g size) g c _ 0
      (λ l. either-eq (λ (x : ℕ). x ≡ size → Function f c g size) (f g).kind 1 _ 0
      (λ k. either (λ (x : ℕ). x ≡ size → Function f c g size) (f g).a (3 + (f g).b) 0 (f g).a (λ q. none)
      (λ q e. record { below = l; kind = k; words = e; least = rw (← e) q }))
      (λ k. none))
      (λ l. none)
