-- What the statement of each kind does, and what its row has.
-- Assumes nothing.
use Rattle.vm_definitions.specs.Operands.{valued}
use mathlib.Core.Path.{◌≡◌, refl, sym, ◌∙◌, ap}
use mathlib.Core.Bool.{Bool, true, false}
use mathlib.Core.List.{List, [], ◌∷◌}
use Prim.Native.Nat.{ℕ, suc, ◌+◌, ◌*◌, ◌<◌, ◌≤◌}
use native.Mathlib.Omega.{arith}
use lib.Dec.{eqb, ltb}
use borrow.Author.Tests.{eq-eqb, ne_eqb, lt-ltb, le-ltb}
use Rattle.base_prelude.specs.Choice.{pick, if_lt, if_eq, if_true}
use lib.Arith.{lt_of_le-ne}
use Rattle.base_prelude.proofs.Choice.{true-false, either, either-eq}
use Rattle.base_limits.specs.declared.Width.{Width}
use Rattle.base_limits.specs.declared.Width.TheVariants.{Bits32}
use Rattle.base_limits.specs.declared.Machine.{Machine}
use Rattle.prog_tables.specs.Layout.{call_expression, no_expression}
use Rattle.prog_tables.specs.Tests.{both, one_of}
use Rattle.prog_tables.specs.Statement.{Row, has_expression, is_test, is_call_row, is_call, is_import, is_call_expression, expression_uses, used_by, row_at}
use Rattle.prog_tables.specs.Program.{Program}
use Rattle.prog_tables.specs.Faults.{expression_listed}
use Rattle.vm_definitions.specs.Frames.{is_return, is_calling, importing, leaves_good}
use Rattle.vm_definitions.specs.Step.{World, Effect, row_of, block_of, end_block_of, test_of, set_at_of, goes_to, call_of, return_of, returned, worked_of, effect_of}
use Rattle.vm_calls.specs.Outcomes.{calling, at_calling, tail_calling, handing, assigning, setting_byte, setting_word, Expressed, Calls}
use Rattle.vm_statements.specs.Ready.{Ready, setting_local}
use Rattle.prog_tables.proofs.Each.{one-true}
use Rattle.prog_tables.proofs.Ranges.{test-least}
use Rattle.prog_tables.proofs.CallRows.{bare-call, bare-import}

-- ---- kinds

none-high : (k : ℕ) → 14 ≤ k → has_expression k ≡ false
unfolding has_expression if_lt
none-high k h = rw (le-ltb k 5 (omega arith), le-ltb k 8 (omega arith), ne_eqb k 13 (λ e. omega arith))

-- a test has no expression and calls nothing
pub test-bare : (k : ℕ) → is_test k ≡ true → has_expression k ≡ false
test-bare k e = none-high k (test-least k e)

pub test-row : (k : ℕ) → is_test k ≡ true → is_call_row k ≡ false
test-row k h = let l = test-least k h in rw (ne_eqb k 11 (λ q. omega (arith, l, q)), ne_eqb k 12 (λ q. omega (arith, l, q)))

pub test-uncalled : (k e : ℕ) → is_test k ≡ true → is_call k e ≡ false
test-uncalled k e h = bare-call k e (test-bare k h) (test-row k h)

pub test-own : (k e : ℕ) → is_test k ≡ true → is_import k e ≡ false
test-own k e h = bare-import k e (test-bare k h) (test-row k h)

no-expression : (k : ℕ) → (k ≡ 5 → ⊥) → (k ≡ 6 → ⊥) → (k ≡ 7 → ⊥) → (k ≡ 13 → ⊥) → has_expression k ≡ false
unfolding has_expression
no-expression k a b d e =
    either (λ (z : Bool). z ≡ false) k 5 false _ (λ h. refl)
    (λ h. either (λ (z : Bool). z ≡ false) k 8 true (eqb k 13)
    (λ l. absurd (d (omega (arith, lt_of_le-ne (lt_of_le-ne h (λ q. a (sym q))) (λ q. b (sym q)), l)))) (λ l. ne_eqb k 13 e))

-- ---- what a statement does

module _ (prog : Program) (x : World) where
  abbrev f : ℕ → Row
  f = prog.rows

  abbrev kind : ℕ
  kind = (f x.machine.next).kind

  abbrev expr : ℕ
  expr = (f x.machine.next).expr

  pub of_end : kind ≡ 2 → effect_of prog x ≡ handing 0 prog x
  unfolding effect_of is_calling is_return has_expression return_of returned if_true if_eq if_lt
  of_end e = rw e

  pub of-block : kind ≡ 3 → effect_of prog x ≡ block_of prog x
  unfolding effect_of is_calling is_return is_test has_expression if_true if_eq if_lt
  of-block e = rw e

  pub of-end-block : kind ≡ 4 → effect_of prog x ≡ end_block_of prog x
  unfolding effect_of is_calling is_return is_test has_expression if_true if_eq if_lt
  of-end-block e = rw e

  pub of-let : kind ≡ 5 → effect_of prog x ≡ setting_local prog x
  unfolding effect_of is_calling is_return is_test has_expression call_of if_true if_eq if_lt
  of-let e = rw e

  pub of-set : kind ≡ 6 → effect_of prog x ≡ setting_local prog x
  unfolding effect_of is_calling is_return is_test has_expression call_of if_true if_eq if_lt
  of-set e = rw e

  pub of-at-call : kind ≡ 7 → expr ≡ 2 → effect_of prog x ≡ at_calling prog x
  unfolding effect_of is_calling has_expression is_call_expression call_of if_true if_eq if_lt
  of-at-call e d = rw (e, d)

  pub of_at : kind ≡ 7 → is_call_expression expr ≡ false → effect_of prog x ≡ set_at_of prog x
  unfolding effect_of is_calling is_return is_test has_expression if_true if_eq if_lt
  of_at e d = rw (e, d)

  pub of-set-byte : kind ≡ 8 → effect_of prog x ≡ setting_byte prog x
  unfolding effect_of is_calling is_return is_test has_expression if_true if_eq if_lt
  of-set-byte e = rw e

  pub of-set-word : kind ≡ 9 → effect_of prog x ≡ setting_word prog x
  unfolding effect_of is_calling is_return is_test has_expression if_true if_eq if_lt
  of-set-word e = rw e

  pub of-call : kind ≡ 11 → effect_of prog x ≡ calling prog x
  unfolding effect_of is_calling call_of if_true if_eq
  of-call e = rw e

  pub of-tail-call : kind ≡ 12 → effect_of prog x ≡ tail_calling prog x
  unfolding effect_of is_calling is_return is_test has_expression if_true if_eq if_lt
  of-tail-call e = rw e

  pub of-return-call : kind ≡ 13 → expr ≡ 2 → effect_of prog x ≡ calling prog x
  unfolding effect_of is_calling has_expression is_call_expression call_of if_true if_eq if_lt
  of-return-call e d = rw (e, d)

  pub of-return-bare : kind ≡ 13 → expr ≡ 0 → effect_of prog x ≡ handing 0 prog x
  unfolding effect_of is_calling is_return has_expression is_call_expression return_of returned if_true if_eq if_lt
  of-return-bare e d = rw (e, d)

  pub of-return : kind ≡ 13 → (expr ≡ 0 → ⊥) → is_call_expression expr ≡ false → effect_of prog x ≡ returned prog x (worked_of prog x)
  unfolding effect_of is_calling is_return has_expression return_of if_true if_eq if_lt
  of-return e d q = rw (e, ne_eqb _ _ d, q)

  pub of_test : is_test kind ≡ true → effect_of prog x ≡ test_of prog x
  unfolding effect_of is_calling is_return if_true
  of_test e =
      let h = test-least kind e in
      rw (ne_eqb kind 11 (λ q. omega (arith, h, q)), none-high kind h, ne_eqb kind 2 (λ q. omega (arith, h, q)), ne_eqb kind 13 (λ q. omega (arith, h, q)), e)

  pub of-end-if : kind ≡ 22 → effect_of prog x ≡ goes_to prog x (suc x.machine.next)
  unfolding effect_of is_calling is_return is_test has_expression if_true if_eq if_lt
  of-end-if e = rw e

  abbrev jumps : Effect
  jumps = goes_to prog x (f x.machine.next).a

  last-kinds : is_test kind ≡ false → (kind ≡ 2 → ⊥) → (kind ≡ 3 → ⊥) → (kind ≡ 4 → ⊥) → (kind ≡ 5 → ⊥) → (kind ≡ 6 → ⊥) → (kind ≡ 7 → ⊥) → (kind ≡ 8 → ⊥)
      → (kind ≡ 9 → ⊥) → (kind ≡ 11 → ⊥) → (kind ≡ 12 → ⊥) → (kind ≡ 13 → ⊥) → (kind ≡ 22 → ⊥)
      → effect_of prog x ≡ if_eq kind 10 jumps (if_eq kind 20 jumps (if_eq kind 21 jumps jumps))
  unfolding effect_of is_calling is_return if_true if_eq
  last-kinds t a2 a3 a4 a5 a6 a7 a8 a9 a11 a12 a13 a22 =
      rw (
        ne_eqb kind 11 a11,
        no-expression kind a5 a6 a7 a13,
        ne_eqb kind 2 a2,
        ne_eqb kind 13 a13,
        t,
        ne_eqb kind 3 a3,
        ne_eqb kind 4 a4,
        ne_eqb kind 5 a5,
        ne_eqb kind 6 a6,
        ne_eqb kind 7 a7,
        ne_eqb kind 8 a8,
        ne_eqb kind 9 a9,
        ne_eqb kind 12 a12,
        ne_eqb kind 22 a22,
      )

  pub of-jump : is_test kind ≡ false → (kind ≡ 2 → ⊥) → (kind ≡ 3 → ⊥) → (kind ≡ 4 → ⊥) → (kind ≡ 5 → ⊥) → (kind ≡ 6 → ⊥) → (kind ≡ 7 → ⊥) → (kind ≡ 8 → ⊥)
      → (kind ≡ 9 → ⊥) → (kind ≡ 11 → ⊥) → (kind ≡ 12 → ⊥) → (kind ≡ 13 → ⊥) → (kind ≡ 22 → ⊥) → effect_of prog x ≡ jumps
  of-jump t a2 a3 a4 a5 a6 a7 a8 a9 a11 a12 a13 a22 =
      last-kinds t a2 a3 a4 a5 a6 a7 a8 a9 a11 a12 a13 a22
      ∙ either-eq (λ (z : Effect). z ≡ jumps) kind 10 jumps _ (λ q. refl)
      (λ q. either-eq (λ (z : Effect). z ≡ jumps) kind 20 jumps _ (λ q. refl)
      (λ q. either-eq (λ (z : Effect). z ≡ jumps) kind 21 jumps jumps (λ q. refl) (λ q. refl)))

has-13 : (k : ℕ) → k ≡ 13 → has_expression k ≡ true
unfolding has_expression if_lt
has-13 k e = rw e

has-7 : (k : ℕ) → k ≡ 7 → has_expression k ≡ true
unfolding has_expression if_lt
has-7 k e = rw e

-- an expression that is neither a call of a function nor of an imported one
no_call : (k e : ℕ) → has_expression k ≡ true → is_import k e ≡ false → (e ≡ 2 → ⊥) → is_call_expression e ≡ false
unfolding is_import is_call_expression if_eq if_true
no_call k e h i d = rw (ne_eqb e 2 d) (by (eqb e 3) (is_call_row k) (has_expression k) h i)
  where
    by : (a b c : Bool) → c ≡ true → pick a (pick b true c) false ≡ false → a ≡ false
    by true true c h q = q
    by true false c h q = true-false (sym h ∙ q)
    by false b c h q = refl

-- only `return` may have no expression
none : (k e : ℕ) → k < 8 → e ≡ 0 → expression_listed k e ≡ true → ⊥
unfolding expression_listed if_eq
none k e l z q = true-false (sym (rw (z, ne_eqb k 13 (λ j. omega (arith, l, j))) at q))

-- ---- what a row has

call-row : (e : ℕ) → is_import 11 e ≡ false → is_call 11 e ≡ true
unfolding is_import is_call if_eq if_true
call-row e = by (eqb e 3)
  where
    by : (a : Bool) → pick a true false ≡ false → pick a false true ≡ true
    by true q = true-false q
    by false q = refl

tail-row : (e : ℕ) → is_import 12 e ≡ false → is_call 12 e ≡ true
unfolding is_import is_call if_eq if_true
tail-row e = by (eqb e 3)
  where
    by : (a : Bool) → pick a true false ≡ false → pick a false true ≡ true
    by true q = true-false q
    by false q = refl

module _ (t : List ℕ) (c : ℕ) (r : Machine) (st : List ℕ) (m : ℕ) (h : Ready (row_at t) c r st m) where
  abbrev row : Row
  row = row_at t r.next

  pub bare-calls : row.kind ≡ 11 → Calls row c
  unfolding used_by has_expression if_eq if_lt if_true
  bare-calls e = record { callee = h.callee (ap (λ (k : ℕ). is_call k row.expr) e ∙ call-row row.expr (ap (λ (k : ℕ). is_import k row.expr) (sym e) ∙ h.own)); used = rw e }

  pub tail-calls : row.kind ≡ 12 → Calls row c
  unfolding used_by has_expression if_eq if_lt if_true
  tail-calls e = record { callee = h.callee (ap (λ (k : ℕ). is_call k row.expr) e ∙ tail-row row.expr (ap (λ (k : ℕ). is_import k row.expr) (sym e) ∙ h.own)); used = rw e }

  pub expression-calls : has_expression row.kind ≡ true → row.expr ≡ 2 → Calls row c
  unfolding is_call used_by expression_uses if_eq if_true
  expression-calls e d = record { callee = h.callee (rw (d, e) (by (eqb row.kind 11) (eqb row.kind 12))); used = rw (e, d) }
    where
      by : (a b : Bool) → pick a true (pick b true true) ≡ true
      by true b = refl
      by false true = refl
      by false false = refl

  -- its expression is no call
  pub uncalled : has_expression row.kind ≡ true → (row.expr ≡ 2 → ⊥) → is_call_expression row.expr ≡ false
  uncalled e d = no_call row.kind row.expr e h.own d

  pub expression-other : has_expression row.kind ≡ true → row.kind < 8 → (row.expr ≡ 2 → ⊥) → Expressed row
  expression-other e l d = record { has = e; listed = h.listed e; some = λ z. bare (h.listed e) z; plain = uncalled e d }
    where
      bare : expression_listed row.kind row.expr ≡ true → row.expr ≡ 0 → ⊥
      bare q z = none row.kind row.expr l z q

  pub return-other : row.kind ≡ 13 → (row.expr ≡ 0 → ⊥) → (row.expr ≡ 2 → ⊥) → Expressed row
  return-other e z d = record { has = has-13 row.kind e; listed = h.listed (has-13 row.kind e); some = z; plain = uncalled (has-13 row.kind e) d }

  pub return-calls : row.kind ≡ 13 → row.expr ≡ 2 → Calls row c
  return-calls e d = expression-calls (has-13 row.kind e) d

  pub at-calls : row.kind ≡ 7 → row.expr ≡ 2 → Calls row c
  at-calls e d = expression-calls (has-7 row.kind e) d

  pub at_other : row.kind ≡ 7 → (row.expr ≡ 2 → ⊥) → Expressed row
  at_other e d = expression-other (has-7 row.kind e) (omega (arith, e)) d

  -- all frames that a return leaves are good
  pub end_leaves : row.kind ≡ 2 → leaves_good Bits32 (row_at t) c m st (suc r.frame) r.frame ≡ true
  unfolding is_return
  end_leaves e = h.leaves (rw e)

  pub return-leaves : row.kind ≡ 13 → is_call_expression row.expr ≡ false → leaves_good Bits32 (row_at t) c m st (suc r.frame) r.frame ≡ true
  unfolding is_return if_true
  return-leaves e d = h.leaves (rw (e, d))

  -- the same, from what the code has read
  module _ (e : ℕ) (d : e ≡ row.expr) where
    pub local-calls : has_expression row.kind ≡ true → e ≡ 2 → Calls row c
    local-calls q l = expression-calls q (sym d ∙ l)

    pub local-expressed : has_expression row.kind ≡ true → row.kind < 8 → (e ≡ 2 → ⊥) → Expressed row
    local-expressed q l n = expression-other q l (λ j. n (d ∙ j))

    pub at_called : row.kind ≡ 7 → e ≡ 2 → Calls row c
    at_called q l = at-calls q (sym d ∙ l)

    pub at-expressed : row.kind ≡ 7 → (e ≡ 2 → ⊥) → Expressed row
    at-expressed q n = at_other q (λ j. n (d ∙ j))

    pub return-called : row.kind ≡ 13 → e ≡ 2 → Calls row c
    return-called q l = return-calls q (sym d ∙ l)

    pub return-expressed : row.kind ≡ 13 → (e ≡ 0 → ⊥) → (e ≡ 2 → ⊥) → Expressed row
    return-expressed q z n = return-other q (λ j. z (d ∙ j)) (λ j. n (d ∙ j))

    pub bare-leaves : row.kind ≡ 13 → e ≡ 0 → leaves_good Bits32 (row_at t) c m st (suc r.frame) r.frame ≡ true
    unfolding is_call_expression if_eq
    bare-leaves q z = return-leaves q (rw (← d, z))

  pub expressed-leaves : row.kind ≡ 13 → Expressed row → leaves_good Bits32 (row_at t) c m st (suc r.frame) r.frame ≡ true
  expressed-leaves q x = return-leaves q x.plain

  -- by the kind that the code has read
  module _ (k : ℕ) (d : k ≡ row.kind) where
    pub kind-calls : k ≡ 11 → Calls row c
    kind-calls q = bare-calls (sym d ∙ q)

    pub kind-tail-calls : k ≡ 12 → Calls row c
    kind-tail-calls q = tail-calls (sym d ∙ q)

    pub kind-leaves : k ≡ 2 → leaves_good Bits32 (row_at t) c m st (suc r.frame) r.frame ≡ true
    kind-leaves q = end_leaves (sym d ∙ q)

    pub kind-let : k ≡ 5 → has_expression row.kind ≡ true
    unfolding has_expression if_lt
    kind-let q = rw (← d, q)

    pub kind-set : k ≡ 6 → has_expression row.kind ≡ true
    unfolding has_expression if_lt
    kind-set q = rw (← d, q)
