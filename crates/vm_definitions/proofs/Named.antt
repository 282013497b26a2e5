-- A step without a 35 stands at a statement whose kind `effect_of` names: its last branch is never taken.
-- Assumes nothing.
use mathlib.Core.Path.{◌≡◌, refl, sym, ◌∙◌, ap, subst}
use mathlib.Core.Bool.{Bool, true, false}
use mathlib.Core.List.{List, ◌∷◌}
use Prim.Native.Nat.{ℕ, suc, ◌<◌, ◌≤◌}
use native.Mathlib.Omega.{arith}
use borrow.Author.Tests.{ltb-true, ltb-false, leb-false, eq-eqb, eqb-false}
use lib.Dec.{eqb, ltb}
use lib.ListN.{length}
use Rattle.base_prelude.specs.Choice.{if_lt, if_eq, if_true}
use Rattle.base_prelude.proofs.Choice.{true-false, if_lt-yes, if_lt-no, either-eq}
use Rattle.base_limits.specs.declared.Machine.{Machine}
use Rattle.lang_kinds.specs.Kinds as kind
use Rattle.prog_tables.specs.Tests.{both, one_of, some}
use Rattle.prog_tables.specs.Statement.{Row, has_expression, is_test, is_call_expression}
use Rattle.prog_tables.specs.Nesting.{is_listed}
use Rattle.prog_tables.specs.Program.{Program}
use Rattle.prog_tables.specs.Faults.{kind_fault, row_fault}
use Rattle.prog_tables.proofs.Each.{one-no, one-rest}
use Rattle.vm_definitions.specs.Frames.{is_return, is_calling}
use Rattle.vm_definitions.specs.Broken.{lower, lowest, or_else, next_bad, rows_used, next_past, record_fault, step_broken}
use Rattle.vm_definitions.specs.Step.{World, Effect, effect_else, effect_of}
use Rattle.vm_definitions.specs.declared.Broken.{Broken}
use Rattle.vm_definitions.specs.declared.Broken.TheVariants.{No, At, Somewhere}

-- ---- what a step without a 35 says of its row

abbrev is_no : Broken → Bool
is_no No = true
is_no (At i) = false
is_no Somewhere = false

apart : {P : Type 0} (i : ℕ) → At i ≡ No → P
apart i e = true-false (sym (ap is_no e))

somewhere-not : {P : Type 0} → Somewhere ≡ No → P
somewhere-not e = true-false (sym (ap is_no e))

else-first : (a b : Broken) → or_else a b ≡ No → a ≡ No
unfolding or_else
else-first No b e = refl
else-first (At i) b e = e
else-first Somewhere b e = e

else-second : (a b : Broken) → or_else a b ≡ No → b ≡ No
unfolding or_else
else-second No b e = e
else-second (At i) b e = apart i e
else-second Somewhere b e = somewhere-not e

not_taken : (t : Bool) (x : Broken) → if_true t Somewhere x ≡ No → t ≡ false
unfolding if_true
not_taken true x e = somewhere-not e
not_taken false x e = refl

other-taken : (t : Bool) (x : Broken) → if_true t Somewhere x ≡ No → x ≡ No
unfolding if_true
other-taken true x e = somewhere-not e
other-taken false x e = e

lower-not : {P : Type 0} (i : ℕ) (b : Broken) → lower i b ≡ No → P
unfolding lower
lower-not i No e = apart _ e
lower-not i (At j) e = apart _ e
lower-not i Somewhere e = apart _ e

lowest-first : (q : ℕ → Bool) (i : ℕ) (is : List ℕ) → lowest q (i ∷ is) ≡ No → q i ≡ false
unfolding lowest if_true
lowest-first q i is e = step (q i) refl e
  where
    step : (t : Bool) → q i ≡ t → if_true t (lower i (lowest q is)) (lowest q is) ≡ No → t ≡ false
    step true d h = lower-not i _ h
    step false d h = refl

module _ (p : Program) (r : Machine) (st : List ℕ) (m : ℕ) (h : step_broken p r st m ≡ No) where
  next_low : r.next < p.count
  unfolding step_broken record_fault some next_past
  next_low =
      let e = not_taken _ _ (else-second _ _ (other-taken p.statements_past _ h)) in leb-false _ _ (one-no _ _ (one-rest p.labels_past _ e))

  row-judged : one_of (row_fault p r.next) (both (eqb r.next r.next) (next_bad p.rows p.count r.next)) ≡ false
  unfolding step_broken rows_used
  row-judged =
      lowest-first (λ i. one_of (row_fault p i) (both (eqb i r.next) (next_bad p.rows p.count i))) r.next _
      (ap (lowest _) (sym (if_lt-yes _ _ next_low)) ∙ else-first _ _ (other-taken p.statements_past _ h))

  row_listed : is_listed (p.rows r.next).kind ≡ true
  unfolding row_fault kind_fault some if_true
  row_listed = step (is_listed (p.rows r.next).kind) _ (one-no _ _ (one-no (row_fault p r.next) _ row-judged))
    where
      step : (t x : Bool) → if_true t x true ≡ false → t ≡ true
      step true x e = refl
      step false x e = true-false e

  row-not-function : (p.rows r.next).kind ≡ kind.function → ⊥
  unfolding next_bad
  row-not-function =
      eqb-false _ _ (one-no _ _ (subst (λ (t : Bool). both t (next_bad p.rows p.count r.next) ≡ false) (eq-eqb r.next r.next refl) (one-rest (row_fault p r.next) _ row-judged)))

-- ---- kinds

listed-kind : (k : ℕ) → is_listed k ≡ true → (0 < k) × (k < kind.past_rows)
unfolding is_listed
listed-kind k e = either-eq (λ (b : Bool). b ≡ true → (0 < k) × (k < kind.past_rows)) k kind.edge false (ltb k kind.past_rows) (λ d q. true-false (sym q)) (λ d q. (omega arith, ltb-true _ _ q)) e

no_test : (k : ℕ) → is_test k ≡ false → kind.ifeq ≤ k → kind.else ≤ k
unfolding is_test
no_test k e h = ltb-false _ _ (sym (if_lt-no false (ltb k kind.else) h) ∙ e)

no_call : (r : Row) → is_calling r ≡ false → r.kind ≡ kind.call → ⊥
unfolding is_calling
no_call r e = eqb-false _ _ (one-no _ _ e)

no_end : (r : Row) → is_return r ≡ false → r.kind ≡ kind.end_function → ⊥
unfolding is_return
no_end r e = eqb-false _ _ (one-no _ _ e)

-- a `return` is a call or a return
no_return : (r : Row) → is_calling r ≡ false → is_return r ≡ false → r.kind ≡ kind.return → ⊥
unfolding is_calling is_return has_expression if_lt if_true
no_return r c e k =
    step (is_call_expression r.expr)
    (subst (λ (i : ℕ). both (has_expression i) (is_call_expression r.expr) ≡ false) k (one-rest (eqb r.kind kind.call) _ c))
    (subst (λ (i : ℕ). both (eqb i kind.return) (if_true (is_call_expression r.expr) false true) ≡ false) k (one-rest (eqb r.kind kind.end_function) _ e))
  where
    step : (t : Bool) → t ≡ false → if_true t false true ≡ false → ⊥
    step true a b = true-false a
    step false a b = true-false b

above : (n k : ℕ) → n ≤ k → (k ≡ n → ⊥) → suc n ≤ k
above n k h ne = omega arith

-- every kind of a statement is one of those of `effect_of`
all_named : (k : ℕ) → (0 < k) × (k < kind.past_rows) → (k ≡ kind.function → ⊥) → (k ≡ kind.end_function → ⊥) → (k ≡ kind.call → ⊥) → (k ≡ kind.return → ⊥)
    → (kind.ifeq ≤ k → kind.else ≤ k) → (k ≡ kind.block → ⊥) → (k ≡ kind.end_block → ⊥) → (k ≡ kind.let_local → ⊥) → (k ≡ kind.set → ⊥) → (k ≡ kind.set_at → ⊥)
    → (k ≡ kind.set_byte → ⊥) → (k ≡ kind.set_word → ⊥) → (k ≡ kind.tail_call → ⊥) → (k ≡ kind.end_if → ⊥) → (k ≡ kind.goto → ⊥) → (k ≡ kind.else → ⊥)
    → (k ≡ kind.else_if → ⊥) → ⊥
all_named k low nf ne nc nr t nb neb nl ns na ny nw ntc ni ng nel nei =
    let block : kind.block ≤ k = above _ k (above _ k low.0 nf) ne in
    let set : kind.set ≤ k = above _ k (above _ k (above _ k block nb) neb) nl in
    let goto : kind.goto ≤ k = above _ k (above _ k (above _ k (above _ k set ns) na) ny) nw in
    let test : kind.ifeq ≤ k = above _ k (above _ k (above _ k (above _ k goto ng) nc) ntc) nr in
    let past : kind.past_rows ≤ k = above _ k (above _ k (above _ k (t test) nel) nei) ni in
    omega (arith, low.1)

-- ---- the last branch

same_true : (t : Bool) (x y z : Effect) → (t ≡ false → y ≡ z) → if_true t x y ≡ if_true t x z
unfolding if_true
same_true true x y z h = refl
same_true false x y z h = h refl

same-eq : (i j : ℕ) (x y z : Effect) → ((i ≡ j → ⊥) → y ≡ z) → if_eq i j x y ≡ if_eq i j x z
unfolding if_eq if_true
same-eq i j x y z h = same_true (eqb i j) x y z (λ e. h (eqb-false i j e))

-- "35 is given exactly for [..] a kind not listed; a next statement on a `function` line": what stands in the last branch of
-- `effect_of` makes no difference to a step
pub no_other : (p : Program) (x : World) → step_broken p x.machine x.stack (length x.memory) ≡ No → (e : Effect) → effect_else p x e ≡ effect_of p x
unfolding effect_of
no_other p x h e =
    same_true (is_calling r) _ _ _ (λ c.
    same_true (is_return r) _ _ _ (λ v.
    same_true (is_test r.kind) _ _ _ (λ t.
    same-eq r.kind kind.block _ _ _ (λ nb.
    same-eq r.kind kind.end_block _ _ _ (λ neb.
    same-eq r.kind kind.let_local _ _ _ (λ nl.
    same-eq r.kind kind.set _ _ _ (λ ns.
    same-eq r.kind kind.set_at _ _ _ (λ na.
    same-eq r.kind kind.set_byte _ _ _ (λ ny.
    same-eq r.kind kind.set_word _ _ _ (λ nw.
    same-eq r.kind kind.tail_call _ _ _ (λ ntc.
    same-eq r.kind kind.end_if _ _ _ (λ ni.
    same-eq r.kind kind.goto _ _ _ (λ ng.
    same-eq r.kind kind.else _ _ _ (λ nel.
    same-eq r.kind kind.else_if _ _ _ (λ nei.
    absurd
    (all_named r.kind (listed-kind _ (row_listed p x.machine x.stack (length x.memory) h))
    (row-not-function p x.machine x.stack (length x.memory) h) (no_end r v) (no_call r c) (no_return r c v) (no_test r.kind t) nb neb nl ns na ny nw ntc ni ng nel nei))))))))))))))))
  where
    r : Row
    r = p.rows x.machine.next
