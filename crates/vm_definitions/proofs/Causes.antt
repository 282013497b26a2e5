-- A statement that calls no imported function stops exactly with the number of the first cause it meets.
-- Assumes nothing.
use Rattle.std.proofs.Common.{Err, Ok}
use Rattle.vm_definitions.specs.Operands.{Worked, valued}
use mathlib.Core.Path.{◌≡◌, refl, sym, ◌∙◌, ap, subst}
use mathlib.Core.Bool.{Bool, true, false}
use mathlib.Core.List.{List, [], ◌∷◌, ◌++◌, map}
use Prim.Native.Nat.{ℕ, suc, ◌+◌, ◌-◌, ◌*◌, ◌<◌, ◌≤◌}
use native.Mathlib.Decide.{ℕ_discrete}
use native.Mathlib.Omega.{arith}
use lib.Dec.{ltb, eqb}
use lib.ListN.{get_or, length, take, get_or-map}
use borrow.Author.Tests.{eqb-true, eq-eqb, ne_eqb, ltb-true}
use Rattle.base_prelude.specs.Choice.{pick, if_lt, if_eq, if_true}
use Rattle.base_prelude.proofs.Choice.{true-false, if_eq-yes, if_eq-no, if_true-yes, if_true-no}
use Rattle.base_limits.specs.declared.Width.{Width}
use Rattle.prog_tables.specs.Tests.{both, one_of}
use Rattle.prog_tables.specs.Statement.{Row, has_expression, is_test, is_operator, is_call_expression, expression_uses, used_by, slots, operand_at, row_from, row_at}
use Rattle.prog_tables.specs.Label.{Tables, rows}
use Rattle.prog_tables.specs.Program.{Program, program_from}
use Rattle.prog_tables.specs.Nesting.{is_listed}
use Rattle.prog_tables.specs.Faults.{expression_listed, expression_fault, kind_fault}
use Rattle.prog_tables.proofs.CallRows.{expression-listed}
use Rattle.prog_tables.specs.declared.Operand.{Operand}
use Rattle.prog_tables.specs.declared.Operand.TheVariants.{Unlisted}
use Rattle.vm_definitions.specs.Access.{byte_address, word_address, byte_good, word_good}
use Rattle.vm_definitions.specs.Operands.{is_at, number_in, read_of, on_read}
use Rattle.vm_definitions.specs.Expressions.{operand_no, test_holds}
use Rattle.vm_definitions.specs.Frames.{is_return, is_calling, importing, resumption_of}
use Rattle.vm_definitions.specs.Step.{World, Effect, stops, leaves, effect_stop, goes_to, keeps, stores, block_of, end_block_of, test_of, worked_of, assigned, assigned_at, set_at_of, set_byte_by, set_word_by, arguments_of, call_by, call_of, tail_call_by, handed_by, returned, return_of, effect_of}
use Rattle.vm_definitions.specs.Causes.{cause_of, first_of, touched, word_of, with_frame, behind_operands, reads_of, meetings_of, first_cause}
use Rattle.vm_definitions.proofs.Importing.{calls_by, plain-calls, plain-calling, plain-return, no-import}
use Rattle.vm_definitions.proofs.Operators.{stop_in, next, first-here, first-later, first_one, word_good_lem, word-bad, read-cause, all-cause, eval-cause}
use Rattle.vm_definitions.specs.Operators.{Meeting, word_at, byte_at, stacks_to, operators, line_in, operator_of, operator_meets}

-- a statement's effect by its kind and expression kind, those of its parts being given
unfoldable dispatch : ℕ → ℕ → Effect → Effect → Effect → Effect → Effect → Effect → Effect → Effect → Effect → Effect → Effect → Effect → Effect
dispatch k e call back test enter exit assign at byte word tail past jump =
    if_true (one_of (eqb k 11) (both (has_expression k) (eqb e 2))) call
    (if_true (one_of (eqb k 2) (both (eqb k 13) (if_true (eqb e 2) false true))) back
    (if_true (is_test k) test
    (if_eq k 3 enter
    (if_eq k 4 exit
    (if_eq k 5 assign
    (if_eq k 6 assign
    (if_eq k 7 at
    (if_eq k 8 byte
    (if_eq k 9 word
    (if_eq k 12 tail
    (if_eq k 22 past
    (if_eq k 10 jump
    (if_eq k 20 jump
    (if_eq k 21 jump jump))))))))))))))

-- an expression's kind, where a row has one
listed-not : {P : Type 0} (k : ℕ) → (k ≡ 13 → ⊥) → expression_listed k 0 ≡ true → P
unfolding expression_listed if_eq
listed-not k h g = absurd (h (eqb-true k 13 g))

listed-any : (k e : ℕ) → (e ≡ 0 → ⊥) → expression_listed k e ≡ true → expression_listed 13 e ≡ true
unfolding expression_listed
listed-any k e h g =
    if_eq-no (eqb 13 13) (if_eq e 1 true (if_true (is_call_expression e) true (is_operator e))) h
    ∙ sym (if_eq-no (eqb k 13) (if_eq e 1 true (if_true (is_call_expression e) true (is_operator e))) h)
    ∙ g

lent : (y : World) (b : Bool) → effect_stop (pick b (stops 33) (leaves y)) ≡ pick b 33 0
unfolding effect_stop
lent y true = refl
lent y false = refl

good : (y : World) (b : Bool) → effect_stop (if_true b (leaves y) (stops 32)) ≡ if_true b 0 32
unfolding effect_stop if_true
good y true = refl
good y false = refl

kept-or : (a b : Bool) → if_true a b true ≡ false → b ≡ false
unfolding if_true
kept-or true b e = e
kept-or false b e = true-false e

kept-first : (a b : Bool) → if_true a b true ≡ false → a ≡ true
unfolding if_true
kept-first true b e = refl
kept-first false b e = true-false e

module _ (prog : Program) (x : World) (sum last : ℕ) (own : importing (prog.rows x.machine.next) ≡ false) where
  abbrev w : Width
  w = prog.width

  abbrev f : ℕ → Row
  f = prog.rows

  abbrev c : ℕ
  c = prog.count

  abbrev r : Row
  r = f x.machine.next

  abbrev st : List ℕ
  st = x.stack

  abbrev s : ℕ
  s = x.machine.frame

  abbrev m : List ℕ
  m = x.memory

  abbrev first : List Meeting → ℕ
  first es = first_of w (length m) (length st) es

  abbrev size : ℕ
  size = (f r.callee).a

  abbrev value_of : List Operand → ℕ → ℕ
  value_of os i = word_of w st s m (operand_no os i)

  abbrev address_at : ℕ
  address_at = number_in w st s r.address

  -- what a row of kind k with expression kind e and some operands meets
  unfoldable behind_by : ℕ → ℕ → List Operand → List Meeting
  behind_by k e os =
      if_true (calls_by k e) (stacks_to (if_eq k 12 (sum - last + size) (sum + size)) ∷ [])
      (if_true (has_expression k) (operator_meets w x.machine.top e (value_of os 0) (value_of os 1))
      (if_eq k 8 (byte_at (byte_address w (value_of os 0) (value_of os 1)) ∷ [])
      (if_eq k 9 (word_at (word_address w (value_of os 0) (value_of os 1)) ∷ []) [])))

  unfoldable met_by : ℕ → ℕ → List Operand → List Meeting
  met_by k e os = (if_eq k 7 (word_at address_at ∷ []) [] ++ touched w st s os) ++ behind_by k e os

  met-is : first_cause prog sum last x ≡ first (met_by r.kind r.expr r.operands)
  unfolding first_cause meetings_of reads_of behind_operands with_frame met_by behind_by
  met-is = rw (plain-calls r.kind r.expr own)

  cause-as : (k : ℕ) (os : List Operand) → r.kind ≡ k → r.operands ≡ os → first_cause prog sum last x ≡ first (met_by k r.expr os)
  cause-as k os h q =
      met-is ∙ ap (λ (i : ℕ). first (met_by i r.expr r.operands)) h ∙ ap (λ (i : List Operand). first (met_by k r.expr i)) q

  effect_is : effect_of prog x
      ≡ dispatch r.kind r.expr (call_of prog x) (return_of prog x) (test_of prog x) (block_of prog x) (end_block_of prog x) (assigned prog x (worked_of prog x))
      (set_at_of prog x) (set_byte_by prog x (arguments_of prog x)) (set_word_by prog x (arguments_of prog x)) (tail_call_by prog x (arguments_of prog x))
      (goes_to prog x (suc x.machine.next)) (goes_to prog x r.a)
  unfolding effect_of dispatch is_calling is_return
  effect_is = rw (plain-calling r.kind r.expr own, plain-return r.kind r.expr own)

  done_by : ℕ → ℕ → Effect
  done_by k e =
      dispatch k e (call_of prog x) (return_of prog x) (test_of prog x) (block_of prog x) (end_block_of prog x) (assigned prog x (worked_of prog x))
      (set_at_of prog x) (set_byte_by prog x (arguments_of prog x)) (set_word_by prog x (arguments_of prog x)) (tail_call_by prog x (arguments_of prog x))
      (goes_to prog x (suc x.machine.next)) (goes_to prog x r.a)

  effect-as : (k : ℕ) → r.kind ≡ k → effect_of prog x ≡ done_by k r.expr
  unfolding done_by
  effect-as k h = effect_is ∙ ap (λ (i : ℕ). done_by i r.expr) h

  call-as : (k : ℕ) → r.kind ≡ k → r.expr ≡ 2 → effect_of prog x ≡ done_by k 2
  call-as k h q = effect-as k h ∙ ap (λ (i : ℕ). done_by k i) q

  Caused : Type 0
  Caused = effect_stop (effect_of prog x) ≡ first_cause prog sum last x

  -- ---- parts of statements

  assigned-stop : (k : Worked) → effect_stop (assigned prog x k) ≡ stop_in k
  unfolding effect_stop assigned stop_in keeps
  assigned-stop (Ok got) = refl
  assigned-stop (Err k) = refl

  assigned-at-stop : (k : Worked) → effect_stop (assigned_at prog x k) ≡ stop_in k
  unfolding effect_stop assigned_at stop_in stores
  assigned-at-stop (Ok got) = refl
  assigned-at-stop (Err k) = refl

  returned-stop : ((v : ℕ) → effect_stop (handed_by prog x v (resumption_of w f c st (suc s) s)) ≡ 0) → (k : Worked) → effect_stop (returned prog x k) ≡ stop_in k
  unfolding effect_stop returned stop_in
  returned-stop h (Ok got) = h got.word
  returned-stop h (Err k) = refl

  -- the address of `set @` is judged first
  at_first : (e : Effect) (es : List Meeting) → effect_stop e ≡ first es
      → effect_stop (if_true (word_good w (length m) address_at) e (stops 32)) ≡ first (word_at address_at ∷ es)
  unfolding effect_stop
  at_first e es h = by (word_good w (length m) address_at) refl
    where
      by : (b : Bool) → word_good w (length m) address_at ≡ b → effect_stop (if_true (word_good w (length m) address_at) e (stops 32)) ≡ first (word_at address_at ∷ es)
      by true q =
          ap effect_stop (if_true-yes e (stops 32) q) ∙ h ∙ sym (first-later w (length m) (length st) (word_at address_at) es (word_good_lem w (length m) (length st) address_at q))
      by false q =
          ap effect_stop (if_true-no e (stops 32) q) ∙ sym (first-here w (length m) (length st) (word_at address_at) es 31 (word-bad w (length m) (length st) address_at q))

  value-at : (os : List Operand) (i : ℕ) → get_or (map (word_of w st s m) os) i 0 ≡ value_of os i
  unfolding word_of is_at number_in if_true
  value-at os i = get_or-map (word_of w st s m) os i Unlisted

  byte-stop : effect_stop (set_byte_by prog x (arguments_of prog x))
      ≡ first (touched w st s r.operands ++ (byte_at (byte_address w (value_of r.operands 0) (value_of r.operands 1)) ∷ []))
  unfolding arguments_of set_byte_by effect_stop stores cause_of byte_good
  byte-stop =
      all-cause w st s m effect_stop (set_byte_by prog x) r.operands (byte_at (byte_address w (value_of r.operands 0) (value_of r.operands 1)) ∷ []) (length st) refl
      (good _ (byte_good (length m) (byte_address w (get_or vs 0 0) (get_or vs 1 0)))
      ∙ sym (first_one w (length m) (length st) (byte_at (byte_address w (get_or vs 0 0) (get_or vs 1 0))))
      ∙ ap (λ (v : ℕ). first (byte_at (byte_address w v (get_or vs 1 0)) ∷ [])) (value-at r.operands 0)
      ∙ ap (λ (v : ℕ). first (byte_at (byte_address w (value_of r.operands 0) v) ∷ [])) (value-at r.operands 1))
    where
      vs : List ℕ
      vs = map (word_of w st s m) r.operands

  word-stop : effect_stop (set_word_by prog x (arguments_of prog x))
      ≡ first (touched w st s r.operands ++ (word_at (word_address w (value_of r.operands 0) (value_of r.operands 1)) ∷ []))
  unfolding arguments_of set_word_by effect_stop stores cause_of word_good
  word-stop =
      all-cause w st s m effect_stop (set_word_by prog x) r.operands (word_at (word_address w (value_of r.operands 0) (value_of r.operands 1)) ∷ []) (length st) refl
      (good _ (word_good w (length m) (word_address w (get_or vs 0 0) (get_or vs 1 0)))
      ∙ sym (first_one w (length m) (length st) (word_at (word_address w (get_or vs 0 0) (get_or vs 1 0))))
      ∙ ap (λ (v : ℕ). first (word_at (word_address w v (get_or vs 1 0)) ∷ [])) (value-at r.operands 0)
      ∙ ap (λ (v : ℕ). first (word_at (word_address w (value_of r.operands 0) v) ∷ [])) (value-at r.operands 1))
    where
      vs : List ℕ
      vs = map (word_of w st s m) r.operands

  stack-stop : (y : World) (a b : ℕ) → a ≡ b → effect_stop (if_lt (length st) a (stops 33) (leaves y)) ≡ first (stacks_to b ∷ [])
  unfolding if_lt cause_of
  stack-stop y a b q =
      lent y (ltb (length st) a)
      ∙ ap (λ (i : ℕ). pick (ltb (length st) i) 33 0) q
      ∙ sym (first_one w (length m) (length st) (stacks_to b))

  module _ (used-is : x.machine.used ≡ sum) (frame_is : x.machine.frame ≡ sum - last) where
    call-stop : effect_stop (call_by prog x (arguments_of prog x)) ≡ first (touched w st s r.operands ++ (stacks_to (sum + size) ∷ []))
    unfolding arguments_of call_by effect_stop
    call-stop =
        all-cause w st s m effect_stop (call_by prog x) r.operands (stacks_to (sum + size) ∷ []) (length st) refl
        (stack-stop _ (x.machine.used + size) (sum + size) (ap (λ (i : ℕ). i + size) used-is))

    tail-stop : effect_stop (tail_call_by prog x (arguments_of prog x)) ≡ first (touched w st s r.operands ++ (stacks_to (sum - last + size) ∷ []))
    unfolding arguments_of tail_call_by effect_stop
    tail-stop =
        all-cause w st s m effect_stop (tail_call_by prog x) r.operands (stacks_to (sum - last + size) ∷ []) (length st) refl
        (stack-stop _ (x.machine.frame + size) (sum - last + size) (ap (λ (i : ℕ). i + size) frame_is))

    plain-call : (r.kind ≡ 7 → ⊥) → effect_stop (call_of prog x) ≡ first (touched w st s r.operands ++ (stacks_to (sum + size) ∷ []))
    unfolding call_of
    plain-call h =
        ap effect_stop (if_eq-no (if_true (word_good w (length m) address_at) (call_by prog x (arguments_of prog x)) (stops 32)) (call_by prog x (arguments_of prog x)) h)
        ∙ call-stop

    at_call : r.kind ≡ 7 → effect_stop (call_of prog x) ≡ first (word_at address_at ∷ (touched w st s r.operands ++ (stacks_to (sum + size) ∷ [])))
    unfolding call_of
    at_call h =
        ap effect_stop (if_eq-yes (if_true (word_good w (length m) address_at) (call_by prog x (arguments_of prog x)) (stops 32)) (call_by prog x (arguments_of prog x)) h)
        ∙ at_first (call_by prog x (arguments_of prog x)) (touched w st s r.operands ++ (stacks_to (sum + size) ∷ [])) call-stop

    module _ (o p : Operand) (rest : List Operand) (shape : r.operands ≡ take (used_by r.kind r.expr r.count) (o ∷ p ∷ rest)) where
      operands-as : (k : ℕ) → r.kind ≡ k → r.operands ≡ take (used_by k r.expr r.count) (o ∷ p ∷ rest)
      operands-as k h = shape ∙ ap (λ (i : ℕ). take (used_by i r.expr r.count) (o ∷ p ∷ rest)) h

      -- ---- statements that meet nothing

      kind_3 : r.kind ≡ 3 → Caused
      unfolding Caused done_by dispatch has_expression is_test if_true if_eq if_lt met_by behind_by calls_by used_by touched first_of effect_stop block_of keeps
      kind_3 h = ap effect_stop (effect-as 3 h) ∙ sym (cause-as 3 [] h (operands-as 3 h))

      kind-4 : r.kind ≡ 4 → Caused
      unfolding Caused done_by dispatch has_expression is_test if_true if_eq if_lt met_by behind_by calls_by used_by touched first_of effect_stop end_block_of keeps
      kind-4 h = ap effect_stop (effect-as 4 h) ∙ sym (cause-as 4 [] h (operands-as 4 h))

      kind-10 : r.kind ≡ 10 → Caused
      unfolding Caused done_by dispatch has_expression is_test if_true if_eq if_lt met_by behind_by calls_by used_by touched first_of effect_stop goes_to
      kind-10 h = ap effect_stop (effect-as 10 h) ∙ sym (cause-as 10 [] h (operands-as 10 h))

      kind-20 : r.kind ≡ 20 → Caused
      unfolding Caused done_by dispatch has_expression is_test if_true if_eq if_lt met_by behind_by calls_by used_by touched first_of effect_stop goes_to
      kind-20 h = ap effect_stop (effect-as 20 h) ∙ sym (cause-as 20 [] h (operands-as 20 h))

      kind-21 : r.kind ≡ 21 → Caused
      unfolding Caused done_by dispatch has_expression is_test if_true if_eq if_lt met_by behind_by calls_by used_by touched first_of effect_stop goes_to
      kind-21 h = ap effect_stop (effect-as 21 h) ∙ sym (cause-as 21 [] h (operands-as 21 h))

      kind-22 : r.kind ≡ 22 → Caused
      unfolding Caused done_by dispatch has_expression is_test if_true if_eq if_lt met_by behind_by calls_by used_by touched first_of effect_stop goes_to
      kind-22 h = ap effect_stop (effect-as 22 h) ∙ sym (cause-as 22 [] h (operands-as 22 h))

      -- ---- tests

      tested : List Operand → Effect
      tested os =
          on_read (read_of w st s m (operand_no os 0)) (stops 32)
          (λ a. on_read (read_of w st s m (operand_no os 1)) (stops 32)
          (λ b. goes_to prog x (if_true (test_holds w r.kind a b) (suc x.machine.next) r.a)))

      test-stop : r.operands ≡ o ∷ p ∷ [] → effect_stop (test_of prog x) ≡ first (touched w st s (o ∷ p ∷ []) ++ [])
      unfolding test_of tested effect_stop goes_to touched first_of
      test-stop q =
          ap (λ (i : List Operand). effect_stop (tested i)) q
          ∙ read-cause w st s m effect_stop (stops 32)
          (λ a. on_read (read_of w st s m p) (stops 32) (λ b. goes_to prog x (if_true (test_holds w r.kind a b) (suc x.machine.next) r.a))) o (p ∷ []) [] (length st) refl
          (read-cause w st s m effect_stop (stops 32) (λ b. goes_to prog x (if_true (test_holds w r.kind (word_of w st s m o) b) (suc x.machine.next) r.a)) p [] [] (length st) refl refl)

      kind-14 : r.kind ≡ 14 → Caused
      unfolding Caused done_by dispatch has_expression is_test if_true if_eq if_lt met_by behind_by calls_by used_by touched first_of effect_stop
      kind-14 h = ap effect_stop (effect-as 14 h) ∙ test-stop (operands-as 14 h) ∙ sym (cause-as 14 (o ∷ p ∷ []) h (operands-as 14 h))

      kind-15 : r.kind ≡ 15 → Caused
      unfolding Caused done_by dispatch has_expression is_test if_true if_eq if_lt met_by behind_by calls_by used_by touched first_of effect_stop
      kind-15 h = ap effect_stop (effect-as 15 h) ∙ test-stop (operands-as 15 h) ∙ sym (cause-as 15 (o ∷ p ∷ []) h (operands-as 15 h))

      kind-16 : r.kind ≡ 16 → Caused
      unfolding Caused done_by dispatch has_expression is_test if_true if_eq if_lt met_by behind_by calls_by used_by touched first_of effect_stop
      kind-16 h = ap effect_stop (effect-as 16 h) ∙ test-stop (operands-as 16 h) ∙ sym (cause-as 16 (o ∷ p ∷ []) h (operands-as 16 h))

      kind-17 : r.kind ≡ 17 → Caused
      unfolding Caused done_by dispatch has_expression is_test if_true if_eq if_lt met_by behind_by calls_by used_by touched first_of effect_stop
      kind-17 h = ap effect_stop (effect-as 17 h) ∙ test-stop (operands-as 17 h) ∙ sym (cause-as 17 (o ∷ p ∷ []) h (operands-as 17 h))

      kind-18 : r.kind ≡ 18 → Caused
      unfolding Caused done_by dispatch has_expression is_test if_true if_eq if_lt met_by behind_by calls_by used_by touched first_of effect_stop
      kind-18 h = ap effect_stop (effect-as 18 h) ∙ test-stop (operands-as 18 h) ∙ sym (cause-as 18 (o ∷ p ∷ []) h (operands-as 18 h))

      kind-19 : r.kind ≡ 19 → Caused
      unfolding Caused done_by dispatch has_expression is_test if_true if_eq if_lt met_by behind_by calls_by used_by touched first_of effect_stop
      kind-19 h = ap effect_stop (effect-as 19 h) ∙ test-stop (operands-as 19 h) ∙ sym (cause-as 19 (o ∷ p ∷ []) h (operands-as 19 h))

      -- ---- stores, calls

      kind-8 : r.kind ≡ 8 → Caused
      unfolding Caused done_by dispatch has_expression is_test if_true if_eq if_lt met_by behind_by calls_by used_by touched first_of effect_stop
      kind-8 h = ap effect_stop (effect-as 8 h) ∙ byte-stop ∙ sym (cause-as 8 r.operands h refl)

      kind-9 : r.kind ≡ 9 → Caused
      unfolding Caused done_by dispatch has_expression is_test if_true if_eq if_lt met_by behind_by calls_by used_by touched first_of effect_stop
      kind-9 h = ap effect_stop (effect-as 9 h) ∙ word-stop ∙ sym (cause-as 9 r.operands h refl)

      kind-11 : r.kind ≡ 11 → Caused
      unfolding Caused done_by dispatch has_expression is_test if_true if_eq if_lt met_by behind_by calls_by used_by touched first_of effect_stop
      kind-11 h = ap effect_stop (effect-as 11 h) ∙ plain-call (λ q. omega (arith, q, h)) ∙ sym (cause-as 11 r.operands h refl)

      kind-12 : r.kind ≡ 12 → Caused
      unfolding Caused done_by dispatch has_expression is_test if_true if_eq if_lt met_by behind_by calls_by used_by touched first_of effect_stop
      kind-12 h = ap effect_stop (effect-as 12 h) ∙ tail-stop ∙ sym (cause-as 12 r.operands h refl)

      -- ---- expressions

      operates : List Meeting
      operates = operator_meets w x.machine.top r.expr (value_of r.operands 0) (value_of r.operands 1)

      call-5 : r.kind ≡ 5 → r.expr ≡ 2 → Caused
      unfolding Caused done_by dispatch has_expression is_test if_true if_eq if_lt met_by behind_by calls_by used_by touched first_of effect_stop operates
      call-5 h q =
          ap effect_stop (call-as 5 h q)
          ∙ plain-call (λ d. omega (arith, d, h))
          ∙ ap (λ (i : List Meeting). first (touched w st s r.operands ++ i)) (sym (if_true-yes (stacks_to (sum + size) ∷ []) operates (eq-eqb r.expr 2 q)))
          ∙ sym (cause-as 5 r.operands h refl)

      call-6 : r.kind ≡ 6 → r.expr ≡ 2 → Caused
      unfolding Caused done_by dispatch has_expression is_test if_true if_eq if_lt met_by behind_by calls_by used_by touched first_of effect_stop operates
      call-6 h q =
          ap effect_stop (call-as 6 h q)
          ∙ plain-call (λ d. omega (arith, d, h))
          ∙ ap (λ (i : List Meeting). first (touched w st s r.operands ++ i)) (sym (if_true-yes (stacks_to (sum + size) ∷ []) operates (eq-eqb r.expr 2 q)))
          ∙ sym (cause-as 6 r.operands h refl)

      call-13 : r.kind ≡ 13 → r.expr ≡ 2 → Caused
      unfolding Caused done_by dispatch has_expression is_test if_true if_eq if_lt met_by behind_by calls_by used_by touched first_of effect_stop operates
      call-13 h q =
          ap effect_stop (call-as 13 h q)
          ∙ plain-call (λ d. omega (arith, d, h))
          ∙ ap (λ (i : List Meeting). first (touched w st s r.operands ++ i)) (sym (if_true-yes (stacks_to (sum + size) ∷ []) operates (eq-eqb r.expr 2 q)))
          ∙ sym (cause-as 13 r.operands h refl)

      call-7 : r.kind ≡ 7 → r.expr ≡ 2 → Caused
      unfolding Caused done_by dispatch has_expression is_test if_true if_eq if_lt met_by behind_by calls_by used_by touched first_of effect_stop operates
      call-7 h q =
          ap effect_stop (call-as 7 h q)
          ∙ at_call h
          ∙ ap (λ (i : List Meeting). first (word_at address_at ∷ (touched w st s r.operands ++ i))) (sym (if_true-yes (stacks_to (sum + size) ∷ []) operates (eq-eqb r.expr 2 q)))
          ∙ sym (cause-as 7 r.operands h refl)

      module _ (h0 : r.expr ≡ 0 → ⊥) (h2 : r.expr ≡ 2 → ⊥) (h3 : r.expr ≡ 3 → ⊥) (g : expression_listed 13 r.expr ≡ true) where
        worked-stop : r.operands ≡ take (expression_uses r.expr r.count) (o ∷ p ∷ rest) → stop_in (worked_of prog x) ≡ first (touched w st s r.operands ++ operates)
        unfolding worked_of operates
        worked-stop q = eval-cause w st s m (length st) x.machine.top r.expr r.count o p rest r.operands q h0 h2 h3 g

        behind-is : if_true (eqb r.expr 2) (stacks_to (sum + size) ∷ []) operates ≡ operates
        behind-is = if_true-no (stacks_to (sum + size) ∷ []) operates (ne_eqb r.expr 2 h2)

        value-5 : r.kind ≡ 5 → Caused
        unfolding Caused done_by dispatch has_expression is_test if_true if_eq if_lt met_by behind_by calls_by used_by touched first_of effect_stop operates
        value-5 h =
            ap effect_stop (effect-as 5 h ∙ if_true-no (call_of prog x) (assigned prog x (worked_of prog x)) (ne_eqb r.expr 2 h2))
            ∙ assigned-stop (worked_of prog x)
            ∙ worked-stop (operands-as 5 h)
            ∙ ap (λ (i : List Meeting). first (touched w st s r.operands ++ i)) (sym behind-is)
            ∙ sym (cause-as 5 r.operands h refl)

        value-6 : r.kind ≡ 6 → Caused
        unfolding Caused done_by dispatch has_expression is_test if_true if_eq if_lt met_by behind_by calls_by used_by touched first_of effect_stop operates
        value-6 h =
            ap effect_stop (effect-as 6 h ∙ if_true-no (call_of prog x) (assigned prog x (worked_of prog x)) (ne_eqb r.expr 2 h2))
            ∙ assigned-stop (worked_of prog x)
            ∙ worked-stop (operands-as 6 h)
            ∙ ap (λ (i : List Meeting). first (touched w st s r.operands ++ i)) (sym behind-is)
            ∙ sym (cause-as 6 r.operands h refl)

        value-7 : r.kind ≡ 7 → Caused
        unfolding Caused done_by dispatch has_expression is_test if_true if_eq if_lt met_by behind_by calls_by used_by touched first_of effect_stop operates set_at_of
        value-7 h =
            ap effect_stop (effect-as 7 h ∙ if_true-no (call_of prog x) (set_at_of prog x) (ne_eqb r.expr 2 h2))
            ∙ at_first (assigned_at prog x (worked_of prog x)) (touched w st s r.operands ++ operates) (assigned-at-stop (worked_of prog x) ∙ worked-stop (operands-as 7 h))
            ∙ ap (λ (i : List Meeting). first (word_at address_at ∷ (touched w st s r.operands ++ i))) (sym behind-is)
            ∙ sym (cause-as 7 r.operands h refl)

      -- ---- returns

      module _ (home : (v : ℕ) → is_return r ≡ true → effect_stop (handed_by prog x v (resumption_of w f c st (suc s) s)) ≡ 0) where
        end_returns : r.kind ≡ 2 → is_return r ≡ true
        unfolding is_return
        end_returns h = ap (λ (i : ℕ). one_of (eqb i 2) (both (eqb i 13) (if_true (is_call_expression r.expr) false true))) h

        kind_2 : r.kind ≡ 2 → Caused
        unfolding Caused done_by dispatch has_expression is_test if_true if_eq if_lt met_by behind_by calls_by used_by touched first_of effect_stop return_of returned
        kind_2 h =
            ap effect_stop (effect-as 2 h ∙ if_eq-yes (returned prog x (valued 0 0)) (if_eq r.expr 0 (returned prog x (valued 0 0)) (returned prog x (worked_of prog x))) h)
            ∙ home 0 (end_returns h)
            ∙ sym (cause-as 2 [] h (operands-as 2 h))

        module _ (h : r.kind ≡ 13) (h2 : r.expr ≡ 2 → ⊥) where
          it-returns : is_return r ≡ true
          unfolding is_return
          it-returns =
              plain-return r.kind r.expr own
              ∙ ap (λ (i : ℕ). one_of (eqb i 2) (both (eqb i 13) (if_true (eqb r.expr 2) false true))) h ∙ if_true-no false true (ne_eqb r.expr 2 h2)

          return-effect : effect_of prog x ≡ if_eq r.expr 0 (returned prog x (valued 0 0)) (returned prog x (worked_of prog x))
          unfolding Caused done_by dispatch has_expression is_test if_true if_eq if_lt met_by behind_by calls_by used_by touched first_of effect_stop return_of
          return-effect =
              effect-as 13 h
              ∙ if_true-no (call_of prog x) (if_true (if_true (eqb r.expr 2) false true) (return_of prog x) (goes_to prog x r.a)) (ne_eqb r.expr 2 h2)
              ∙ if_true-yes (return_of prog x) (goes_to prog x r.a) (if_true-no false true (ne_eqb r.expr 2 h2))
              ∙ if_eq-no {a = r.kind} {b = 2} (returned prog x (valued 0 0)) (if_eq r.expr 0 (returned prog x (valued 0 0)) (returned prog x (worked_of prog x))) (λ q. omega (arith, q, h))

          bare-13 : r.expr ≡ 0 → Caused
          unfolding Caused done_by dispatch has_expression is_test if_true if_eq if_lt met_by behind_by calls_by used_by touched first_of effect_stop returned expression_uses is_operator operator_meets operator_of line_in operators
          bare-13 q =
              ap effect_stop (return-effect ∙ if_eq-yes (returned prog x (valued 0 0)) (returned prog x (worked_of prog x)) q)
              ∙ home 0 it-returns
              ∙ sym
              (cause-as 13 [] h (operands-as 13 h ∙ ap (λ (e : ℕ). take (used_by 13 e r.count) (o ∷ p ∷ rest)) q)
              ∙ ap (λ (e : ℕ). first (met_by 13 e [])) q)

          value-13 : (r.expr ≡ 0 → ⊥) → (r.expr ≡ 3 → ⊥) → expression_listed 13 r.expr ≡ true → Caused
          unfolding Caused done_by dispatch has_expression is_test if_true if_eq if_lt met_by behind_by calls_by used_by touched first_of effect_stop operates
          value-13 h0 h3 g =
              ap effect_stop (return-effect ∙ if_eq-no (returned prog x (valued 0 0)) (returned prog x (worked_of prog x)) h0)
              ∙ returned-stop (λ v. home v it-returns) (worked_of prog x)
              ∙ worked-stop h0 h2 h3 g (operands-as 13 h)
              ∙ ap (λ (i : List Meeting). first (touched w st s r.operands ++ i)) (sym (behind-is h0 h2 h3 g))
              ∙ sym (cause-as 13 r.operands h refl)

        -- ---- all kinds

        module _ (sound : kind_fault prog x.machine.next ≡ false) where
          listed : (k : ℕ) → has_expression k ≡ true → r.kind ≡ k → expression_listed k r.expr ≡ true
          unfolding kind_fault
          listed k q h =
              subst (λ (i : ℕ). expression_listed i r.expr ≡ true) h
              (expression-listed r.kind r.expr (kept-or (is_listed r.kind) (expression_fault r.kind r.expr) sound) (ap has_expression h ∙ q))

          not-bare : (k : ℕ) → (k ≡ 13 → ⊥) → has_expression k ≡ true → r.kind ≡ k → r.expr ≡ 0 → ⊥
          not-bare k d q h e = listed-not k d (subst (λ (i : ℕ). expression_listed k i ≡ true) e (listed k q h))

          no-three : (k : ℕ) → has_expression k ≡ true → r.kind ≡ k → r.expr ≡ 3 → ⊥
          no-three k q h = no-import r.kind r.expr own (ap has_expression h ∙ q)

          kind-5 : r.kind ≡ 5 → Caused
          unfolding has_expression if_lt
          kind-5 h =
              let h0 : r.expr ≡ 0 → ⊥ = not-bare 5 (λ q. omega (arith, q)) refl h in
              elim (ℕ_discrete r.expr 2) [
                | yes q ↦ call-5 h q
                | no q ↦ value-5 h0 q (no-three 5 refl h) (listed-any 5 r.expr h0 (listed 5 refl h)) h
              ]

          kind-6 : r.kind ≡ 6 → Caused
          unfolding has_expression if_lt
          kind-6 h =
              let h0 : r.expr ≡ 0 → ⊥ = not-bare 6 (λ q. omega (arith, q)) refl h in
              elim (ℕ_discrete r.expr 2) [
                | yes q ↦ call-6 h q
                | no q ↦ value-6 h0 q (no-three 6 refl h) (listed-any 6 r.expr h0 (listed 6 refl h)) h
              ]

          kind-7 : r.kind ≡ 7 → Caused
          unfolding has_expression if_lt
          kind-7 h =
              let h0 : r.expr ≡ 0 → ⊥ = not-bare 7 (λ q. omega (arith, q)) refl h in
              elim (ℕ_discrete r.expr 2) [
                | yes q ↦ call-7 h q
                | no q ↦ value-7 h0 q (no-three 7 refl h) (listed-any 7 r.expr h0 (listed 7 refl h)) h
              ]

          kind-13 : r.kind ≡ 13 → Caused
          unfolding has_expression if_lt
          kind-13 h =
              elim (ℕ_discrete r.expr 2) [
                | yes q ↦ call-13 h q
                | no q ↦ elim (ℕ_discrete r.expr 0) [
                  | yes e ↦ bare-13 h q e
                  | no e ↦ value-13 h q e (no-three 13 refl h) (listed 13 refl h)
                ]
              ]

          kind-listed : is_listed r.kind ≡ true
          unfolding kind_fault
          kind-listed = kept-first (is_listed r.kind) (expression_fault r.kind r.expr) sound

          kind-low : 1 ≤ r.kind
          unfolding is_listed
          kind-low = elim (ℕ_discrete r.kind 0) [ yes q ↦ true-false (sym kind-listed ∙ if_eq-yes false (ltb r.kind 23) q) | no q ↦ omega arith ]

          kind-high : r.kind < 23
          unfolding is_listed
          kind-high = ltb-true r.kind 23 (sym (if_eq-no false (ltb r.kind 23) (λ q. omega (arith, q, kind-low))) ∙ kind-listed)

          KindCaused : ℕ → Type 0
          KindCaused k = r.kind ≡ k → Caused

          caused : (r.kind ≡ 1 → ⊥) → Caused
          unfolding KindCaused
          caused h1 =
              (next KindCaused 1 r.kind kind-low (λ h. absurd (h1 h)) (λ a2.
              next KindCaused 2 r.kind a2 kind_2 (λ a3.
              next KindCaused 3 r.kind a3 kind_3 (λ a4.
              next KindCaused 4 r.kind a4 kind-4 (λ a5.
              next KindCaused 5 r.kind a5 kind-5 (λ a6.
              next KindCaused 6 r.kind a6 kind-6 (λ a7.
              next KindCaused 7 r.kind a7 kind-7 (λ a8.
              next KindCaused 8 r.kind a8 kind-8 (λ a9.
              next KindCaused 9 r.kind a9 kind-9 (λ a10.
              next KindCaused 10 r.kind a10 kind-10 (λ a11.
              next KindCaused 11 r.kind a11 kind-11 (λ a12.
              next KindCaused 12 r.kind a12 kind-12 (λ a13.
              next KindCaused 13 r.kind a13 kind-13 (λ a14.
              next KindCaused 14 r.kind a14 kind-14 (λ a15.
              next KindCaused 15 r.kind a15 kind-15 (λ a16.
              next KindCaused 16 r.kind a16 kind-16 (λ a17.
              next KindCaused 17 r.kind a17 kind-17 (λ a18.
              next KindCaused 18 r.kind a18 kind-18 (λ a19.
              next KindCaused 19 r.kind a19 kind-19 (λ a20.
              next KindCaused 20 r.kind a20 kind-20 (λ a21.
              next KindCaused 21 r.kind a21 kind-21 (λ a22.
              next KindCaused 22 r.kind a22 kind-22 (λ a23.
              absurd (omega (arith, a23, kind-high))))))))))))))))))))))))) refl

-- "A statement stops exactly when such a cause is there, with the number of the first it meets."
pub effect-cause : (w : Width) (t : Tables) (x : World) (sum last : ℕ)
    → importing (rows t x.machine.next) ≡ false
    → kind_fault (program_from w t) x.machine.next ≡ false
    → ((rows t x.machine.next).kind ≡ 1 → ⊥)
    → x.machine.used ≡ sum
    → x.machine.frame ≡ sum - last
    → ((v : ℕ) → is_return (rows t x.machine.next) ≡ true
    → effect_stop (handed_by (program_from w t) x v (resumption_of w (rows t) t.count x.stack (suc x.machine.frame) x.machine.frame)) ≡ 0)
    → effect_stop (effect_of (program_from w t) x) ≡ first_cause (program_from w t) sum last x
unfolding row_at row_from slots Caused
effect-cause w t x sum last own sound h1 used-is frame_is home =
    caused (program_from w t) x sum last own used-is frame_is
    (operand_at t.statements (x.machine.next * 27 + 11)) (operand_at t.statements (x.machine.next * 27 + 13))
    (operand_at t.statements (x.machine.next * 27 + 15) ∷ operand_at t.statements (x.machine.next * 27 + 17)
    ∷ operand_at t.statements (x.machine.next * 27 + 19) ∷ operand_at t.statements (x.machine.next * 27 + 21)
    ∷ operand_at t.statements (x.machine.next * 27 + 23) ∷ operand_at t.statements (x.machine.next * 27 + 25) ∷ [])
    refl home sound h1
