-- Causes have the five listed numbers, and a full stack is the one cause with number 33.
-- Assumes nothing.
use mathlib.Core.Path.{◌≡◌, refl, sym, ◌∙◌, ap}
use mathlib.Core.Bool.{Bool, true, false, not}
use mathlib.Core.List.{List, [], ◌∷◌, ◌++◌}
use Prim.Native.Nat.{ℕ, ◌+◌, ◌-◌, ◌*◌, ◌%◌, ◌^◌, ◌<◌, ◌≤◌}
use native.Mathlib.Decide.{ℕ_discrete}
use native.Mathlib.Omega.{arith}
use lib.Dec.{ltb, leb, eqb}
use lib.ListN.{length}
use borrow.Author.Tests.{eqb-true, eq-eqb}
use Rattle.base_prelude.specs.Choice.{pick, if_lt, if_eq, if_true}
use Rattle.base_prelude.proofs.Choice.{true-false, if_eq-yes, if_eq-no, if_true-yes, either-eq, either_true}
use Rattle.base_limits.specs.Width.{bits_of, bytes_of}
use Rattle.base_limits.specs.declared.Width.{Width}
use Rattle.prog_tables.specs.Tests.{both, one_of}
use Rattle.prog_tables.specs.Statement.{Row, has_expression, is_call, is_import}
use Rattle.prog_tables.specs.Label.{Tables, rows}
use Rattle.prog_tables.specs.Program.{Program, program_from}
use Rattle.prog_tables.specs.declared.Operand.{Operand}
use Rattle.prog_tables.proofs.Each.{both_left, both_right, both_true}
use Rattle.vm_definitions.specs.Access.{byte_address, word_address}
use Rattle.vm_definitions.specs.Operands.{is_at, number_in}
use Rattle.vm_definitions.specs.Expressions.{operand_no}
use Rattle.vm_definitions.specs.Step.{World}
use Rattle.vm_definitions.specs.Causes.{cause_of, first_of, touched, word_of, with_frame, behind_operands, reads_of, meetings_of, first_cause, calls_at_all, arguments_read, passes_stack}
use Rattle.vm_definitions.specs.Frames.{importing}
use Rattle.vm_definitions.specs.Ledger.{Ledger, sum_of, last_of}
use Rattle.vm_definitions.specs.Claim.{cause_in, Listed, stack_full}
use Rattle.prog_tables.proofs.CallRows.{import-apart}
use Rattle.vm_definitions.proofs.Chain.{one_left}
use Rattle.vm_definitions.proofs.Importing.{import-expression, import-kinds}
use Rattle.vm_definitions.proofs.Operators.{first_one, first-both}
use Rattle.vm_definitions.proofs.OperatorTable.{Every, each-operator}
use Rattle.vm_definitions.specs.Operators.{Operator, operators, round_up, Meeting, word_at, byte_at, divides, leaves_over, shifts_by, reserves_to, stacks_to, operator_meets, line_in, operator_of}

pick_is : (P : ℕ → Type 0) (b : Bool) (x y : ℕ) → P x → P y → P (pick b x y)
pick_is P true x y p q = p
pick_is P false x y p q = q

module _ (w : Width) (m s : ℕ) where
  module _ (P : ℕ → Type 0) (p0 : P 0) (p30 : P 30) (p31 : P 31) (p32 : P 32) (p33 : P 33) (p34 : P 34) where
    pub cause-is : (e : Meeting) → P (cause_of w m s e)
    unfolding cause_of if_true if_lt if_eq
    cause-is (word_at a) = pick_is P (both (eqb (a % bytes_of w) 0) (leb (a + bytes_of w) m)) 0 32 p0 p32
    cause-is (byte_at a) = pick_is P (ltb a m) 0 32 p0 p32
    cause-is (divides x y) = pick_is P (one_of (eqb y 0) (both (eqb x (2 ^ (bits_of w - 1))) (eqb y (2 ^ bits_of w - 1)))) 30 0 p30 p0
    cause-is (leaves_over y) = pick_is P (eqb y 0) 30 0 p30 p0
    cause-is (shifts_by n) = pick_is P (leb (2 ^ (bits_of w - 1)) n) 31 0 p31 p0
    cause-is (reserves_to e) = pick_is P (ltb m e) 34 0 p34 p0
    cause-is (stacks_to e) = pick_is P (ltb s e) 33 0 p33 p0

    -- the first cause is none or a listed one
    pub first-is : (es : List Meeting) → P (first_of w m s es)
    unfolding first_of
    first-is [] = p0
    first-is (e ∷ es) = either-eq P (cause_of w m s e) 0 (first_of w m s es) (cause_of w m s e) (λ h. first-is es) (λ h. cause-is e)

  InList : ℕ → Type 0
  InList k = 0 < k → (30 ≤ k) × (k ≤ 34)

  in_list : (k : ℕ) → 30 ≤ k → k ≤ 34 → InList k
  unfolding InList
  in_list k a b h = (a, b)

  pub cause-listed : (es : List Meeting) → 0 < first_of w m s es → (30 ≤ first_of w m s es) × (first_of w m s es ≤ 34)
  unfolding InList
  cause-listed es =
      first-is InList (λ h. absurd (omega (arith, h))) (in_list 30 (omega arith) (omega arith)) (in_list 31 (omega arith) (omega arith)) (in_list 32 (omega arith) (omega arith))
      (in_list 33 (omega arith) (omega arith)) (in_list 34 (omega arith) (omega arith)) es

  -- ---- nothing but a new frame gives 33

  NoStack : List Meeting → Type 0
  NoStack es = first_of w m s es ≡ 33 → ⊥

  Other : ℕ → Type 0
  Other k = k ≡ 33 → ⊥

  other : (k : ℕ) → eqb k 33 ≡ false → Other k
  unfolding Other
  other k h q = true-false (sym (eq-eqb k 33 q) ∙ h)

  none-stack : NoStack []
  unfolding NoStack first_of
  none-stack q = absurd (omega (arith, q))

  add-stack : (e : Meeting) (es : List Meeting) → Other (cause_of w m s e) → NoStack es → NoStack (e ∷ es)
  unfolding NoStack Other first_of
  add-stack e es h g = either-eq Other (cause_of w m s e) 0 (first_of w m s es) (cause_of w m s e) (λ q. g) (λ q. h)

  one-stack : (e : Meeting) → Other (cause_of w m s e) → NoStack (e ∷ [])
  one-stack e h = add-stack e [] h none-stack

  word-other : (a : ℕ) → Other (cause_of w m s (word_at a))
  unfolding cause_of if_true
  word-other a = pick_is Other (both (eqb (a % bytes_of w) 0) (leb (a + bytes_of w) m)) 0 32 (other 0 refl) (other 32 refl)

  byte-other : (a : ℕ) → Other (cause_of w m s (byte_at a))
  unfolding cause_of if_true
  byte-other a = pick_is Other (ltb a m) 0 32 (other 0 refl) (other 32 refl)

  divides-other : (x y : ℕ) → Other (cause_of w m s (divides x y))
  unfolding cause_of if_true
  divides-other x y = pick_is Other (one_of (eqb y 0) (both (eqb x (2 ^ (bits_of w - 1))) (eqb y (2 ^ bits_of w - 1)))) 30 0 (other 30 refl) (other 0 refl)

  leaves-other : (y : ℕ) → Other (cause_of w m s (leaves_over y))
  unfolding cause_of if_eq
  leaves-other y = pick_is Other (eqb y 0) 30 0 (other 30 refl) (other 0 refl)

  shifts-other : (n : ℕ) → Other (cause_of w m s (shifts_by n))
  unfolding cause_of if_true
  shifts-other n = pick_is Other (leb (2 ^ (bits_of w - 1)) n) 31 0 (other 31 refl) (other 0 refl)

  reserves-other : (e : ℕ) → Other (cause_of w m s (reserves_to e))
  unfolding cause_of if_lt
  reserves-other e = pick_is Other (ltb m e) 34 0 (other 34 refl) (other 0 refl)

  touched-no : (st : List ℕ) (at : ℕ) (os : List Operand) → NoStack (touched w st at os)
  unfolding touched
  touched-no st at [] = none-stack
  touched-no st at (o ∷ os) =
      either_true NoStack (is_at o) (word_at (number_in w st at o) ∷ touched w st at os) (touched w st at os)
      (λ h. add-stack (word_at (number_in w st at o)) (touched w st at os) (word-other (number_in w st at o)) (touched-no st at os)) (λ h. touched-no st at os)

  reads-no : (r : Row) (x : World) → NoStack (reads_of w r x)
  unfolding reads_of
  reads-no r x =
      either-eq (λ (es : List Meeting). NoStack (es ++ touched w x.stack x.machine.frame r.operands)) r.kind 7 (word_at (number_in w x.stack x.machine.frame r.address) ∷ []) []
      (λ h. add-stack (word_at (number_in w x.stack x.machine.frame r.address)) (touched w x.stack x.machine.frame r.operands) (word-other (number_in w x.stack x.machine.frame r.address))
      (touched-no x.stack x.machine.frame r.operands)) (λ h. touched-no x.stack x.machine.frame r.operands)

  -- one choice of a chain
  chosen : (e k : ℕ) (us vs : List Meeting) → NoStack us → NoStack vs → NoStack (if_eq e k us vs)
  chosen e k us vs p q = either-eq NoStack e k us vs (λ h. p) (λ h. q)

  operator-no : (top e x y : ℕ) → NoStack (operator_meets w top e x y)
  unfolding operator_meets operators Every
  operator-no top e x y =
      each-operator (λ (o : Operator). NoStack (o.meets w top x y)) e (
        none-stack,
        (
          none-stack,
          (
            one-stack (shifts_by y) (shifts-other y),
            (
              one-stack (reserves_to (round_up w top + x)) (reserves-other (round_up w top + x)),
              (
                one-stack (reserves_to (round_up w top + bytes_of w * x)) (reserves-other (round_up w top + bytes_of w * x)),
                (
                  one-stack (shifts_by y) (shifts-other y),
                  (
                    one-stack (divides x y) (divides-other x y),
                    (
                      one-stack (byte_at (byte_address w x y)) (byte-other (byte_address w x y)),
                      (
                        one-stack (word_at (word_address w x y)) (word-other (word_address w x y)),
                        (
                          one-stack (leaves_over y) (leaves-other y),
                          (
                            none-stack,
                            (
                              none-stack,
                              (
                                none-stack,
                                (
                                  one-stack (shifts_by y) (shifts-other y),
                                  (
                                    one-stack (shifts_by y) (shifts-other y),
                                    (
                                      one-stack (shifts_by y) (shifts-other y),
                                      (
                                        one-stack (shifts_by y) (shifts-other y),
                                        (
                                          none-stack,
                                          (
                                            none-stack,
                                            tt,
                                          ),
                                        ),
                                      ),
                                    ),
                                  ),
                                ),
                              ),
                            ),
                          ),
                        ),
                      ),
                    ),
                  ),
                ),
              ),
            ),
          ),
        ),
      )
      none-stack

  -- behind the operands of a row that does not call
  behind-no : (top sum last g : ℕ) (r : Row) (x y : ℕ) → is_call r.kind r.expr ≡ false → NoStack (behind_operands w top sum last g r x y)
  unfolding behind_operands
  behind-no top sum last g r x y h =
      either_true NoStack (is_call r.kind r.expr) _ _ (λ q. true-false (sym q ∙ h))
      (λ q. either_true NoStack (has_expression r.kind) _ _ (λ d. operator-no top r.expr x y)
      (λ d. chosen r.kind 8 _ _ (one-stack (byte_at (byte_address w x y)) (byte-other (byte_address w x y)))
      (chosen r.kind 9 _ _ (one-stack (word_at (word_address w x y)) (word-other (word_address w x y))) none-stack)))

  -- behind those of one that calls
  behind-call : (top sum last g : ℕ) (r : Row) (x y : ℕ) → is_call r.kind r.expr ≡ true
      → first_of w m s (behind_operands w top sum last g r x y) ≡ pick (ltb s (with_frame sum last g r)) 33 0
  unfolding behind_operands cause_of if_lt
  behind-call top sum last g r x y h =
      ap (first_of w m s) (if_true-yes (stacks_to (with_frame sum last g r) ∷ []) _ h) ∙ first_one w m s (stacks_to (with_frame sum last g r))

import-meets : (w : Width) (top x y : ℕ) → operator_meets w top 3 x y ≡ []
unfolding operator_meets operator_of line_in operators if_eq
import-meets w top x y = refl

one-left-of : (a b : Bool) → one_of a b ≡ true → not b ≡ true → a ≡ true
one-left-of true b h n = refl
one-left-of false true h n = true-false (sym n)
one-left-of false false h n = true-false (sym h)

-- a row that calls a function calls no imported one
call-apart : (k e : ℕ) → is_call k e ≡ true → is_import k e ≡ false
call-apart k e h = by (is_import k e) refl
  where
    by : (b : Bool) → is_import k e ≡ b → b ≡ false
    by true q = true-false (sym h ∙ import-apart k e q)
    by false q = refl

pick-33 : (b : Bool) → pick {X = ℕ} b 33 0 ≡ 33 → b ≡ true
pick-33 true q = refl
pick-33 false q = absurd (omega (arith, q))

module _ (prog : Program) (sum last : ℕ) (x : World) where
  abbrev w : Width
  w = prog.width

  abbrev f : ℕ → Row
  f = prog.rows

  abbrev r : Row
  r = f x.machine.next

  reads : ℕ
  reads = first_of w (length x.memory) (length x.stack) (reads_of w r x)

  behind : ℕ
  behind =
      first_of w (length x.memory) (length x.stack)
      (behind_operands w x.machine.top sum last (f r.callee).a r (word_of w x.stack x.machine.frame x.memory (operand_no r.operands 0))
      (word_of w x.stack x.machine.frame x.memory (operand_no r.operands 1)))

  parts : first_cause prog sum last x ≡ if_eq reads 0 behind reads
  unfolding first_cause meetings_of reads behind
  parts = first-both w (length x.memory) (length x.stack) (reads_of w r x) _

  called : is_call r.kind r.expr ≡ true → behind ≡ pick (passes_stack prog sum last x) 33 0
  unfolding behind passes_stack
  called h = behind-call w (length x.memory) (length x.stack) x.machine.top sum last (f r.callee).a r _ _ h

  pub stack-cause : both (both (arguments_read prog x) (not (importing r))) (passes_stack prog sum last x) ≡ true → first_cause prog sum last x ≡ 33
  unfolding arguments_read reads
  stack-cause h =
      let a : both (arguments_read prog x) (not (importing r)) ≡ true = both_left (both (arguments_read prog x) (not (importing r))) (passes_stack prog sum last x) h in
      let b : arguments_read prog x ≡ true = both_left (arguments_read prog x) (not (importing r)) a in
      parts
      ∙ if_eq-yes behind reads (eqb-true reads 0 (both_right (calls_at_all r) (eqb reads 0) b))
      ∙ called (one-left-of (is_call r.kind r.expr) (importing r) (both_left (calls_at_all r) (eqb reads 0) b) (both_right (arguments_read prog x) (not (importing r)) a))
      ∙ ap (λ (b : Bool). pick b 33 0) (both_right (both (arguments_read prog x) (not (importing r))) (passes_stack prog sum last x) h)

  reads_other : reads ≡ 33 → ⊥
  unfolding reads NoStack
  reads_other = reads-no w (length x.memory) (length x.stack) r x

  behind-other : is_call r.kind r.expr ≡ false → behind ≡ 33 → ⊥
  unfolding behind NoStack
  behind-other h = behind-no w (length x.memory) (length x.stack) x.machine.top sum last (f r.callee).a r _ _ h

  pub stack-only : first_cause prog sum last x ≡ 33 → both (both (arguments_read prog x) (not (importing r))) (passes_stack prog sum last x) ≡ true
  unfolding arguments_read reads
  stack-only h =
      elim (ℕ_discrete reads 0) [
        | no q ↦ absurd (reads_other (sym (parts ∙ if_eq-no behind reads q) ∙ h))
        | yes q ↦ by q (sym (parts ∙ if_eq-yes behind reads q) ∙ h) (is_call r.kind r.expr) refl
      ]
    where
      by : reads ≡ 0 → behind ≡ 33 → (b : Bool) → is_call r.kind r.expr ≡ b
          → both (both (arguments_read prog x) (not (importing r))) (passes_stack prog sum last x) ≡ true
      by q d true e =
          both_true (both (arguments_read prog x) (not (importing r))) (passes_stack prog sum last x)
          (both_true (arguments_read prog x) (not (importing r))
          (both_true (calls_at_all r) (eqb reads 0) (one_left (is_call r.kind r.expr) (importing r) e) (eq-eqb reads 0 q))
          (ap not (call-apart r.kind r.expr e)))
          (pick-33 (passes_stack prog sum last x) (sym (called e) ∙ d))
      by q d false e = absurd (behind-other e d)

  -- ---- a call to an imported function meets nothing behind its operands

  module _ (im : importing r ≡ true) where
    apart_from : (n : ℕ) → has_expression r.kind ≡ false → (11 ≡ n → ⊥) → (12 ≡ n → ⊥) → r.kind ≡ n → ⊥
    apart_from n d a b q = import-kinds r.kind r.expr im (λ h. a (sym h ∙ q)) (λ h. b (sym h ∙ q)) (λ h. true-false (sym h ∙ d))

    behind-none : behind ≡ 0
    unfolding behind behind_operands first_of
    behind-none =
        either_true none (is_call r.kind r.expr) _ _ (λ d. true-false (sym d ∙ import-apart r.kind r.expr im))
        (λ d. either_true none (has_expression r.kind) _ _
        (λ a. ap (λ (n : ℕ). first_of w (length x.memory) (length x.stack) (operator_meets w x.machine.top n (word 0) (word 1))) (import-expression r.kind r.expr im)
        ∙ ap (first_of w (length x.memory) (length x.stack)) (import-meets w x.machine.top (word 0) (word 1)))
        (λ a. either-eq none r.kind 8 _ _ (λ b. absurd (apart_from 8 a (λ q. omega (arith, q)) (λ q. omega (arith, q)) b))
        (λ _. either-eq none r.kind 9 _ _ (λ b. absurd (apart_from 9 a (λ q. omega (arith, q)) (λ q. omega (arith, q)) b)) (λ _. refl))))
      where
        none : List Meeting → Type 0
        none es = first_of w (length x.memory) (length x.stack) es ≡ 0

        word : ℕ → ℕ
        word j = word_of w x.stack x.machine.frame x.memory (operand_no r.operands j)

    pub import-cause : first_cause prog sum last x ≡ first_of w (length x.memory) (length x.stack) (reads_of w r x)
    unfolding reads
    import-cause = parts ∙ either-eq (λ (k : ℕ). k ≡ reads) reads 0 behind reads (λ h. behind-none ∙ sym h) (λ h. refl)

-- of a world and its ledger: `listed`, `full` and `full_only` of specs/Claim
module _ (w : Width) (t : Tables) (es : Ledger) (x : World) where
  pub step-listed : 0 < cause_in (program_from w t) es x → Listed (cause_in (program_from w t) es x)
  unfolding cause_in first_cause
  step-listed h =
      let p = cause-listed w (length x.memory) (length x.stack) (meetings_of (program_from w t) (sum_of (rows t) es) (last_of (rows t) es) x) h in
      record { from = p.0; to = p.1 }

  pub step-full : stack_full (program_from w t) es x ≡ true → cause_in (program_from w t) es x ≡ 33
  unfolding cause_in stack_full
  step-full h = stack-cause (program_from w t) (sum_of (rows t) es) (last_of (rows t) es) x h

  pub step-full-only : cause_in (program_from w t) es x ≡ 33 → stack_full (program_from w t) es x ≡ true
  unfolding cause_in stack_full
  step-full-only h = stack-only (program_from w t) (sum_of (rows t) es) (last_of (rows t) es) x h
