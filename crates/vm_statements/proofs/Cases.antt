-- The ways through the functions of statements.
-- Assumes nothing.
use Rattle.std.proofs.Common.{Err, None, Option, Some, Ok}
use Rattle.vm_definitions.specs.Operands.{Worked}
use mathlib.Core.Path.{◌≡◌, refl, sym, ◌∙◌, ap}
use mathlib.Core.Bool.{Bool, true, false}
use mathlib.Core.List.{List, [], ◌∷◌}
use Prim.Native.Nat.{ℕ, zero, suc, ◌+◌, ◌*◌, ◌%◌, ◌<◌, ◌≤◌}
use native.Mathlib.Omega.{arith}
use lib.ListN.{length, get_or, set, take, replicate}
use lib.Dec.{eqb, ltb}
use borrow.Author.Tests.{eq-eqb, ne_eqb, ltb-true}
use Rattle.base_prelude.specs.Choice.{if_lt, if_eq, if_true}
use Rattle.base_prelude.proofs.Choice.{true-false, either}
use Rattle.base_limits.specs.declared.Width.TheVariants.{Bits32}
use Rattle.base_limits.specs.declared.Machine.{Machine}
use Rattle.base_limits.specs.Record.{going_on, moved_to, stopped}
use Rattle.base_word.specs.Bytes.{word_bytes}
use Rattle.prog_tables.specs.Tests.{both}
use Rattle.prog_tables.specs.Statement.{Row, has_expression, is_test, is_call, used_by, operand_at, slots, row_from, row_at}
use Rattle.prog_tables.specs.Program.{rows_alone}
use Rattle.prog_tables.specs.declared.Operand.{Operand}
use Rattle.prog_tables.specs.declared.Operand.TheVariants.{Unlisted}
use Rattle.vm_definitions.specs.Access.{byte_address, word_address, byte_good, word_good, store_from}
use Rattle.vm_definitions.specs.Operands as machine
use Rattle.vm_definitions.specs.Operands.{Words, bad, with_word, number_in, read_of, on_read, read_all}
use Rattle.vm_definitions.specs.Expressions.{test_holds, operand_no}
use Rattle.vm_definitions.specs.Frames.{is_calling}
use Rattle.vm_definitions.specs.Step.{Effect, keeps, stores, goes_to, block_of, end_block_of, test_of, assigned, assigned_at, set_at_of, set_byte_by, set_word_by, arguments_of, returned, worked_of, effect_of, effected}
use Rattle.vm_definitions.specs.Lent.{world, left}
use Rattle.vm_definitions.specs.declared.Outcome.{Outcome}
use Rattle.vm_calls.specs.Outcomes.{one_step, halted, after, calling, at_calling, tail_calling, handing, assigning, setting_byte, setting_word}
use Rattle.vm_statements.proofs.Forms.{test-bare, test-row}
use Rattle.vm_statements.specs.Three.{three_words, store}
use Rattle.vm_statements.specs.declared.Store.{Store}
use Rattle.vm_definitions.specs.declared.Value.{Value}
use Rattle.vm_statements.specs.Ready.{Ready, setting_local, assigning_at, returning}
use Rattle.prog_tables.proofs.Ranges.{one_more_lem}

-- ---- going on

pub went : (r : Machine) (top : ℕ) (o : Outcome) → o ≡ one_step (going_on r (r.next + 1) top) → o ≡ one_step (going_on r (suc r.next) top)
went r top o e = e ∙ ap (λ (n : ℕ). one_step (going_on r n top)) (one_more_lem r.next)

pub went_to : (r : Machine) (n a top v : ℕ) (o : Outcome) → a ≡ v → o ≡ one_step (going_on r a top) → o ≡ one_step (going_on r v top)
went_to r n a top v o d e = e ∙ ap (λ (n : ℕ). one_step (going_on r n top)) d

store-cons : (st : List ℕ) (at x : ℕ) (xs : List ℕ) → store_from st at (x ∷ xs) ≡ store_from (set st at x) (at + 1) xs
unfolding store_from
store-cons st at x xs = ap (λ (i : ℕ). store_from (set st at x) i xs) (sym (one_more_lem at))

store-one : (st : List ℕ) (at x : ℕ) → store_from st at (x ∷ []) ≡ set st at x
unfolding store_from
store-one st at x = refl

module _ (t : List ℕ) (r : Machine) where
  -- the words of a block
  pub block_words : (st st₁ st' : List ℕ) (a b : ℕ) → a ≡ (row_at t r.next).a → b ≡ (row_at t r.next).b → st₁ ≡ set st (r.frame + a) r.top
      → st' ≡ store_from st₁ (r.frame + a + 1) (replicate b 0) → st' ≡ store_from st (r.frame + (row_at t r.next).a) (r.top ∷ replicate (row_at t r.next).b 0)
  block_words st st₁ st' a b d e q p =
      rw (← d, ← e)
      (p ∙ ap (λ (z : List ℕ). store_from z (r.frame + a + 1) (replicate b 0)) q ∙ sym (store-cons st (r.frame + a) r.top (replicate b 0)))

  pub block-left : (st : List ℕ) (a top : ℕ) (o : Outcome) → a ≡ (row_at t r.next).a → top ≡ get_or st (r.frame + a) 0 → o ≡ one_step (going_on r (r.next + 1) top)
      → o ≡ one_step (going_on r (suc r.next) (get_or st (r.frame + (row_at t r.next).a) 0))
  block-left st a top o d e q = rw (← d, ← e) (went r top o q)

  module _ (k x y : ℕ) (b : Bool) (o : Outcome) (e : b ≡ test_holds Bits32 k x y) where
    pub branch-on : b ≡ true → o ≡ one_step (going_on r (r.next + 1) r.top)
        → o ≡ one_step (going_on r (if_true (test_holds Bits32 k x y) (suc r.next) (row_at t r.next).a) r.top)
    unfolding if_true
    branch-on h q = rw (← e, h) (went r r.top o q)

    pub branch-off : (a : ℕ) → b ≡ false → a ≡ (row_at t r.next).a → o ≡ one_step (going_on r a r.top)
        → o ≡ one_step (going_on r (if_true (test_holds Bits32 k x y) (suc r.next) (row_at t r.next).a) r.top)
    unfolding if_true
    branch-off a h d q = rw (← e, h, ← d) q

pub ruleset branches = (branch-on, branch-off)

-- ---- operands

pub address_is : (st : List ℕ) (s a : ℕ) (y z : Operand) → y ≡ z → a ≡ number_in Bits32 st s y → a ≡ number_in Bits32 st s z
address_is st s a y z e d = d ∙ ap (number_in Bits32 st s) e

pub test-is : (k : ℕ) (b : Bool) → b ≡ is_test k → b ≡ true → is_test k ≡ true
test-is k b e d = sym e ∙ d

-- the operands of a row that has j of them
module _ (t : List ℕ) (n j : ℕ) (u : used_by (row_at t n).kind (row_at t n).expr (row_at t n).count ≡ j) where
  operands-are : (row_at t n).operands ≡ take j (slots t (n * 27))
  unfolding row_at row_from
  operands-are = ap (λ (i : ℕ). take i (slots t (n * 27))) u

abbrev slot : List ℕ → ℕ → ℕ → Operand
slot t n i = operand_at t (n * 27 + 11 + i * 2)

slot-0 : (t : List ℕ) (n : ℕ) → slot t n 0 ≡ operand_at t (n * 27 + 11)
slot-0 t n = let e : n * 27 + 11 + 0 * 2 ≡ n * 27 + 11 = omega arith in ap (operand_at t) e

slot-1 : (t : List ℕ) (n : ℕ) → slot t n 1 ≡ operand_at t (n * 27 + 13)
slot-1 t n = let e : n * 27 + 11 + 1 * 2 ≡ n * 27 + 13 = omega arith in ap (operand_at t) e

slot-2 : (t : List ℕ) (n : ℕ) → slot t n 2 ≡ operand_at t (n * 27 + 15)
slot-2 t n = let e : n * 27 + 11 + 2 * 2 ≡ n * 27 + 15 = omega arith in ap (operand_at t) e

two-slots : (t : List ℕ) (n : ℕ) → take 2 (slots t (n * 27)) ≡ slot t n 0 ∷ slot t n 1 ∷ []
unfolding slots
two-slots t n = rw (slot-0 t n, slot-1 t n)

three-slots : (t : List ℕ) (n : ℕ) → take 3 (slots t (n * 27)) ≡ slot t n 0 ∷ slot t n 1 ∷ slot t n 2 ∷ []
unfolding slots
three-slots t n = rw (slot-0 t n, slot-1 t n, slot-2 t n)

test-used : (k e n : ℕ) → is_test k ≡ true → used_by k e n ≡ 2
unfolding used_by if_true
test-used k e n h = rw (test-bare k h, test-row k h, h)

byte-used : (k e n : ℕ) → k ≡ 8 → used_by k e n ≡ 3
unfolding used_by has_expression is_call is_test if_true if_eq if_lt
byte-used k e n h = rw h

word-used : (k e n : ℕ) → k ≡ 9 → used_by k e n ≡ 3
unfolding used_by has_expression is_call is_test if_true if_eq if_lt
word-used k e n h = rw h

-- ---- statements

module _ (t : List ℕ) (c : ℕ) (r : Machine) (st m : List ℕ) where
  abbrev row : Row
  row = row_at t r.next

  test-uses : is_test row.kind ≡ true → used_by row.kind row.expr row.count ≡ 2
  test-uses e = test-used row.kind row.expr row.count e

  -- a test
  module _ (k : ℕ) (a : Operand) (f : Option ℕ) (e : k ≡ row.kind) (i : is_test k ≡ true) (p : a ≡ slot t r.next 0) (q : f ≡ read_of Bits32 st r.frame m a) where
    is-test : is_test row.kind ≡ true
    is-test = ap is_test (sym e) ∙ i

    are : row.operands ≡ slot t r.next 0 ∷ slot t r.next 1 ∷ []
    are = operands-are t r.next 2 (test-uses is-test) ∙ two-slots t r.next

    pub test-first : (o : Outcome) → f ≡ None → o ≡ halted r 32 → left o st m ≡ after test_of t c r st m
    unfolding test_of on_read effected
    test-first o h d = rw (are, ← p, ← q, h, d)

    module _ (b : Operand) (g : Option ℕ) (x : ℕ) (h : f ≡ Some x) (s : b ≡ slot t r.next 1) (u : g ≡ read_of Bits32 st r.frame m b) where
      pub test-second : (o : Outcome) → g ≡ None → o ≡ halted r 32 → left o st m ≡ after test_of t c r st m
      unfolding test_of on_read effected
      test-second o l d = rw (are, ← p, ← q, h, ← s, ← u, l, d)

      pub test-both : (y : ℕ) (o : Outcome) → g ≡ Some y
          → o ≡ one_step (going_on r (if_true (test_holds Bits32 k x y) (suc r.next) (row_at t r.next).a) r.top) → left o st m ≡ after test_of t c r st m
      unfolding test_of on_read effected goes_to
      test-both y o l d = rw (are, ← p, ← q, h, ← s, ← u, l, ← e, d)

  -- `let` and `set` of a local
  module _ (x : Worked) (e : x ≡ worked_of (rows_alone t c) (world r st m)) where
    pub assign-value : (v : Value) (a : ℕ) (st' : List ℕ) (o : Outcome) → x ≡ Ok v → a ≡ row.a → st' ≡ set st (r.frame + a) v.word
        → o ≡ one_step (going_on r (r.next + 1) v.top) → left o st' m ≡ after assigning t c r st m
    unfolding assigned effected keeps store_from
    assign-value v a st' o h d q p = rw (← e, h, ← d, q, went r v.top o p)

    pub assign-stop : (k : ℕ) (o : Outcome) → x ≡ Err k → o ≡ halted r k → left o st m ≡ after assigning t c r st m
    unfolding assigned effected
    assign-stop k o h q = rw (← e, h, q)

    -- `set @`
    pub word_value : (v : Value) (a : ℕ) (m' : List ℕ) (o : Outcome) → x ≡ Ok v → a ≡ number_in Bits32 st r.frame row.address → m' ≡ store_from m a (word_bytes 4 v.word)
        → o ≡ one_step (going_on r (r.next + 1) v.top) → left o st m' ≡ after assigning_at t c r st m
    unfolding assigned_at effected stores
    word_value v a m' o h d q p = rw (← e, h, ← d, q, went r v.top o p)

    pub word-stop : (k : ℕ) (o : Outcome) → x ≡ Err k → o ≡ halted r k → left o st m ≡ after assigning_at t c r st m
    unfolding assigned_at effected
    word-stop k o h q = rw (← e, h, q)

    -- `return` with an expression
    pub return-value : (v : Value) (o : Outcome) (st' m' : List ℕ) → x ≡ Ok v → left o st' m' ≡ after (handing v.word) t c r st m → left o st' m' ≡ after returning t c r st m
    unfolding returned
    return-value v o st' m' h q = rw (← e, h) q

    pub return-stop : (k : ℕ) (o : Outcome) → x ≡ Err k → o ≡ halted r k → left o st m ≡ after returning t c r st m
    unfolding returned effected
    return-stop k o h q = rw (← e, h, q)

  module _ (y : Operand) (a : ℕ) (b : Bool) (e : y ≡ row.address) (d : a ≡ number_in Bits32 st r.frame y) (i : b ≡ word_good Bits32 (length m) a) where
    pub at-good : (o : Outcome) (m' : List ℕ) → b ≡ true → left o st m' ≡ after assigning_at t c r st m → left o st m' ≡ after set_at_of t c r st m
    unfolding set_at_of if_true
    at-good o m' h q = rw (← e, ← d, ← i, h) q

    pub at-bad : (o : Outcome) → b ≡ false → o ≡ halted r 32 → left o st m ≡ after set_at_of t c r st m
    unfolding set_at_of if_true effected
    at-bad o h q = rw (← e, ← d, ← i, h, q)

  -- what `set-byte` and `set-word` come to
  byte-bad : (o : Outcome) → arguments_of (rows_alone t c) (world r st m) ≡ bad → o ≡ halted r 32 → left o st m ≡ after setting_byte t c r st m
  unfolding set_byte_by effected
  byte-bad o e d = rw (e, d)

  word-bad : (o : Outcome) → arguments_of (rows_alone t c) (world r st m) ≡ bad → o ≡ halted r 32 → left o st m ≡ after setting_word t c r st m
  unfolding set_word_by effected
  word-bad o e d = rw (e, d)

  module _ (x y z a : ℕ) (b : Bool) (o : Outcome) (e : arguments_of (rows_alone t c) (world r st m) ≡ machine.words (x ∷ y ∷ z ∷ [])) where
    byte_put : (m' : List ℕ) → a ≡ byte_address Bits32 x y → b ≡ byte_good (length m) a → b ≡ true → m' ≡ store_from m a (z % 256 ∷ [])
        → o ≡ one_step (going_on r (r.next + 1) r.top) → left o st m' ≡ after setting_byte t c r st m
    unfolding set_byte_by effected stores if_true
    byte_put m' d i h q p = rw (e, ← d, ← i, h, q, went r r.top o p)

    byte-off : a ≡ byte_address Bits32 x y → b ≡ byte_good (length m) a → b ≡ false → o ≡ halted r 32 → left o st m ≡ after setting_byte t c r st m
    unfolding set_byte_by effected if_true
    byte-off d i h q = rw (e, ← d, ← i, h, q)

    word-put : (m' : List ℕ) → a ≡ word_address Bits32 x y → b ≡ word_good Bits32 (length m) a → b ≡ true → m' ≡ store_from m a (word_bytes 4 z)
        → o ≡ one_step (going_on r (r.next + 1) r.top) → left o st m' ≡ after setting_word t c r st m
    unfolding set_word_by effected stores if_true
    word-put m' d i h q p = rw (e, ← d, ← i, h, q, went r r.top o p)

    word-off : a ≡ word_address Bits32 x y → b ≡ word_good Bits32 (length m) a → b ≡ false → o ≡ halted r 32 → left o st m ≡ after setting_word t c r st m
    unfolding set_word_by effected if_true
    word-off d i h q = rw (e, ← d, ← i, h, q)

  -- a row of either kind
  module _ (x : Option Store) (e : three_words x ≡ read_all Bits32 st r.frame m (take 3 (slots t (r.next * 27)))) where
    three-read : used_by row.kind row.expr row.count ≡ 3 → arguments_of (rows_alone t c) (world r st m) ≡ three_words x
    unfolding arguments_of
    three-read u = ap (read_all Bits32 st r.frame m) (operands-are t r.next 3 u) ∙ sym e

    unread : x ≡ None → used_by row.kind row.expr row.count ≡ 3 → arguments_of (rows_alone t c) (world r st m) ≡ bad
    unfolding three_words
    unread d u = three-read u ∙ ap three_words d

    all_read : (y : Store) → x ≡ Some y → used_by row.kind row.expr row.count ≡ 3 → arguments_of (rows_alone t c) (world r st m) ≡ machine.words (y.base ∷ y.offset ∷ y.value ∷ [])
    unfolding three_words
    all_read y d u = three-read u ∙ ap three_words d

    module _ (k : row.kind ≡ 8) where
      has-8 : used_by row.kind row.expr row.count ≡ 3
      has-8 = byte-used row.kind row.expr row.count k

      pub byte-unread : (o : Outcome) → x ≡ None → o ≡ halted r 32 → left o st m ≡ after setting_byte t c r st m
      byte-unread o d q = byte-bad o (unread d has-8) q

      module _ (y : Store) (a : ℕ) (h : Bool) (o : Outcome) (d : x ≡ Some y) (da : a ≡ byte_address Bits32 y.base y.offset) (dh : h ≡ byte_good (length m) a) where
        pub byte-in : (m' : List ℕ) → h ≡ true → m' ≡ store_from m a (y.value % 256 ∷ []) → o ≡ one_step (going_on r (r.next + 1) r.top) → left o st m' ≡ after setting_byte t c r st m
        byte-in m' l w q = byte_put y.base y.offset y.value a h o (all_read y d has-8) m' da dh l w q

        pub byte-out : h ≡ false → o ≡ halted r 32 → left o st m ≡ after setting_byte t c r st m
        byte-out l q = byte-off y.base y.offset y.value a h o (all_read y d has-8) da dh l q

    module _ (k : row.kind ≡ 9) where
      has-9 : used_by row.kind row.expr row.count ≡ 3
      has-9 = word-used row.kind row.expr row.count k

      pub word-unread : (o : Outcome) → x ≡ None → o ≡ halted r 32 → left o st m ≡ after setting_word t c r st m
      word-unread o d q = word-bad o (unread d has-9) q

      module _ (y : Store) (a : ℕ) (h : Bool) (o : Outcome) (d : x ≡ Some y) (da : a ≡ word_address Bits32 y.base y.offset) (dh : h ≡ word_good Bits32 (length m) a) where
        pub word_in : (m' : List ℕ) → h ≡ true → m' ≡ store_from m a (word_bytes 4 y.value) → o ≡ one_step (going_on r (r.next + 1) r.top) → left o st m' ≡ after setting_word t c r st m
        word_in m' l w q = word-put y.base y.offset y.value a h o (all_read y d has-9) m' da dh l w q

        pub word_out : h ≡ false → o ≡ halted r 32 → left o st m ≡ after setting_word t c r st m
        word_out l q = word-off y.base y.offset y.value a h o (all_read y d has-9) da dh l q

-- three operands, left to right
module _ (t : List ℕ) (n : ℕ) (st : List ℕ) (s : ℕ) (m : List ℕ) (p : Operand) (f : Option ℕ) (dp : p ≡ slot t n 0) (ef : f ≡ read_of Bits32 st s m p) where
  pub three-0 : f ≡ None → three_words None ≡ read_all Bits32 st s m (take 3 (slots t (n * 27)))
  unfolding three_words read_all on_read
  three-0 e = rw (three-slots t n, ← dp, ← ef, e)

  module _ (q : Operand) (g : Option ℕ) (x : ℕ) (gf : f ≡ Some x) (dq : q ≡ slot t n 1) (eg : g ≡ read_of Bits32 st s m q) where
    pub three-1 : g ≡ None → three_words None ≡ read_all Bits32 st s m (take 3 (slots t (n * 27)))
    unfolding three_words read_all on_read with_word
    three-1 e = rw (three-slots t n, ← dp, ← ef, gf, ← dq, ← eg, e)

    module _ (v : Operand) (h : Option ℕ) (y : ℕ) (gg : g ≡ Some y) (dv : v ≡ slot t n 2) (eh : h ≡ read_of Bits32 st s m v) where
      pub three-2 : h ≡ None → three_words None ≡ read_all Bits32 st s m (take 3 (slots t (n * 27)))
      unfolding three_words read_all on_read with_word
      three-2 e = rw (three-slots t n, ← dp, ← ef, gf, ← dq, ← eg, gg, ← dv, ← eh, e)

      pub three-all : (z : ℕ) → h ≡ Some z → three_words (store x y z) ≡ read_all Bits32 st s m (take 3 (slots t (n * 27)))
      unfolding three_words read_all on_read with_word
      three-all z e = rw (three-slots t n, ← dp, ← ef, gf, ← dq, ← eg, gg, ← dv, ← eh, e)

pub ruleset threes = (three-0, three-1, three-2, three-all)

pub ruleset tested = (test-first, test-second, test-both)

pub ruleset assigns = (assign-value, assign-stop)

pub ruleset words = (word_value, word-stop)

pub ruleset returns = (return-value, return-stop)

pub ruleset addressed = (at-good, at-bad)

pub ruleset byte-ways = (byte-unread, byte-in, byte-out)

pub ruleset word-ways = (word-unread, word_in, word_out)
