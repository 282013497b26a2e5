-- The ways through each function.
-- Assumes nothing.
use Rattle.std.proofs.Common.{Err, None, Option, Some}
use Rattle.vm_definitions.specs.Operands.{Worked, valued}
use mathlib.Core.Path.{◌≡◌, refl, sym, ◌∙◌, ap}
use mathlib.Core.Bool.{Bool, true, false}
use mathlib.Core.List.{List, [], ◌∷◌}
use Prim.Native.Nat.{ℕ, suc, ◌+◌, ◌*◌, ◌/◌, ◌%◌, ◌<◌, ◌≤◌}
use native.Mathlib.Omega.{arith}
use lib.Dec.{leb, eqb}
use lib.ListN.{length, get_or, take, drop}
use lib.Seq.{drop-cons}
use borrow.Author.Tests.{lt-ltb, le-ltb, ltb-true, leb-true, eq-eqb, ne_eqb}
use Rattle.base_prelude.specs.Choice.{pick, if_lt, if_eq, if_true}
use Rattle.base_prelude.proofs.Choice.{true-false, if_eq-no}
use Rattle.base_limits.specs.declared.Width.TheVariants.{Bits32}
use Rattle.lang_words.specs.Words.{least_operands}
use Rattle.lang_words.specs.Numbers as op
use Rattle.base_word.specs.Word.{add_of, sub_of, mul_of, div_of, mod_of, and_of, or_of, xor_of, not_of, shl_of, bsr_of, asr_of, rol_of, ror_of, eq_of, ge_of, gt_of, le_of, lt_of, ne_of}
use Rattle.base_word.specs.Word.{Answer, error_stop}
use Rattle.base_word.specs.declared.WordError.{WordError}
use Rattle.base_word.specs.declared.WordError.TheVariants.{Division, Shift}
use Rattle.prog_tables.specs.Statement.{is_operator, expression_uses}
use Rattle.prog_tables.specs.declared.Operand.{Operand}
use Rattle.prog_tables.specs.declared.Operand.TheVariants.{Constant, Local, Address, AtConstant, AtLocal, AtAddress, Unlisted}
use Rattle.prog_tables.proofs.Each.{both_right}
use Rattle.vm_definitions.specs.Access.{byte_address, word_address, byte_good, word_good, word_from, load_of}
use Rattle.vm_definitions.specs.Operands.{is_at, number_in, fetch_of, read_of, on_read}
use Rattle.vm_definitions.specs.Expressions.{eval_of, test_holds}
use Rattle.vm_definitions.proofs.Words.{word-32}
use Rattle.vm_definitions.proofs.OperatorTable.{Every, operator-none}
use Rattle.vm_definitions.specs.Operators.{Operator, operators, line_in, operator_of, round_up, reserved, answered, fetched, byte_of, applied}

-- ---- words of memory

module _ (n a : ℕ) where
  pub word_even : a % 4 ≡ 0 → leb (a + 4) n ≡ word_good Bits32 n a
  unfolding word_good
  word_even h = rw (eq-eqb _ _ h)

  pub word-odd : (a % 4 ≡ 0 → ⊥) → eqb (a % 4) 0 ≡ word_good Bits32 n a
  unfolding word_good
  word-odd h = rw (ne_eqb _ _ h)

  -- a word that memory has ends in it
  pub word_in : (b : Bool) → b ≡ word_good Bits32 n a → b ≡ true → a + 4 ≤ n
  unfolding word_good
  word_in b d h = leb-true (a + 4) n (both_right (eqb (a % 4) 0) (leb (a + 4) n) (sym d ∙ h))

  -- a byte that memory has is in it
  pub byte-in : (b : Bool) → b ≡ byte_good n a → b ≡ true → a < n
  unfolding byte_good
  byte-in b d h = ltb-true a n (sym d ∙ h)

pub ruleset word-ways = (word_even, word-odd)

next-byte : (m : List ℕ) (a b : ℕ) → b ≡ suc a → a < length m → drop a m ≡ get_or m a 0 ∷ drop b m
next-byte m a b e h = drop-cons m a 0 h ∙ ap (λ (n : ℕ). get_or m a 0 ∷ drop n m) (sym e)

four_bytes : (m : List ℕ) (a : ℕ) → a + 4 ≤ length m
    → take 4 (drop a m) ≡ get_or m a 0 ∷ get_or m (a + 1) 0 ∷ get_or m (a + 2) 0 ∷ get_or m (a + 3) 0 ∷ []
four_bytes m a h =
    ap (take 4)
    (next-byte m a (a + 1) (omega arith) (omega arith)
    ∙ ap (◌∷◌ (get_or m a 0))
    (next-byte m (a + 1) (a + 2) (omega arith) (omega arith)
    ∙ ap (◌∷◌ (get_or m (a + 1) 0))
    (next-byte m (a + 2) (a + 3) (omega arith) (omega arith)
    ∙ ap (◌∷◌ (get_or m (a + 2) 0)) (next-byte m (a + 3) (a + 4) (omega arith) (omega arith)))))

pub load_is : (m : List ℕ) (a b0 b1 b2 b3 : ℕ) → a + 4 ≤ length m → b0 ≡ get_or m a 0 → b1 ≡ get_or m (a + 1) 0 → b2 ≡ get_or m (a + 2) 0
    → b3 ≡ get_or m (a + 3) 0 → b0 + 256 * b1 + 65536 * b2 + 16777216 * b3 ≡ load_of Bits32 m a
unfolding load_of word_from
load_is m a b0 b1 b2 b3 h e0 e1 e2 e3 = rw (four_bytes m a h, ← e0, ← e1, ← e2, ← e3) (omega arith)

module _ (m : List ℕ) (a : ℕ) (b : Bool) (d : b ≡ word_good Bits32 (length m) a) where
  pub fetch-got : (v : ℕ) → b ≡ true → v ≡ load_of Bits32 m a → Some v ≡ fetch_of Bits32 m a
  unfolding fetch_of if_true
  fetch-got v h e = rw (← d, h, e)

  pub fetch-bad : b ≡ false → None ≡ fetch_of Bits32 m a
  unfolding fetch_of if_true
  fetch-bad h = rw (← d, h)

pub ruleset fetch-ways = (fetch-got, fetch-bad)

-- ---- operands

module _ (st : List ℕ) (s : ℕ) (o : Operand) where
  pub number-constant : (v : ℕ) → v < 4294967296 → o ≡ Constant v → v ≡ number_in Bits32 st s o
  unfolding number_in
  number-constant v l h = rw (h, word-32 v l)

  pub number-local : (x v : ℕ) → o ≡ Local x → v ≡ get_or st (s + x) 0 → v ≡ number_in Bits32 st s o
  unfolding number_in
  number-local x v h e = rw (h, e)

  pub number-address : (v : ℕ) → v < 4294967296 → o ≡ Address v → v ≡ number_in Bits32 st s o
  unfolding number_in
  number-address v l h = rw (h, word-32 v l)

  pub number-at-constant : (v : ℕ) → v < 4294967296 → o ≡ AtConstant v → v ≡ number_in Bits32 st s o
  unfolding number_in
  number-at-constant v l h = rw (h, word-32 v l)

  pub number-at-local : (x v : ℕ) → o ≡ AtLocal x → v ≡ get_or st (s + x) 0 → v ≡ number_in Bits32 st s o
  unfolding number_in
  number-at-local x v h e = rw (h, e)

  pub number-at-address : (v : ℕ) → v < 4294967296 → o ≡ AtAddress v → v ≡ number_in Bits32 st s o
  unfolding number_in
  number-at-address v l h = rw (h, word-32 v l)

  pub number-unlisted : o ≡ Unlisted → 0 ≡ number_in Bits32 st s o
  unfolding number_in
  number-unlisted h = rw h

pub ruleset number-ways =
    (number-constant, number-local, number-address, number-at-constant, number-at-local, number-at-address, number-unlisted)

module _ (st : List ℕ) (s : ℕ) (m : List ℕ) (o : Operand) where
  pub read-constant : (v : ℕ) → v < 4294967296 → o ≡ Constant v → Some v ≡ read_of Bits32 st s m o
  unfolding read_of is_at number_in if_true
  read-constant v l h = rw (h, word-32 v l)

  pub read-local : (x v : ℕ) → o ≡ Local x → v ≡ get_or st (s + x) 0 → Some v ≡ read_of Bits32 st s m o
  unfolding read_of is_at number_in if_true
  read-local x v h e = rw (h, e)

  pub read-address : (v : ℕ) → v < 4294967296 → o ≡ Address v → Some v ≡ read_of Bits32 st s m o
  unfolding read_of is_at number_in if_true
  read-address v l h = rw (h, word-32 v l)

  pub read-at-constant : (v : ℕ) (r : Option ℕ) → v < 4294967296 → o ≡ AtConstant v → r ≡ fetch_of Bits32 m v → r ≡ read_of Bits32 st s m o
  unfolding read_of is_at number_in if_true
  read-at-constant v r l h e = rw (h, word-32 v l) e

  pub read-at-local : (x v : ℕ) (r : Option ℕ) → o ≡ AtLocal x → v ≡ get_or st (s + x) 0 → r ≡ fetch_of Bits32 m v → r ≡ read_of Bits32 st s m o
  unfolding read_of is_at number_in if_true
  read-at-local x v r h e d = rw (h, ← e) d

  pub read-at-address : (v : ℕ) (r : Option ℕ) → v < 4294967296 → o ≡ AtAddress v → r ≡ fetch_of Bits32 m v → r ≡ read_of Bits32 st s m o
  unfolding read_of is_at number_in if_true
  read-at-address v r l h e = rw (h, word-32 v l) e

  pub read-unlisted : o ≡ Unlisted → Some 0 ≡ read_of Bits32 st s m o
  unfolding read_of is_at number_in if_true
  read-unlisted h = rw h

pub ruleset read-ways = (read-constant, read-local, read-address, read-at-constant, read-at-local, read-at-address, read-unlisted)

-- ---- auto memory, bytes

module _ (n top bytes : ℕ) where
  pub reserve-past : n < (top + 3) / 4 * 4 + bytes → Err 34 ≡ reserved Bits32 n top bytes
  unfolding reserved round_up if_lt
  reserve-past h = rw (lt-ltb n ((top + 3) / 4 * 4 + bytes) h)

  pub reserve-in : (a z : ℕ) → a ≡ (top + 3) / 4 * 4 → z ≡ (top + 3) / 4 * 4 + bytes → z ≤ n → valued a z ≡ reserved Bits32 n top bytes
  unfolding reserved round_up if_lt
  reserve-in a z e d h = rw (e, d, le-ltb n ((top + 3) / 4 * 4 + bytes) (omega arith))

module _ (m : List ℕ) (top a : ℕ) (b : Bool) (d : b ≡ byte_good (length m) a) where
  pub byte-got : (v : ℕ) (r : Worked) → b ≡ true → v ≡ get_or m a 0 → r ≡ valued v top → r ≡ byte_of m top a
  unfolding byte_of if_true
  byte-got v r h e q = rw (← d, h, ← e) q

  pub byte-bad : b ≡ false → Err 32 ≡ byte_of m top a
  unfolding byte_of if_true
  byte-bad h = rw (← d, h)

pub ruleset byte-ways = (byte-got, byte-bad)

-- ---- addresses

pub word_address_lem : (b o v r : ℕ) → v ≡ mul_of 32 4 o → r ≡ add_of 32 b v → r ≡ word_address Bits32 b o
unfolding word_address mul_of add_of
word_address_lem b o v r d e = omega (arith, d, e)

-- ---- operators

module _ (m : List ℕ) (top e x y : ℕ) where
  pub apply-add : (v : ℕ) (r : Worked) → e ≡ op.add → v ≡ add_of 32 x y → r ≡ valued v top → r ≡ applied Bits32 m top e x y
  unfolding applied operator_of line_in operators if_eq
  apply-add v r h d q = rw (h, ← d) q

  pub apply-and : (v : ℕ) (r : Worked) → e ≡ op.and → v ≡ and_of 32 x y → r ≡ valued v top → r ≡ applied Bits32 m top e x y
  unfolding applied operator_of line_in operators if_eq
  apply-and v r h d q = rw (h, ← d) q

  pub apply-asr : (a : Answer) (r : Worked) → e ≡ op.asr → a ≡ asr_of 32 x y → r ≡ answered top a → r ≡ applied Bits32 m top e x y
  unfolding applied operator_of line_in operators if_eq
  apply-asr a r h d q = rw (h, ← d) q

  pub apply-auto-bytes : (r : Worked) → e ≡ op.auto_bytes → r ≡ reserved Bits32 (length m) top x → r ≡ applied Bits32 m top e x y
  unfolding applied operator_of line_in operators if_eq
  apply-auto-bytes r h d = rw h d

  pub apply-auto-words : (r : Worked) → e ≡ op.auto_words → r ≡ reserved Bits32 (length m) top (4 * x) → r ≡ applied Bits32 m top e x y
  unfolding applied operator_of line_in operators if_eq
  apply-auto-words r h d = rw h d

  pub apply-bsr : (a : Answer) (r : Worked) → e ≡ op.bsr → a ≡ bsr_of 32 x y → r ≡ answered top a → r ≡ applied Bits32 m top e x y
  unfolding applied operator_of line_in operators if_eq
  apply-bsr a r h d q = rw (h, ← d) q

  pub apply-div : (a : Answer) (r : Worked) → e ≡ op.div → a ≡ div_of 32 x y → r ≡ answered top a → r ≡ applied Bits32 m top e x y
  unfolding applied operator_of line_in operators if_eq
  apply-div a r h d q = rw (h, ← d) q

  pub apply-get-byte : (a : ℕ) (r : Worked) → e ≡ op.get_byte → a ≡ byte_address Bits32 x y → r ≡ byte_of m top a → r ≡ applied Bits32 m top e x y
  unfolding applied operator_of line_in operators if_eq
  apply-get-byte a r h d q = rw (h, ← d) q

  pub apply-get-word : (a : ℕ) (f : Option ℕ) (r : Worked) → e ≡ op.get_word → a ≡ word_address Bits32 x y → f ≡ fetch_of Bits32 m a → r ≡ fetched top f → r ≡ applied Bits32 m top e x y
  unfolding applied operator_of line_in operators if_eq
  apply-get-word a f r h d q g = rw (h, ← d, ← q) g

  pub apply-modulo : (a : Answer) (r : Worked) → e ≡ op.modulo → a ≡ mod_of 32 x y → r ≡ answered top a → r ≡ applied Bits32 m top e x y
  unfolding applied operator_of line_in operators if_eq
  apply-modulo a r h d q = rw (h, ← d) q

  pub apply-mul : (v : ℕ) (r : Worked) → e ≡ op.mul → v ≡ mul_of 32 x y → r ≡ valued v top → r ≡ applied Bits32 m top e x y
  unfolding applied operator_of line_in operators if_eq
  apply-mul v r h d q = rw (h, ← d) q

  pub apply-not : (v : ℕ) (r : Worked) → e ≡ op.not → v ≡ not_of 32 x → r ≡ valued v top → r ≡ applied Bits32 m top e x y
  unfolding applied operator_of line_in operators if_eq
  apply-not v r h d q = rw (h, ← d) q

  pub apply-or : (v : ℕ) (r : Worked) → e ≡ op.or → v ≡ or_of 32 x y → r ≡ valued v top → r ≡ applied Bits32 m top e x y
  unfolding applied operator_of line_in operators if_eq
  apply-or v r h d q = rw (h, ← d) q

  pub apply-rol : (a : Answer) (r : Worked) → e ≡ op.rol → a ≡ rol_of 32 x y → r ≡ answered top a → r ≡ applied Bits32 m top e x y
  unfolding applied operator_of line_in operators if_eq
  apply-rol a r h d q = rw (h, ← d) q

  pub apply-ror : (a : Answer) (r : Worked) → e ≡ op.ror → a ≡ ror_of 32 x y → r ≡ answered top a → r ≡ applied Bits32 m top e x y
  unfolding applied operator_of line_in operators if_eq
  apply-ror a r h d q = rw (h, ← d) q

  pub apply-shl : (a : Answer) (r : Worked) → e ≡ op.shl → a ≡ shl_of 32 x y → r ≡ answered top a → r ≡ applied Bits32 m top e x y
  unfolding applied operator_of line_in operators if_eq
  apply-shl a r h d q = rw (h, ← d) q

  pub apply-shr : (a : Answer) (r : Worked) → e ≡ op.shr → a ≡ bsr_of 32 x y → r ≡ answered top a → r ≡ applied Bits32 m top e x y
  unfolding applied operator_of line_in operators if_eq
  apply-shr a r h d q = rw (h, ← d) q

  pub apply-sub : (v : ℕ) (r : Worked) → e ≡ op.sub → v ≡ sub_of 32 x y → r ≡ valued v top → r ≡ applied Bits32 m top e x y
  unfolding applied operator_of line_in operators if_eq
  apply-sub v r h d q = rw (h, ← d) q

  pub apply-xor : (v : ℕ) (r : Worked) → e ≡ op.xor → v ≡ xor_of 32 x y → r ≡ valued v top → r ≡ applied Bits32 m top e x y
  unfolding applied operator_of line_in operators if_eq
  apply-xor v r h d q = rw (h, ← d) q

  pub apply-other : (r : Worked)
      → (e ≡ op.add → ⊥) → (e ≡ op.and → ⊥) → (e ≡ op.asr → ⊥) → (e ≡ op.auto_bytes → ⊥) → (e ≡ op.auto_words → ⊥)
      → (e ≡ op.bsr → ⊥) → (e ≡ op.div → ⊥) → (e ≡ op.get_byte → ⊥) → (e ≡ op.get_word → ⊥) → (e ≡ op.modulo → ⊥)
      → (e ≡ op.mul → ⊥) → (e ≡ op.not → ⊥) → (e ≡ op.or → ⊥) → (e ≡ op.rol → ⊥) → (e ≡ op.ror → ⊥)
      → (e ≡ op.shl → ⊥) → (e ≡ op.shr → ⊥) → (e ≡ op.sub → ⊥) → (e ≡ op.xor → ⊥)
      → r ≡ valued 0 top → r ≡ applied Bits32 m top e x y
  unfolding applied operators Every
  apply-other r p33 p34 p35 p36 p37 p38 p39 p40 p41 p42 p43 p44 p45 p46 p47 p48 p49 p50 p51 q =
      q
      ∙ ap (λ (o : Operator). o.result Bits32 m top x y)
      (sym
      (operator-none e
      (p33, (p34, (p35, (p36, (p37, (p38, (p39, (p40, (p41, (p42, (p43, (p44, (p45, (p46, (p47, (p48, (p49, (p50, (p51, tt)))))))))))))))))))))

pub ruleset apply-ways = (apply-add, apply-and, apply-asr, apply-auto-bytes, apply-auto-words, apply-bsr, apply-div, apply-get-byte, apply-get-word, apply-modulo, apply-mul, apply-not, apply-or, apply-rol, apply-ror, apply-shl, apply-shr, apply-sub, apply-xor, apply-other)

-- ---- expressions

no-operator : (is_operator 1 ≡ false) × ((is_operator 2 ≡ false) × (is_operator 3 ≡ false))
unfolding is_operator if_lt
no-operator = (refl, (refl, refl))

-- an operator's operands
pub least-operator : (e n : ℕ) (b : Bool) → b ≡ is_operator e → b ≡ true → n ≡ expression_uses e 0 → n ≡ least_operands e
unfolding expression_uses if_true
least-operator e n b d h q =
    q
    ∙ if_eq-no 1 (if_eq e 2 0 (if_eq e 3 0 (pick (is_operator e) (least_operands e) 0))) (other 1 no-operator.0)
    ∙ if_eq-no 0 (if_eq e 3 0 (pick (is_operator e) (least_operands e) 0)) (other 2 no-operator.1.0)
    ∙ if_eq-no 0 (pick (is_operator e) (least_operands e) 0) (other 3 no-operator.1.1)
    ∙ ap (λ (t : Bool). pick t (least_operands e) 0) (sym d ∙ h)
  where
    other : (k : ℕ) → is_operator k ≡ false → e ≡ k → ⊥
    other k g p = true-false (sym (sym d ∙ h) ∙ ap is_operator p ∙ g)

module _ (st : List ℕ) (s : ℕ) (m : List ℕ) (top e : ℕ) (a b : Operand) (f : Option ℕ) (q : f ≡ read_of Bits32 st s m a) where
  pub eval-plain : (r : Worked) → e ≡ 1 → r ≡ fetched top f → r ≡ eval_of Bits32 st s m top e (a ∷ b ∷ [])
  unfolding eval_of if_eq
  eval-plain r h d = rw (eq-eqb _ _ h, ← q) d

  pub eval-bad : (e ≡ 1 → ⊥) → f ≡ None → Err 32 ≡ eval_of Bits32 st s m top e (a ∷ b ∷ [])
  unfolding eval_of if_eq on_read
  eval-bad h g = rw (ne_eqb _ _ h, ← q, g)

  module _ (x n : ℕ) (h : e ≡ 1 → ⊥) (g : f ≡ Some x) (l : n ≡ least_operands e) where
    pub eval-one : (r : Worked) → n ≡ 1 → r ≡ applied Bits32 m top e x 0 → r ≡ eval_of Bits32 st s m top e (a ∷ b ∷ [])
    unfolding eval_of if_eq on_read
    eval-one r p d = rw (ne_eqb _ _ h, ← q, g, ← l, eq-eqb _ _ p) d

    module _ (p : n ≡ 1 → ⊥) (k : Option ℕ) (u : k ≡ read_of Bits32 st s m b) where
      pub eval-second : k ≡ None → Err 32 ≡ eval_of Bits32 st s m top e (a ∷ b ∷ [])
      unfolding eval_of if_eq on_read
      eval-second v = rw (ne_eqb _ _ h, ← q, g, ← l, ne_eqb _ _ p, ← u, v)

      pub eval-two : (y : ℕ) (r : Worked) → k ≡ Some y → r ≡ applied Bits32 m top e x y → r ≡ eval_of Bits32 st s m top e (a ∷ b ∷ [])
      unfolding eval_of if_eq on_read
      eval-two y r v d = rw (ne_eqb _ _ h, ← q, g, ← l, ne_eqb _ _ p, ← u, v) d

pub ruleset eval-ways = (eval-plain, eval-bad, eval-one, eval-second, eval-two)

-- ---- an operator's refusal

pub answered-stop : (top k : ℕ) (a : Answer) (e : WordError) → a ≡ Err e → k ≡ error_stop e → Err k ≡ answered top a
unfolding answered
answered-stop top k a Division h q = rw (h, q)
answered-stop top k a Shift h q = rw (h, q)

-- ---- tests

module _ (k x y : ℕ) (b : Bool) where
  pub holds-14 : k ≡ 14 → b ≡ eq_of 32 x y → b ≡ test_holds Bits32 k x y
  unfolding test_holds if_eq
  holds-14 h d = rw h d

  pub holds-15 : k ≡ 15 → b ≡ ge_of 32 x y → b ≡ test_holds Bits32 k x y
  unfolding test_holds if_eq
  holds-15 h d = rw h d

  pub holds-16 : k ≡ 16 → b ≡ gt_of 32 x y → b ≡ test_holds Bits32 k x y
  unfolding test_holds if_eq
  holds-16 h d = rw h d

  pub holds-17 : k ≡ 17 → b ≡ le_of 32 x y → b ≡ test_holds Bits32 k x y
  unfolding test_holds if_eq
  holds-17 h d = rw h d

  pub holds-18 : k ≡ 18 → b ≡ lt_of 32 x y → b ≡ test_holds Bits32 k x y
  unfolding test_holds if_eq
  holds-18 h d = rw h d

  pub holds-19 : (k ≡ 14 → ⊥) → (k ≡ 15 → ⊥) → (k ≡ 16 → ⊥) → (k ≡ 17 → ⊥) → (k ≡ 18 → ⊥)
      → b ≡ ne_of 32 x y → b ≡ test_holds Bits32 k x y
  unfolding test_holds if_eq
  holds-19 p14 p15 p16 p17 p18 d = rw (ne_eqb k 14 p14, ne_eqb k 15 p15, ne_eqb k 16 p16, ne_eqb k 17 p17, ne_eqb k 18 p18) d

pub ruleset holds-ways = (holds-14, holds-15, holds-16, holds-17, holds-18, holds-19)
