-- The ways through the statements of a plain run.
-- Assumes nothing.
use Rattle.std.proofs.Common.{Err, None, Option, Some, Ok}
use Rattle.vm_definitions.specs.Operands.{Worked, valued}
use mathlib.Core.Path.{◌≡◌, refl, sym, ◌∙◌, ap}
use mathlib.Core.Bool.{Bool, true, false}
use mathlib.Core.List.{List, [], ◌∷◌}
use Prim.Native.Nat.{ℕ, zero, suc, ◌+◌, ◌-◌, ◌*◌, ◌%◌, ◌<◌, ◌≤◌}
use native.Mathlib.Omega.{arith}
use lib.ListN.{length, get_or, set, replicate}
use lib.Dec.{eqb, ltb, leb}
use borrow.Author.Tests.{eq-eqb, ne_eqb, lt-ltb, le-ltb, leb-true, ltb-true}
use Rattle.base_prelude.specs.Choice.{if_lt, if_eq, if_true}
use Rattle.base_prelude.proofs.Choice.{either}
use Rattle.base_limits.specs.declared.Width.TheVariants.{Bits32}
use Rattle.base_word.specs.Bytes.{word_bytes}
use Rattle.prog_tables.specs.Tests.{both}
use Rattle.prog_tables.specs.Statement.{is_test, expression_uses, operand_at}
use Rattle.prog_tables.proofs.Each.{both_right}
use Rattle.vm_definitions.specs.Access.{byte_address, word_address, byte_good, word_good, store_from}
use Rattle.vm_definitions.specs.Operands.{on_read}
use Rattle.vm_definitions.specs.Expressions.{test_holds}
use Rattle.vm_quick_operands.specs.Fast.{good_read, good_work}
use Rattle.vm_quick_statements.specs.declared.Move.{Move}
use Rattle.vm_definitions.specs.declared.Value.{Value}
use Rattle.vm_statements.specs.Three.{store}
use Rattle.vm_statements.specs.declared.Store.{Store}
use Rattle.vm_quick_statements.specs.declared.PlainRun.{PlainRun}
use Rattle.vm_quick_statements.specs.PlainRun.{to_row, Taken, taken, aimed, quick_jump, quick_block, quick_end, three_read, assigned_by, quick_assign, byte_by, quick_byte, word_by, quick_word, stored_by, stored_at, quick_at, quick_test, quick_jumps, quick_stores, quick_kind, quick_form, quick_step, Ended, ended_with, adding, on_move, plain_run_of}
use Rattle.prog_tables.proofs.Ranges.{one_more_lem}

-- the statement behind row n
onward : (n top : ℕ) (st m : List ℕ) → taken (to_row (n + 1) top) st m ≡ taken (to_row (suc n) top) st m
onward n top st m = ap (λ (i : ℕ). taken (to_row i top) st m) (one_more_lem n)

-- ---- targets

module _ (t : List ℕ) (c g a : ℕ) where
  pub aim-past : c ≤ a → false ≡ aimed t c g a
  unfolding aimed if_lt
  aim-past l = rw (le-ltb a c l)

  pub aim-own : (x : ℕ) → a < c → x ≡ get_or t (a * 27 + 1) 0 → eqb x g ≡ aimed t c g a
  unfolding aimed if_lt
  aim-own x l e = rw (lt-ltb a c l, ← e)

pub ruleset aiming = (aim-past, aim-own)

module _ (t : List ℕ) (c g n top a : ℕ) (b : Bool) (e : a ≡ get_or t (n * 27 + 4) 0) (p : b ≡ aimed t c g a) where
  pub jump_to : b ≡ true → to_row a top ≡ quick_jump t c g n top
  unfolding quick_jump if_true
  jump_to h = rw (← e, ← p, h)

  pub jump-not : b ≡ false → None ≡ quick_jump t c g n top
  unfolding quick_jump if_true
  jump-not h = rw (← e, ← p, h)

pub ruleset jumping = (jump_to, jump-not)

-- ---- blocks

pub open-words : (st st₁ st' : List ℕ) (at top b : ℕ) → st₁ ≡ set st at top → st' ≡ store_from st₁ (at + 1) (replicate b 0) → st' ≡ store_from st at (top ∷ replicate b 0)
unfolding store_from
open-words st st₁ st' at top b q o =
    o ∙ ap (λ (z : List ℕ). store_from z (at + 1) (replicate b 0)) q ∙ ap (λ (i : ℕ). store_from (set st at top) i (replicate b 0)) (one_more_lem at)

module _ (t : List ℕ) (size : ℕ) (st : List ℕ) (s : ℕ) (m : List ℕ) (n top a b : ℕ) (e : a ≡ get_or t (n * 27 + 4) 0) (p : b ≡ get_or t (n * 27 + 5) 0) where
  pub block-head : a < 3 → taken None st m ≡ quick_block t size st s m n top
  unfolding quick_block if_lt
  block-head l = rw (← e, lt-ltb a 3 l)

  pub block-past : 3 ≤ a → size ≤ a + b → taken None st m ≡ quick_block t size st s m n top
  unfolding quick_block if_lt
  block-past l h = rw (← e, ← p, le-ltb a 3 l, le-ltb (a + b) size h)

  pub block_in : (st' : List ℕ) → 3 ≤ a → a + b < size → st' ≡ store_from st (s + a) (top ∷ replicate b 0) → taken (to_row (n + 1) top) st' m ≡ quick_block t size st s m n top
  unfolding quick_block if_lt
  block_in st' l h o =
      onward n top st' m ∙ rw (← e, ← p, le-ltb a 3 l, lt-ltb (a + b) size h) (ap (λ (z : List ℕ). taken (to_row (suc n) top) z m) o)

pub ruleset blocks = (block-head, block-past, block_in)

module _ (t : List ℕ) (size : ℕ) (st : List ℕ) (s m n a : ℕ) (e : a ≡ get_or t (n * 27 + 4) 0) where
  pub end-past : size ≤ a → None ≡ quick_end t size st s m n
  unfolding quick_end if_lt
  end-past l = rw (← e, le-ltb a size l)

  module _ (x : ℕ) (l : a < size) (p : x ≡ get_or st (s + a) 0) where
    pub end-high : m < x → None ≡ quick_end t size st s m n
    unfolding quick_end if_lt
    end-high h = rw (← e, lt-ltb a size l, ← p, lt-ltb m x h)

    pub end-restores : x ≤ m → to_row (n + 1) x ≡ quick_end t size st s m n
    unfolding quick_end if_lt
    end-restores h = rw (← e, lt-ltb a size l, ← p, le-ltb m x h) (ap (λ (i : ℕ). to_row i x) (one_more_lem n))

pub ruleset ends = (end-past, end-high, end-restores)

-- ---- three operands

module _ (t : List ℕ) (at d size : ℕ) (st : List ℕ) (s : ℕ) (m : List ℕ) (f : Option ℕ) (p : f ≡ good_read size d st s m (operand_at t (at + 11))) where
  pub three-first : f ≡ None → None ≡ three_read t at d size st s m
  unfolding three_read on_read
  three-first e = rw (← p, e)

  module _ (x : ℕ) (g : Option ℕ) (e : f ≡ Some x) (q : g ≡ good_read size d st s m (operand_at t (at + 13))) where
    pub three-second : g ≡ None → None ≡ three_read t at d size st s m
    unfolding three_read on_read
    three-second h = rw (← p, e, ← q, h)

    module _ (y : ℕ) (k : Option ℕ) (h : g ≡ Some y) (o : k ≡ good_read size d st s m (operand_at t (at + 15))) where
      pub three_third : k ≡ None → None ≡ three_read t at d size st s m
      unfolding three_read on_read
      three_third i = rw (← p, e, ← q, h, ← o, i)

      pub three-all : (z : ℕ) → k ≡ Some z → store x y z ≡ three_read t at d size st s m
      unfolding three_read on_read
      three-all z i = rw (← p, e, ← q, h, ← o, i)

pub ruleset threes = (three-first, three-second, three_third, three-all)

-- ---- statements

pub byte-in : (n a : ℕ) (b : Bool) → b ≡ byte_good n a → b ≡ true → a < n
unfolding byte_good
byte-in n a b e q = ltb-true a n (sym e ∙ q)

pub word_in : (n a : ℕ) (b : Bool) → b ≡ word_good Bits32 n a → b ≡ true → a + 4 ≤ n
unfolding word_good
word_in n a b e q = leb-true (a + 4) n (both_right (eqb (a % 4) 0) (leb (a + 4) n) (sym e ∙ q))

module _ (t : List ℕ) (d size : ℕ) (st : List ℕ) (s : ℕ) (m : List ℕ) (n top : ℕ) where
  module _ (a : ℕ) (e : a ≡ get_or t (n * 27 + 4) 0) where
    pub assign-head : a < 3 → taken None st m ≡ quick_assign t d size st s m n top
    unfolding quick_assign if_lt
    assign-head l = rw (← e, lt-ltb a 3 l)

    pub assign-past : 3 ≤ a → size ≤ a → taken None st m ≡ quick_assign t d size st s m n top
    unfolding quick_assign if_lt
    assign-past l h = rw (← e, le-ltb a 3 l, le-ltb a size h)

    module _ (x : Worked) (l : 3 ≤ a) (h : a < size) (p : x ≡ good_work t (n * 27) size d st s m top) where
      pub assign-value : (v : Value) (st' : List ℕ) → x ≡ Ok v → st' ≡ set st (s + a) v.word → taken (to_row (n + 1) v.top) st' m ≡ quick_assign t d size st s m n top
      unfolding quick_assign assigned_by if_lt
      assign-value v st' q o = onward n v.top st' m ∙ rw (← e, le-ltb a 3 l, lt-ltb a size h, ← p, q, o, e)

      pub assign-stop : (k : ℕ) → x ≡ Err k → taken None st m ≡ quick_assign t d size st s m n top
      unfolding quick_assign assigned_by if_lt
      assign-stop k q = rw (← e, le-ltb a 3 l, lt-ltb a size h, ← p, q)

  -- a call is none of the statements of a plain run
  assign-none : (x : ℕ) → x ≡ get_or t (n * 27 + 6) 0 → x ≡ 2 → taken None st m ≡ assigned_by t d size st s m n top (good_work t (n * 27) size d st s m top)
  unfolding assigned_by good_work expression_uses if_eq
  assign-none x e q = rw (← e, q)

  pub assign-call : (x : ℕ) → x ≡ get_or t (n * 27 + 6) 0 → x ≡ 2 → taken None st m ≡ quick_assign t d size st s m n top
  unfolding quick_assign
  assign-call x e q =
      either (λ (y : Taken). taken None st m ≡ y) (get_or t (n * 27 + 4) 0) 3 _ _ (λ l. refl)
      (λ l. either (λ (y : Taken). taken None st m ≡ y) (get_or t (n * 27 + 4) 0) size _ _ (λ h. assign-none x e q) (λ h. refl))

  -- `set-byte` and `set-word`
  module _ (x : Option Store) (p : x ≡ three_read t (n * 27) d size st s m) where
    pub byte-unread : x ≡ None → taken None st m ≡ quick_byte t d size st s m n top
    unfolding quick_byte byte_by
    byte-unread e = rw (← p, e)

    pub word-unread : x ≡ None → taken None st m ≡ quick_word t d size st s m n top
    unfolding quick_word word_by
    word-unread e = rw (← p, e)

    module _ (y : Store) (a : ℕ) (e : x ≡ Some y) (b : Bool) where
      pub byte-out : a ≡ byte_address Bits32 y.base y.offset → b ≡ byte_good (length m) a → b ≡ false → taken None st m ≡ quick_byte t d size st s m n top
      unfolding quick_byte byte_by if_true
      byte-out q o h = rw (← p, e, ← q, ← o, h)

      pub byte-stored : (m' : List ℕ) → a ≡ byte_address Bits32 y.base y.offset → b ≡ byte_good (length m) a → b ≡ true → m' ≡ store_from m a (y.value % 256 ∷ [])
          → taken (to_row (n + 1) top) st m' ≡ quick_byte t d size st s m n top
      unfolding quick_byte byte_by if_true
      byte-stored m' q o h z = onward n top st m' ∙ rw (← p, e, ← q, ← o, h, z)

      pub word_out : a ≡ word_address Bits32 y.base y.offset → b ≡ word_good Bits32 (length m) a → b ≡ false → taken None st m ≡ quick_word t d size st s m n top
      unfolding quick_word word_by if_true
      word_out q o h = rw (← p, e, ← q, ← o, h)

      pub word-stored : (m' : List ℕ) → a ≡ word_address Bits32 y.base y.offset → b ≡ word_good Bits32 (length m) a → b ≡ true → m' ≡ store_from m a (word_bytes 4 y.value)
          → taken (to_row (n + 1) top) st m' ≡ quick_word t d size st s m n top
      unfolding quick_word word_by if_true
      word-stored m' q o h z = onward n top st m' ∙ rw (← p, e, ← q, ← o, h, z)

  -- `set @`
  module _ (a : ℕ) (x : Worked) (p : x ≡ good_work t (n * 27) size d st s m top) where
    pub stored-value : (v : Value) (m' : List ℕ) → x ≡ Ok v → m' ≡ store_from m a (word_bytes 4 v.word) → taken (to_row (n + 1) v.top) st m' ≡ stored_at t d size st s m n top a
    unfolding stored_at stored_by
    stored-value v m' q o = onward n v.top st m' ∙ rw (← p, q, o)

    pub stored-stop : (k : ℕ) → x ≡ Err k → taken None st m ≡ stored_at t d size st s m n top a
    unfolding stored_at stored_by
    stored-stop k q = rw (← p, q)

  module _ (k : ℕ) (e : k ≡ get_or t (n * 27 + 9) 0) where
    pub at_listed : 3 < k → taken None st m ≡ quick_at t d size st s m n top
    unfolding quick_at if_lt
    at_listed l = rw (← e, lt-ltb 3 k l)

    module _ (f : Option ℕ) (l : k ≤ 3) (p : f ≡ good_read size d st s m (operand_at t (n * 27 + 9))) where
      pub at-unread : f ≡ None → taken None st m ≡ quick_at t d size st s m n top
      unfolding quick_at if_lt on_read
      at-unread q = rw (← e, le-ltb 3 k l, ← p, q)

      module _ (a : ℕ) (b : Bool) (q : f ≡ Some a) (h : b ≡ word_good Bits32 (length m) a) where
        pub at_out : b ≡ false → taken None st m ≡ quick_at t d size st s m n top
        unfolding quick_at if_lt on_read if_true
        at_out z = rw (← e, le-ltb 3 k l, ← p, q, ← h, z)

        pub at_stored : (r : Option Move) (m' : List ℕ) → b ≡ true → taken r st m' ≡ stored_at t d size st s m n top a → taken r st m' ≡ quick_at t d size st s m n top
        unfolding quick_at if_lt on_read if_true
        at_stored r m' z o = rw (← e, le-ltb 3 k l, ← p, q, ← h, z) o

pub ruleset assigns = (assign-head, assign-past, assign-value, assign-stop)

pub ruleset bytes = (byte-unread, byte-out, byte-stored)

pub ruleset words = (word-unread, word_out, word-stored)

pub ruleset stored = (stored-value, stored-stop)

pub ruleset ats = (at_listed, at-unread, at_out, at_stored)

-- ---- tests

module _ (t : List ℕ) (c g d size : ℕ) (st : List ℕ) (s : ℕ) (m : List ℕ) (n top : ℕ) where
  module _ (k a : ℕ) (b : Bool) (e : a ≡ get_or t (n * 27 + 4) 0) (i : b ≡ aimed t c g a) where
    pub test-not : b ≡ false → taken None st m ≡ quick_test t c g d size st s m n top k
    unfolding quick_test if_true
    test-not h = rw (← e, ← i, h)

    module _ (f : Option ℕ) (h : b ≡ true) (p : f ≡ good_read size d st s m (operand_at t (n * 27 + 11))) where
      pub test-unread : f ≡ None → taken None st m ≡ quick_test t c g d size st s m n top k
      unfolding quick_test if_true on_read
      test-unread q = rw (← e, ← i, h, ← p, q)

      module _ (x : ℕ) (r : Option ℕ) (q : f ≡ Some x) (o : r ≡ good_read size d st s m (operand_at t (n * 27 + 13))) where
        pub test-half : r ≡ None → taken None st m ≡ quick_test t c g d size st s m n top k
        unfolding quick_test if_true on_read
        test-half z = rw (← e, ← i, h, ← p, q, ← o, z)

        pub test-goes : (y : ℕ) (v : Option Move) → r ≡ Some y → v ≡ to_row (if_true (test_holds Bits32 k x y) (suc n) a) top → taken v st m ≡ quick_test t c g d size st s m n top k
        unfolding quick_test if_true on_read
        test-goes y v z w = rw (← e, ← i, h, ← p, q, ← o, z) (ap (λ (u : Option Move). taken u st m) w)

module _ (n top k a x y : ℕ) (v : Bool) (w : v ≡ test_holds Bits32 k x y) where
  pub branch-on : v ≡ true → to_row (n + 1) top ≡ to_row (if_true (test_holds Bits32 k x y) (suc n) a) top
  unfolding if_true
  branch-on j = rw (← w, j) (ap (λ (i : ℕ). to_row i top) (one_more_lem n))

  pub branch-off : v ≡ false → to_row a top ≡ to_row (if_true (test_holds Bits32 k x y) (suc n) a) top
  unfolding if_true
  branch-off j = rw (← w, j)

pub ruleset branches = (branch-on, branch-off)

pub ruleset tests = (test-not, test-unread, test-half, test-goes)

-- ---- by the kind

module _ (t : List ℕ) (c g d size : ℕ) (st : List ℕ) (s : ℕ) (m : List ℕ) (n top k : ℕ) (b : Bool) (e : k ≡ get_or t (n * 27) 0) (v : b ≡ is_test k) where
  module _ (r : Option Move) (st' m' : List ℕ) where
    pub form-test : b ≡ true → taken r st m ≡ quick_test t c g d size st s m n top k → taken r st m ≡ quick_form t c g d size st s m n top
    unfolding quick_form quick_kind if_true
    form-test h q = rw (← e, ← v, h) q

    pub form-block : k ≡ 3 → taken r st' m ≡ quick_block t size st s m n top → taken r st' m ≡ quick_form t c g d size st s m n top
    unfolding quick_form quick_kind is_test if_lt if_eq if_true
    form-block h q = rw (← e, h) q

    pub form-end : k ≡ 4 → r ≡ quick_end t size st s (length m) n → taken r st m ≡ quick_form t c g d size st s m n top
    unfolding quick_form quick_kind is_test if_lt if_eq if_true
    form-end h q = rw (← e, h) (ap (λ (x : Option Move). taken x st m) q)

    pub form-let : k ≡ 5 → taken r st' m ≡ quick_assign t d size st s m n top → taken r st' m ≡ quick_form t c g d size st s m n top
    unfolding quick_form quick_kind is_test if_lt if_eq if_true
    form-let h q = rw (← e, h) q

    pub form-set : k ≡ 6 → taken r st' m ≡ quick_assign t d size st s m n top → taken r st' m ≡ quick_form t c g d size st s m n top
    unfolding quick_form quick_kind is_test if_lt if_eq if_true
    form-set h q = rw (← e, h) q

    pub form-at : k ≡ 7 → taken r st m' ≡ quick_at t d size st s m n top → taken r st m' ≡ quick_form t c g d size st s m n top
    unfolding quick_form quick_kind quick_stores is_test if_lt if_eq if_true
    form-at h q = rw (← e, h) q

    pub form-byte : k ≡ 8 → taken r st m' ≡ quick_byte t d size st s m n top → taken r st m' ≡ quick_form t c g d size st s m n top
    unfolding quick_form quick_kind quick_stores is_test if_lt if_eq if_true
    form-byte h q = rw (← e, h) q

    pub form-word : k ≡ 9 → taken r st m' ≡ quick_word t d size st s m n top → taken r st m' ≡ quick_form t c g d size st s m n top
    unfolding quick_form quick_kind quick_stores is_test if_lt if_eq if_true
    form-word h q = rw (← e, h) q

    pub form-goto : k ≡ 10 → r ≡ quick_jump t c g n top → taken r st m ≡ quick_form t c g d size st s m n top
    unfolding quick_form quick_kind quick_stores quick_jumps is_test if_lt if_eq if_true
    form-goto h q = rw (← e, h) (ap (λ (x : Option Move). taken x st m) q)

    pub form-else : k ≡ 20 → r ≡ quick_jump t c g n top → taken r st m ≡ quick_form t c g d size st s m n top
    unfolding quick_form quick_kind quick_stores quick_jumps is_test if_lt if_eq if_true
    form-else h q = rw (← e, h) (ap (λ (x : Option Move). taken x st m) q)

    pub form-arm : k ≡ 21 → r ≡ quick_jump t c g n top → taken r st m ≡ quick_form t c g d size st s m n top
    unfolding quick_form quick_kind quick_stores quick_jumps is_test if_lt if_eq if_true
    form-arm h q = rw (← e, h) (ap (λ (x : Option Move). taken x st m) q)

  pub form-end-if : k ≡ 22 → taken (to_row (n + 1) top) st m ≡ quick_form t c g d size st s m n top
  unfolding quick_form quick_kind quick_stores quick_jumps is_test if_lt if_eq if_true
  form-end-if h = onward n top st m ∙ rw (← e, h)

  pub form-none : b ≡ false → (k ≡ 3 → ⊥) → (k ≡ 4 → ⊥) → (k ≡ 5 → ⊥) → (k ≡ 6 → ⊥) → (k ≡ 7 → ⊥) → (k ≡ 8 → ⊥) → (k ≡ 9 → ⊥) → (k ≡ 10 → ⊥) → (k ≡ 20 → ⊥) → (k ≡ 21 → ⊥)
      → (k ≡ 22 → ⊥) → taken None st m ≡ quick_form t c g d size st s m n top
  unfolding quick_form quick_kind quick_stores quick_jumps if_true if_eq
  form-none h a3 a4 a5 a6 a7 a8 a9 a10 a20 a21 a22 =
      rw (
        ← e,
        ← v,
        h,
        ne_eqb k 3 a3,
        ne_eqb k 4 a4,
        ne_eqb k 5 a5,
        ne_eqb k 6 a6,
        ne_eqb k 7 a7,
        ne_eqb k 8 a8,
        ne_eqb k 9 a9,
        ne_eqb k 10 a10,
        ne_eqb k 20 a20,
        ne_eqb k 21 a21,
        ne_eqb k 22 a22,
      )

pub ruleset forms =
    (form-test, form-block, form-end, form-let, form-set, form-at, form-byte, form-word, form-goto, form-else, form-arm, form-end-if, form-none)

module _ (t : List ℕ) (c g d size : ℕ) (st : List ℕ) (s : ℕ) (m : List ℕ) (n top : ℕ) where
  pub step_past : c ≤ n → taken None st m ≡ quick_step t c g d size st s m n top
  unfolding quick_step if_lt
  step_past l = rw (le-ltb n c l)

  module _ (own : ℕ) (l : n < c) (e : own ≡ get_or t (n * 27 + 1) 0) where
    pub step_other : (own ≡ g → ⊥) → taken None st m ≡ quick_step t c g d size st s m n top
    unfolding quick_step if_lt if_eq
    step_other h = rw (lt-ltb n c l, ← e, ne_eqb own g h)

    pub step-own : (r : Option Move) (st' m' : List ℕ) → own ≡ g → taken r st' m' ≡ quick_form t c g d size st s m n top → taken r st' m' ≡ quick_step t c g d size st s m n top
    unfolding quick_step if_lt if_eq
    step-own r st' m' h q = rw (lt-ltb n c l, ← e, eq-eqb own g h) q

pub ruleset steps = (step_past, step_other, step-own)

-- ---- the plain run

add_none : (y : Ended) → adding 0 y ≡ y
unfolding adding
add_none y =
    let z : 0 + y.count ≡ y.count = omega arith in
    ap (λ (n : ℕ). record { next = y.next; top = y.top; count = n; stack = y.stack; memory = y.memory }) z

add-more : (n : ℕ) (y : Ended) → adding (n + 1) y ≡ adding n (adding 1 y)
unfolding adding
add-more n y =
    let z : n + 1 + y.count ≡ n + (1 + y.count) = omega arith in
    ap (λ (i : ℕ). record { next = y.next; top = y.top; count = i; stack = y.stack; memory = y.memory }) z

module _ (t : List ℕ) (c g d size s : ℕ) where
  -- what is left to do gives the whole answer
  pub record SoFar (budget : ℕ) (st₀ m₀ : List ℕ) (n₀ top₀ : ℕ) (st m : List ℕ) (n top count : ℕ) : Type 0 where
    pub below : count ≤ budget
    pub stack : length st ≡ length st₀
    pub memory : length m ≡ length m₀
    pub rest : adding count (plain_run_of t c g d size s (budget - count) st m n top) ≡ plain_run_of t c g d size s budget st₀ m₀ n₀ top₀

  pub so-none : (budget : ℕ) (st m : List ℕ) (n top : ℕ) → SoFar budget st m n top st m n top 0
  so-none budget st m n top =
      let z : budget - 0 ≡ budget = omega arith in
      record {
        below = omega arith;
        stack = refl;
        memory = refl;
        rest = add_none (plain_run_of t c g d size s (budget - 0) st m n top) ∙ ap (λ (b : ℕ). plain_run_of t c g d size s b st m n top) z;
      }

  module _ (budget : ℕ) (st₀ m₀ : List ℕ) (n₀ top₀ : ℕ) (st m : List ℕ) (n top count : ℕ) (h : SoFar budget st₀ m₀ n₀ top₀ st m n top count) where
    module _ (x : Option Move) (st' m' : List ℕ) (l : count < budget) (q : taken x st' m' ≡ quick_step t c g d size st s m n top) where
      one : plain_run_of t c g d size s (budget - count) st m n top
          ≡ on_move x (record { next = n; top = top; count = 0; stack = st'; memory = m' })
          (λ i e. adding 1 (plain_run_of t c g d size s (budget - (count + 1)) st' m' i e))
      unfolding plain_run_of
      one =
          let z : budget - count ≡ suc (budget - (count + 1)) = omega arith in
          ap (λ (b : ℕ). plain_run_of t c g d size s b st m n top) z
          ∙ ap
          (λ (y : Taken). on_move y.move (record { next = n; top = top; count = 0; stack = y.stack; memory = y.memory })
          (λ i e. adding 1 (plain_run_of t c g d size s (budget - (count + 1)) y.stack y.memory i e)))
          (sym q)

      pub so-more : (i e : ℕ) → x ≡ to_row i e → length st' ≡ length st → length m' ≡ length m → SoFar budget st₀ m₀ n₀ top₀ st' m' i e (count + 1)
      unfolding on_move
      so-more i e o ls lm =
          record {
            below = omega (arith, l);
            stack = ls ∙ h.stack;
            memory = lm ∙ h.memory;
            rest =
                add-more count (plain_run_of t c g d size s (budget - (count + 1)) st' m' i e)
                ∙ ap (adding count) (sym (one ∙ rw o))
                ∙ h.rest;
          }

      pub so-stays : x ≡ None → ended_with (record { next = n; top = top; count = count }) st' m' ≡ plain_run_of t c g d size s budget st₀ m₀ n₀ top₀
      unfolding on_move adding
      so-stays o =
          let z : count ≡ count + 0 = omega arith in
          ap (λ (i : ℕ). record { next = n; top = top; count = i; stack = st'; memory = m' }) z
          ∙ ap (adding count) (sym (one ∙ rw o))
          ∙ h.rest

    pub so-done : budget ≤ count → ended_with (record { next = n; top = top; count = budget }) st m ≡ plain_run_of t c g d size s budget st₀ m₀ n₀ top₀
    unfolding adding plain_run_of
    so-done l =
        let z : budget - count ≡ 0 = omega (arith, l) in
        let y : budget ≡ count + 0 = omega (arith, h.below) in
        ap (λ (i : ℕ). record { next = n; top = top; count = i; stack = st; memory = m }) y
        ∙ ap (λ (b : ℕ). adding count (plain_run_of t c g d size s b st m n top)) (sym z)
        ∙ h.rest

pub ruleset going = (so-none, so-more, so-stays, so-done)
