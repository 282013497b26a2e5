-- A plain run: statements inside one frame that neither call nor return, each tested for 35 and taken at once. A statement that is not good, that
-- stops, or whose form is none of these stays, and is left to the exact step. What is taken is what the machine's step makes of it
-- (proofs/Right.antt, proofs/Run.antt).
-- Assumes nothing.
use Rattle.std.specs.Prelude.{Err, Ok, Option, Some, None}
use Rattle.vm_definitions.specs.Operands.{Worked, valued}
use Rattle.std.specs.Prelude.{ℕ, zero, suc, ◌+◌, ◌%◌, Bool, false, List, [], ◌∷◌, eqb, get_or, length, set, replicate}
use Rattle.base_prelude.specs.Choice.{if_lt, if_eq, if_true}
use Rattle.base_limits.specs.declared.Width.TheVariants.{Bits32}
use Rattle.base_word.specs.Bytes.{word_bytes}
use Rattle.lang_kinds.specs.Kinds as kind
use Rattle.prog_tables.specs.Layout.{frame_head, address_operand}
use Rattle.prog_tables.specs.Places.{place_of, kind_from, func_from, aFrom, bFrom, address_kind, address_place, first_place, second_place, third_place}
use Rattle.prog_tables.specs.Statement.{is_test, operand_at}
use Rattle.vm_definitions.specs.Access.{byte_address, word_address, byte_good, word_good, store_from}
use Rattle.vm_definitions.specs.Operands.{on_read}
use Rattle.vm_definitions.specs.Expressions.{test_holds}
use Rattle.vm_quick_operands.specs.Fast.{good_read, good_work}
use Rattle.vm_statements.specs.Three.{store}
use Rattle.vm_statements.specs.declared.Store.{Store}
use Rattle.vm_quick_statements.specs.declared.Move.{Move}
use Rattle.vm_quick_statements.specs.declared.PlainRun.{PlainRun}

-- what became of a statement, with the stack and the memory behind it
pub record Taken : Type 0 where
  pub move : Option Move
  pub stack : List ℕ
  pub memory : List ℕ

-- the statement goes on at a row with an auto top
abbrev pub to_row : ℕ → ℕ → Option Move
to_row n top = Some (record { next = n; top = top })

abbrev pub taken : Option Move → List ℕ → List ℕ → Taken
taken x st m = record { move = x; stack = st; memory = m }

-- ---- targets

-- row a of c rows is a row of function g
unfoldable pub aimed : List ℕ → ℕ → ℕ → ℕ → Bool
aimed t c g a = if_lt a c (eqb (func_from t (place_of a)) g) false

-- `goto` and `else` at row n
unfoldable pub quick_jump : List ℕ → ℕ → ℕ → ℕ → ℕ → Option Move
quick_jump t c g n top = if_true (aimed t c g (aFrom t (place_of n))) (to_row (aFrom t (place_of n)) top) None

-- ---- blocks

-- `block` at row n: its words lie behind the head of the frame
unfoldable pub quick_block : List ℕ → ℕ → List ℕ → ℕ → List ℕ → ℕ → ℕ → Taken
quick_block t size st s m n top =
    if_lt (aFrom t (place_of n)) frame_head (taken None st m)
    (if_lt (aFrom t (place_of n) + bFrom t (place_of n)) size
    (taken (to_row (suc n) top) (store_from st (s + aFrom t (place_of n)) (top ∷ replicate (bFrom t (place_of n)) 0)) m)
    (taken None st m))

-- `end block`: the auto top that it restores is within m bytes of memory
unfoldable pub quick_end : List ℕ → ℕ → List ℕ → ℕ → ℕ → ℕ → Option Move
quick_end t size st s m n =
    if_lt (aFrom t (place_of n)) size
    (if_lt m (get_or st (s + aFrom t (place_of n)) 0) None (to_row (suc n) (get_or st (s + aFrom t (place_of n)) 0)))
    None

-- ---- operands of the row whose first word is at a place

unfoldable pub three_read : List ℕ → ℕ → ℕ → ℕ → List ℕ → ℕ → List ℕ → Option Store
three_read t at d size st s m =
    on_read (good_read size d st s m (operand_at t (first_place at))) None
    (λ x. on_read (good_read size d st s m (operand_at t (second_place at))) None
    (λ y. on_read (good_read size d st s m (operand_at t (third_place at))) None (λ z. store x y z)))

-- ---- statements at row n of table t, in the frame at s

module _ (t : List ℕ) (d size : ℕ) (st : List ℕ) (s : ℕ) (m : List ℕ) (n top : ℕ) where
  unfoldable pub assigned_by : Worked → Taken
  assigned_by (Ok got) = taken (to_row (suc n) got.top) (set st (s + aFrom t (place_of n)) got.word) m
  assigned_by (Err k) = taken None st m

  -- `let` and `set` of a local: the word lies behind the head of the frame
  unfoldable pub quick_assign : Taken
  quick_assign =
      if_lt (aFrom t (place_of n)) frame_head (taken None st m)
      (if_lt (aFrom t (place_of n)) size (assigned_by (good_work t (place_of n) size d st s m top)) (taken None st m))

  unfoldable pub byte_by : Option Store → Taken
  byte_by (Some x) =
      if_true (byte_good (length m) (byte_address Bits32 x.base x.offset))
      (taken (to_row (suc n) top) st (store_from m (byte_address Bits32 x.base x.offset) (x.value % 256 ∷ [])))
      (taken None st m)
  byte_by None = taken None st m

  -- `set-byte`
  unfoldable pub quick_byte : Taken
  quick_byte = byte_by (three_read t (place_of n) d size st s m)

  unfoldable pub word_by : Option Store → Taken
  word_by (Some x) =
      if_true (word_good Bits32 (length m) (word_address Bits32 x.base x.offset))
      (taken (to_row (suc n) top) st (store_from m (word_address Bits32 x.base x.offset) (word_bytes 4 x.value)))
      (taken None st m)
  word_by None = taken None st m

  -- `set-word`
  unfoldable pub quick_word : Taken
  quick_word = word_by (three_read t (place_of n) d size st s m)

  unfoldable pub stored_by : ℕ → Worked → Taken
  stored_by a (Ok got) = taken (to_row (suc n) got.top) st (store_from m a (word_bytes 4 got.word))
  stored_by a (Err k) = taken None st m

  -- `set @` with its address
  unfoldable pub stored_at : ℕ → Taken
  stored_at a = stored_by a (good_work t (place_of n) size d st s m top)

  -- `set @`: its address is no `@` operand itself
  unfoldable pub quick_at : Taken
  quick_at =
      if_lt address_operand (address_kind t (place_of n)) (taken None st m)
      (on_read (good_read size d st s m (operand_at t (address_place (place_of n)))) (taken None st m)
      (λ a. if_true (word_good Bits32 (length m) a) (stored_at a) (taken None st m)))

module _ (t : List ℕ) (c g d size : ℕ) (st : List ℕ) (s : ℕ) (m : List ℕ) (n top : ℕ) where
  -- a test of kind k
  unfoldable pub quick_test : ℕ → Taken
  quick_test k =
      if_true (aimed t c g (aFrom t (place_of n)))
      (on_read (good_read size d st s m (operand_at t (first_place (place_of n)))) (taken None st m)
      (λ x. on_read (good_read size d st s m (operand_at t (second_place (place_of n)))) (taken None st m)
      (λ y. taken (to_row (if_true (test_holds Bits32 k x y) (suc n) (aFrom t (place_of n))) top) st m)))
      (taken None st m)

  -- the statement of kind k: jumps and `end if`
  unfoldable pub quick_jumps : ℕ → Taken
  quick_jumps k =
      if_eq k kind.goto (taken (quick_jump t c g n top) st m)
      (if_eq k kind.else (taken (quick_jump t c g n top) st m)
      (if_eq k kind.else_if (taken (quick_jump t c g n top) st m)
      (if_eq k kind.end_if (taken (to_row (suc n) top) st m)
      (taken None st m))))

  -- stores into memory
  unfoldable pub quick_stores : ℕ → Taken
  quick_stores k =
      if_eq k kind.set_at (quick_at t d size st s m n top)
      (if_eq k kind.set_byte (quick_byte t d size st s m n top)
      (if_eq k kind.set_word (quick_word t d size st s m n top)
      (quick_jumps k)))

  -- tests, blocks, `let` and `set` of a local
  unfoldable pub quick_kind : ℕ → Taken
  quick_kind k =
      if_true (is_test k) (quick_test k)
      (if_eq k kind.block (quick_block t size st s m n top)
      (if_eq k kind.end_block (taken (quick_end t size st s (length m) n) st m)
      (if_eq k kind.let_local (quick_assign t d size st s m n top)
      (if_eq k kind.set (quick_assign t d size st s m n top)
      (quick_stores k)))))

  unfoldable pub quick_form : Taken
  quick_form = quick_kind (kind_from t (place_of n))

  -- the statement at row n, where that is one of c rows and a row of function g
  unfoldable pub quick_step : Taken
  quick_step = if_lt n c (if_eq (func_from t (place_of n)) g quick_form (taken None st m)) (taken None st m)

-- ---- the plain run

-- where a plain run ends: the next statement, the auto top, the steps, the stack and the memory
pub record Ended : Type 0 where
  pub next : ℕ
  pub top : ℕ
  pub count : ℕ
  pub stack : List ℕ
  pub memory : List ℕ

abbrev pub ended_with : PlainRun → List ℕ → List ℕ → Ended
ended_with x st m = record { next = x.next; top = x.top; count = x.count; stack = st; memory = m }

-- so many steps more
unfoldable pub adding : ℕ → Ended → Ended
adding k x = record { next = x.next; top = x.top; count = k + x.count; stack = x.stack; memory = x.memory }

unfoldable pub on_move : {X : Type 0} → Option Move → X → (ℕ → ℕ → X) → X
on_move (Some go) x f = f go.next go.top
on_move None x f = x

-- statements within a budget until one stays
module _ (t : List ℕ) (c g d size s : ℕ) where
  unfoldable pub plain_run_of : ℕ → List ℕ → List ℕ → ℕ → ℕ → Ended
  plain_run_of zero st m n top = record { next = n; top = top; count = 0; stack = st; memory = m }
  plain_run_of (suc b) st m n top =
      on_move (quick_step t c g d size st s m n top).move
      (record {
        next = n;
        top = top;
        count = 0;
        stack = (quick_step t c g d size st s m n top).stack;
        memory = (quick_step t c g d size st s m n top).memory;
      })
      (λ i e. adding 1 (plain_run_of b (quick_step t c g d size st s m n top).stack (quick_step t c g d size st s m n top).memory i e))
