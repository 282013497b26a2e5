-- A statement that a plain run takes is good, and has the effect that the machine's definitions give it.
-- Assumes nothing.
use Rattle.std.proofs.Common.{Err, None, Option, Some, Ok}
use Rattle.vm_definitions.specs.Operands.{Worked, valued}
use mathlib.Core.Path.{◌≡◌, refl, sym, ◌∙◌, ap, subst}
use mathlib.Core.Bool.{Bool, true, false, not}
use mathlib.Core.List.{List, [], ◌∷◌}
use Prim.Native.Nat.{ℕ, zero, suc, ◌+◌, ◌*◌, ◌%◌, ◌<◌, ◌≤◌}
use native.Mathlib.Decide.{ℕ_discrete}
use native.Mathlib.Omega.{arith}
use lib.ListN.{length, get_or, set, take, replicate, length-set}
use lib.Dec.{eqb, ltb, leb}
use borrow.Author.Tests.{eq-eqb, ne_eqb, lt-ltb, le-ltb, le-leb, lt-leb, eqb-true, ltb-true}
use Rattle.base_prelude.specs.Choice.{if_lt, if_eq, if_true}
use Rattle.base_prelude.proofs.Choice.{true-false, either, either-eq, either_true}
use Rattle.base_limits.specs.declared.Width.TheVariants.{Bits32}
use Rattle.base_limits.specs.declared.State.TheVariants.{Running}
use Rattle.base_limits.specs.declared.Machine.{Machine}
use Rattle.base_limits.specs.Record.{going_on}
use Rattle.base_word.specs.Bytes.{word_bytes}
use Rattle.prog_tables.specs.Tests.{both, one_of, given, some, some_of}
use Rattle.prog_tables.specs.Statement.{Row, has_expression, is_test, is_call_row, is_call, is_import, is_call_expression, expression_uses, used_by, operand_of, operand_at, slots, row_from, row_at}
use Rattle.prog_tables.specs.Program.{Program, lent_program}
use Rattle.prog_tables.specs.Nesting.{is_listed, has_target}
use Rattle.prog_tables.specs.Faults.{expression_listed, in_function, size_at, operand_fault, address_listed, kind_fault, target_fault, function_fault, import_fault, callee_fault, size_fault, own_word, has_word, word_fault, operands_fault, address_fault, row_fault}
use Rattle.prog_tables.specs.declared.Operand.{Operand}
use Rattle.vm_definitions.specs.Access.{byte_address, word_address, byte_good, word_good, store_from}
use Rattle.vm_definitions.specs.Operands as machine
use Rattle.vm_definitions.specs.Operands.{with_word, is_at, number_in, read_of, read_all, on_read}
use Rattle.vm_definitions.specs.Expressions.{eval_of, test_holds, operand_no}
use Rattle.vm_definitions.specs.Frames.{is_return, is_calling, importing, head_good}
use Rattle.vm_definitions.proofs.Words.{word-32}
use Rattle.vm_definitions.specs.Step.{Effect, leaves, keeps, stores, goes_to, block_of, end_block_of, test_of, assigned, assigned_at, set_at_of, set_byte_by, set_word_by, arguments_of, worked_of, effect_of}
use Rattle.vm_definitions.specs.Lent.{world}
use Rattle.vm_definitions.proofs.Kept.{TopIn, top-eval}
use Rattle.vm_definitions.proofs.Stores.{store_length, store-before}
use Rattle.vm_quick_operands.specs.Fast.{good_read, good_work}
use Rattle.vm_quick_operands.proofs.Good.{Sound, good-read, Valued, good-work, no-fault, Function, row_within, row-size, bad-got}
use Rattle.vm_statements.proofs.Forms.{test-bare, test-row, test-uncalled, test-own, of_test}
use Rattle.vm_quick_statements.specs.declared.Move.{Move}
use Rattle.vm_statements.specs.Three.{store}
use Rattle.vm_statements.specs.declared.Store.{Store}
use Rattle.vm_quick_statements.specs.PlainRun.{to_row, Taken, taken, aimed, quick_jump, quick_block, quick_end, three_read, assigned_by, quick_assign, byte_by, quick_byte, word_by, quick_word, stored_by, stored_at, quick_at, quick_test, quick_jumps, quick_stores, quick_kind, quick_form, quick_step}
use Rattle.vm_quick_statements.proofs.ByKind.{Sets, Jumps, let-sets, set-sets, goto-jumps, else-jumps, else-if-jumps, one_of_two, all_three, plain-call, plain-import}
use Rattle.prog_tables.proofs.CallRows.{bare-call, bare-import}
use Rattle.prog_tables.proofs.Each.{both_false}
use Rattle.prog_tables.proofs.Ranges.{test-least, test-most}

-- ---- targets

pub record Aims (t : List ℕ) (c g a : ℕ) : Type 0 where
  pub below : a < c
  pub own : get_or t (a * 27 + 1) 0 ≡ g

aims : (t : List ℕ) (c g a : ℕ) → aimed t c g a ≡ true → Aims t c g a
unfolding aimed
aims t c g a =
    either (λ (b : Bool). b ≡ true → Aims t c g a) a c (eqb (get_or t (a * 27 + 1) 0) g) false
    (λ l e. record { below = l; own = eqb-true _ g e }) (λ l e. true-false (sym e))

target-in : (p : Program) (n g a : ℕ) → in_function p.rows p.count n ≡ true → (p.rows n).func ≡ g → (p.rows n).a ≡ a → a < p.count → (p.rows a).func ≡ g
    → target_fault p n ≡ false
unfolding target_fault
target-in p n g a i j k l m = rw (i, k, lt-ltb a p.count l, m, j, eq-eqb g g refl) (both_false (one_of (has_target (p.rows n).kind) (eqb (p.rows n).kind 10)))

-- ---- a row of a plain run

-- what a plain run stands on: the function, the frame, what is lent, the auto top
pub record InFrame (t : List ℕ) (c g size : ℕ) (r : Machine) (st m : List ℕ) : Type 0 where
  pub state : r.state ≡ Running
  pub function : Function (row_at t) c g size
  pub ends : r.frame + size ≡ r.used
  pub room : r.used ≤ length st
  pub stack : length st ≤ 16384
  pub memory : length m ≤ 65536
  pub top : r.top ≤ length m
  pub head : head_good Bits32 (row_at t) c st r.frame ≡ true

module _ (t : List ℕ) (c : ℕ) (lw : List ℕ) (lc g d size : ℕ) (r : Machine) (st m : List ℕ) where
  abbrev prog : Program
  prog = lent_program t c lw lc d

  abbrev n : ℕ
  n = r.next

  abbrev s : ℕ
  s = r.frame

  abbrev row : Row
  row = row_at t r.next

  abbrev a : ℕ
  a = get_or t (r.next * 27 + 4) 0

  -- the statement went on at statement i with this auto top, stack and memory
  pub record Went (i end : ℕ) (st' m' : List ℕ) : Type 0 where
    pub below : n < c
    pub own : row.func ≡ g
    pub good : row_fault prog n ≡ false
    pub line : eqb row.kind 1 ≡ false
    pub tail : eqb row.kind 12 ≡ false
    pub calls : is_call row.kind row.expr ≡ false
    pub imports : importing row ≡ false
    pub returns : is_return row ≡ false
    pub block : given (eqb row.kind 4) (leb (get_or st (s + row.a) 0) (length m)) ≡ true
    pub effect : effect_of prog (world r st m) ≡ leaves (world (going_on r i end) st' m')
    pub stack : length st' ≡ length st
    pub memory : length m' ≡ length m
    pub first : get_or st' s 0 ≡ get_or st s 0
    pub second : get_or st' (s + 1) 0 ≡ get_or st (s + 1) 0
    pub top : end ≤ length m

  -- nothing happened
  pub record Same (st' m' : List ℕ) : Type 0 where
    pub stack : st' ≡ st
    pub memory : m' ≡ m

  unfoldable pub RightBy : Option Move → List ℕ → List ℕ → Type 0
  RightBy (Some go) st' m' = Went go.next go.top st' m'
  RightBy None st' m' = Same st' m'

  abbrev pub Right : Taken → Type 0
  Right x = RightBy x.move x.stack x.memory

  module _ (h : InFrame t c g size r st m) (below : r.next < c) (own : (row_at t r.next).func ≡ g) where
    within : in_function (row_at t) c n ≡ true
    within = row_within t c g size h.function n own

    sized : size_at (row_at t) c n ≡ size
    sized = row-size t c g size h.function n own

    stays : Right (taken None st m)
    unfolding RightBy
    stays = record { stack = refl; memory = refl }

    fields-a : row.a ≡ a
    unfolding row_at row_from
    fields-a = refl

    fields-b : row.b ≡ get_or t (r.next * 27 + 5) 0
    unfolding row_at row_from
    fields-b = refl

    fields-kind : row.kind ≡ get_or t (r.next * 27) 0
    unfolding row_at row_from
    fields-kind = refl

    used : row.operands ≡ take (used_by row.kind row.expr row.count) (slots t (n * 27))
    unfolding row_at row_from
    used = refl

    func-of : get_or t (a * 27 + 1) 0 ≡ g → (row_at t a).func ≡ g
    unfolding row_at row_from
    func-of q = q

    aims-good : aimed t c g a ≡ true → target_fault prog n ≡ false
    aims-good e = target-in prog n g a within own fields-a (aims t c g a e).below (func-of (aims t c g a e).own)

    -- ---- rows that call nothing

    bare-callee : has_expression row.kind ≡ false → is_call_row row.kind ≡ false → callee_fault prog n ≡ false
    unfolding callee_fault function_fault import_fault
    bare-callee e q = rw (bare-call row.kind row.expr e q, bare-import row.kind row.expr e q)

    plain-callee : is_call_row row.kind ≡ false → is_call_expression row.expr ≡ false → callee_fault prog n ≡ false
    unfolding callee_fault function_fault import_fault
    plain-callee e q = rw (plain-call row.kind row.expr e q, plain-import row.kind row.expr q)

    -- ---- `goto`, `else`, `end if`

    went-jump : (k : ℕ) → Jumps k → row.kind ≡ k → aimed t c g a ≡ true → Went a r.top st m
    unfolding kind_fault size_fault word_fault operands_fault address_fault is_return is_calling used_by if_lt if_eq if_true some_of effect_of goes_to
    went-jump k x q e =
        let i = x.inner in
        record {
          below = below;
          own = own;
          good =
              no-fault prog n (rw (q, i.listed, i.row, i.has)) (aims-good e) (bare-callee (rw (q, i.has)) (rw (q, i.bare, i.tail))) (rw (q, i.function)) (rw (q, i.own))
              (rw (used, q, i.has, i.bare, i.tail, i.test, i.byte, i.word)) (rw (q, i.at));
          line = rw (q, i.function);
          tail = rw (q, i.tail);
          calls = bare-call row.kind row.expr (rw (q, i.has)) (rw (q, i.bare, i.tail));
          imports = bare-import row.kind row.expr (rw (q, i.has)) (rw (q, i.bare, i.tail));
          returns = rw (q, i.end, i.returns);
          block = rw (q, i.leaves);
          effect =
              rw (q, i.bare, i.has, i.end, i.returns, i.test, i.block, i.leaves, x.no-let, x.no-set, i.at, i.byte, i.word, i.tail, i.close, fields-a)
              (all_three (eqb k 10) (eqb k 20) (eqb k 21) _);
          stack = refl;
          memory = refl;
          first = refl;
          second = refl;
          top = h.top;
        }

    right-jump : (aimed t c g a ≡ true → Went a r.top st m) → Right (taken (quick_jump t c g n r.top) st m)
    unfolding quick_jump RightBy
    right-jump go =
        either_true (λ (x : Option Move). RightBy x st m) (aimed t c g a) (to_row a r.top) None go (λ e. stays)

    right-22 : row.kind ≡ 22 → Right (taken (to_row (suc n) r.top) st m)
    unfolding RightBy kind_fault target_fault has_target size_fault word_fault operands_fault address_fault is_listed has_expression is_test is_return is_calling has_word used_by if_lt if_eq if_true some_of
        effect_of goes_to
    right-22 q =
        record {
          below = below;
          own = own;
          good = no-fault prog n (rw q) (rw q) (bare-callee (rw q) (rw q)) (rw q) (rw q) (rw (used, q)) (rw q);
          line = rw q;
          tail = rw q;
          calls = bare-call row.kind row.expr (rw q) (rw q);
          imports = bare-import row.kind row.expr (rw q) (rw q);
          returns = rw q;
          block = rw q;
          effect = rw q;
          stack = refl;
          memory = refl;
          first = refl;
          second = refl;
          top = h.top;
        }

    -- ---- blocks

    went-3 : row.kind ≡ 3 → 3 ≤ a → a + get_or t (r.next * 27 + 5) 0 < size
        → Went (suc n) r.top (store_from st (s + a) (r.top ∷ replicate (get_or t (r.next * 27 + 5) 0) 0)) m
    unfolding kind_fault target_fault has_target size_fault word_fault operands_fault address_fault is_listed has_expression is_test is_return is_calling has_word own_word used_by if_lt if_eq if_true
        some_of effect_of block_of keeps
    went-3 q l b =
        record {
          below = below;
          own = own;
          good = no-fault prog n (rw q) (rw q) (bare-callee (rw q) (rw q)) (rw q) (rw (q, sized, fields-a, fields-b) (lt-leb size _ b)) (rw (used, q)) (rw q);
          line = rw q;
          tail = rw q;
          calls = bare-call row.kind row.expr (rw q) (rw q);
          imports = bare-import row.kind row.expr (rw q) (rw q);
          returns = rw q;
          block = rw q;
          effect = rw (q, fields-a, fields-b, word-32 r.top (omega (arith, h.top, h.memory)));
          stack = store_length st (s + a) _;
          memory = refl;
          first = store-before st (s + a) _ s (omega (arith, l));
          second = store-before st (s + a) _ (s + 1) (omega (arith, l));
          top = h.top;
        }

    right-block : row.kind ≡ 3 → Right (quick_block t size st s m n r.top)
    unfolding quick_block RightBy
    right-block q =
        either Right a 3 (taken None st m) _ (λ l. stays) (λ l. either Right (a + get_or t (r.next * 27 + 5) 0) size _ (taken None st m) (λ b. went b l) (λ b. stays))
      where
        went : a + get_or t (r.next * 27 + 5) 0 < size → 3 ≤ a → Right (taken (to_row (suc n) r.top) (store_from st (s + a) (r.top ∷ replicate (get_or t (r.next * 27 + 5) 0) 0)) m)
        went b l = went-3 q l b

    went-4 : row.kind ≡ 4 → a < size → get_or st (s + a) 0 ≤ length m → Went (suc n) (get_or st (s + a) 0) st m
    unfolding kind_fault target_fault has_target size_fault word_fault operands_fault address_fault is_listed has_expression is_test is_return is_calling has_word own_word used_by if_lt if_eq if_true
        some_of effect_of end_block_of keeps store_from
    went-4 q l b =
        record {
          below = below;
          own = own;
          good = no-fault prog n (rw q) (rw q) (bare-callee (rw q) (rw q)) (rw q) (rw (q, sized, fields-a) (lt-leb size _ l)) (rw (used, q)) (rw q);
          line = rw q;
          tail = rw q;
          calls = bare-call row.kind row.expr (rw q) (rw q);
          imports = bare-import row.kind row.expr (rw q) (rw q);
          returns = rw q;
          block = rw (q, fields-a) (le-leb _ _ b);
          effect = rw (q, fields-a);
          stack = refl;
          memory = refl;
          first = refl;
          second = refl;
          top = b;
        }

    right_end : row.kind ≡ 4 → Right (taken (quick_end t size st s (length m) n) st m)
    unfolding quick_end RightBy
    right_end q =
        either (λ (x : Option Move). RightBy x st m) a size _ None
        (λ l. either (λ (x : Option Move). RightBy x st m) (length m) (get_or st (s + a) 0) None (to_row (suc n) (get_or st (s + a) 0)) (λ b. stays) (λ b. went-4 q l b)) (λ l. stays)

    -- ---- expressions

    -- the value of the row's expression, in the row's own words
    record Told (v end : ℕ) : Type 0 where
      listed : (k : ℕ) → expression_listed k row.expr ≡ true
      bare : is_call_expression row.expr ≡ false
      operands : some_of (operand_fault size d) (take (expression_uses row.expr row.count) (slots t (n * 27))) ≡ false
      worked : eval_of Bits32 st s m r.top row.expr (take (expression_uses row.expr row.count) (slots t (n * 27))) ≡ valued v end
      low : end ≤ length m

    top_in : (x : Worked) (v end : ℕ) → TopIn (length m) x → x ≡ valued v end → end ≤ length m
    unfolding TopIn
    top_in (Ok got) v end p q = let z : got.top ≡ end = cc in rw z at p
    top_in (Err k) v end p q = absurd (let z : ◌≡◌ {A = ℕ} 0 1 = cc in omega arith)

    from : (v end : ℕ) → Valued t (n * 27) size d st s m r.top v end → Told v end
    unfolding row_at row_from
    from v end x =
        record {
          listed = x.listed;
          bare = x.bare;
          operands = x.operands row.count;
          worked = x.worked row.count;
          low = top_in _ v end (top-eval Bits32 st s m r.top row.expr (take (expression_uses row.expr row.count) (slots t (n * 27))) h.top) (x.worked row.count);
        }

    told : (v end : ℕ) → good_work t (n * 27) size d st s m r.top ≡ valued v end → Told v end
    told v end e = from v end (good-work t (n * 27) size d st s m r.top v end e)

    -- ---- `let` and `set` of a local

    went-set : (k : ℕ) → Sets k → row.kind ≡ k → 3 ≤ a → a < size → (v end : ℕ) → Told v end → Went (suc n) end (set st (s + a) v) m
    unfolding kind_fault target_fault size_fault word_fault operands_fault address_fault is_return is_calling own_word used_by if_lt if_eq if_true some_of effect_of worked_of assigned keeps store_from
    went-set k y q l b v end x =
        let i = y.inner in
        record {
          below = below;
          own = own;
          good =
              no-fault prog n (rw (q, i.listed, i.row, i.has, x.listed k)) (rw (q, y.aimless)) (plain-callee (rw (q, i.bare, i.tail)) x.bare) (rw (q, i.function))
              (rw (q, i.own, i.block, sized, fields-a) (lt-leb size a b)) (rw (used, q, i.has, sized) x.operands) (rw (q, i.at));
          line = rw (q, i.function);
          tail = rw (q, i.tail);
          calls = plain-call row.kind row.expr (rw (q, i.bare, i.tail)) x.bare;
          imports = plain-import row.kind row.expr x.bare;
          returns = rw (q, i.end, i.returns);
          block = rw (q, i.leaves);
          effect =
              rw (used, q, i.bare, i.has, x.bare, i.end, i.returns, i.test, i.block, i.leaves, x.worked, fields-a) (one_of_two (eqb k 5) (eqb k 6) _ _ y.sets);
          stack = length-set st (s + a) v;
          memory = refl;
          first = store-before st (s + a) (v ∷ []) s (omega (arith, l));
          second = store-before st (s + a) (v ∷ []) (s + 1) (omega (arith, l));
          top = x.low;
        }

    right-assign : (3 ≤ a → a < size → (v end : ℕ) → Told v end → Went (suc n) end (set st (s + a) v) m) → Right (quick_assign t d size st s m n r.top)
    unfolding quick_assign assigned_by RightBy
    right-assign go =
        either Right a 3 (taken None st m) _ (λ l. stays)
        (λ l. either Right a size _ (taken None st m) (λ b. by l b (good_work t (n * 27) size d st s m r.top) refl) (λ b. stays))
      where
        by : 3 ≤ a → a < size → (x : Worked) → good_work t (n * 27) size d st s m r.top ≡ x → Right (assigned_by t d size st s m n r.top x)
        by l b (Ok got) e = go l b got.word got.top (told got.word got.top e)
        by l b (Err k) e = stays

    -- ---- `set @`

    -- an operand whose kind is at most 3 and that can be read is one that may stand behind `@`
    record Listed (k v x : ℕ) : Type 0 where
      listed : address_listed (operand_of k v) ≡ true
      number : number_in Bits32 st s (operand_of k v) ≡ x

    got_same : (x y : ℕ) → Some x ≡ Some y → x ≡ y
    got_same x y e = cc

    address-listed : (k v x : ℕ) → k ≤ 3 → Sound size d st s m (operand_of k v) x → Listed k v x
    unfolding operand_of operand_fault address_listed read_of is_at number_in if_eq if_true
    address-listed zero v x l o = true-false o.good
    address-listed (suc zero) v x l o = record { listed = refl; number = got_same _ x o.word }
    address-listed (suc (suc zero)) v x l o = record { listed = refl; number = got_same _ x o.word }
    address-listed (suc (suc (suc zero))) v x l o = record { listed = refl; number = got_same _ x o.word }
    address-listed (suc (suc (suc (suc k)))) v x l o = absurd (omega (arith, l))

    address_is : row.address ≡ operand_at t (n * 27 + 9)
    unfolding row_at row_from
    address_is = refl

    went-7 : row.kind ≡ 7 → (x v end : ℕ) → address_listed row.address ≡ true → operand_fault size d row.address ≡ false → number_in Bits32 st s row.address ≡ x
        → word_good Bits32 (length m) x ≡ true → Told v end → Went (suc n) end st (store_from m x (word_bytes 4 v))
    unfolding kind_fault target_fault has_target size_fault word_fault operands_fault address_fault is_listed has_expression is_test is_return is_calling has_word own_word used_by if_lt if_eq if_true
        some_of effect_of set_at_of worked_of assigned_at stores
    went-7 q x v end i j k w y =
        record {
          below = below;
          own = own;
          good = no-fault prog n (rw (q, y.listed 7)) (rw q) (plain-callee (rw q) y.bare) (rw q) (rw q) (rw (used, q, sized) y.operands) (rw (q, i, sized, j));
          line = rw q;
          tail = rw q;
          calls = plain-call row.kind row.expr (rw q) y.bare;
          imports = plain-import row.kind row.expr y.bare;
          returns = rw q;
          block = rw q;
          effect = rw (used, q, y.bare, k, w, y.worked, k);
          stack = refl;
          memory = store_length m x _;
          first = refl;
          second = refl;
          top = y.low;
        }

    right-at : row.kind ≡ 7 → Right (quick_at t d size st s m n r.top)
    unfolding quick_at stored_by RightBy operand_at on_read stored_at
    right-at q =
        either Right 3 (get_or t (n * 27 + 9) 0) (taken None st m) _ (λ l. stays) (λ l. read l (good_read size d st s m (operand_at t (n * 27 + 9))) refl)
      where
        stored : get_or t (n * 27 + 9) 0 ≤ 3 → (x : ℕ) → Sound size d st s m (operand_at t (n * 27 + 9)) x → word_good Bits32 (length m) x ≡ true → (y : Worked)
            → good_work t (n * 27) size d st s m r.top ≡ y → Right (stored_by t d size st s m n r.top x y)
        stored l x o w (Ok got) e =
            let p = address-listed (get_or t (n * 27 + 9) 0) (get_or t (n * 27 + 9 + 1) 0) x l o in
            went-7 q x got.word got.top (rw address_is p.listed) (rw address_is o.good) (rw address_is p.number) w (told got.word got.top e)
        stored l x o w (Err k) e = stays

        read : get_or t (n * 27 + 9) 0 ≤ 3 → (y : Option ℕ) → good_read size d st s m (operand_at t (n * 27 + 9)) ≡ y
            → Right (on_read y (taken None st m) (λ x. if_true (word_good Bits32 (length m) x) (stored_at t d size st s m n r.top x) (taken None st m)))
        read l None e = stays
        read l (Some x) e =
            either_true Right (word_good Bits32 (length m) x) (stored_at t d size st s m n r.top x) (taken None st m)
            (λ w. stored l x (good-read size d st s m (operand_at t (n * 27 + 9)) x e) w (good_work t (n * 27) size d st s m r.top) refl) (λ w. stays)

    -- ---- `set-byte` and `set-word`

    record All3 (x y z : ℕ) : Type 0 where
      first : Sound size d st s m (operand_at t (n * 27 + 11)) x
      second : Sound size d st s m (operand_at t (n * 27 + 13)) y
      third : Sound size d st s m (operand_at t (n * 27 + 15)) z

    three-good : (x y z : ℕ) → All3 x y z → some_of (operand_fault size d) (take 3 (slots t (n * 27))) ≡ false
    unfolding some_of slots
    three-good x y z o = rw (o.first.good, o.second.good, o.third.good)

    three-words : (x y z : ℕ) → All3 x y z → read_all Bits32 st s m (take 3 (slots t (n * 27))) ≡ machine.words (x ∷ y ∷ z ∷ [])
    unfolding read_all slots on_read with_word
    three-words x y z o = rw (o.first.word, o.second.word, o.third.word)

    three-ind : (P : Option Store → Type 0) → P None → ((x y z : ℕ) → All3 x y z → P (store x y z)) → P (three_read t (n * 27) d size st s m)
    unfolding three_read on_read
    three-ind P u go = by (good_read size d st s m (operand_at t (n * 27 + 11))) (good_read size d st s m (operand_at t (n * 27 + 13))) (good_read size d st s m (operand_at t (n * 27 + 15))) refl refl refl
      where
        by : (i j k : Option ℕ) → good_read size d st s m (operand_at t (n * 27 + 11)) ≡ i → good_read size d st s m (operand_at t (n * 27 + 13)) ≡ j
            → good_read size d st s m (operand_at t (n * 27 + 15)) ≡ k → P (on_read i None (λ x. on_read j None (λ y. on_read k None (λ z. store x y z))))
        by None j k e f g = u
        by (Some x) None k e f g = u
        by (Some x) (Some y) None e f g = u
        by (Some x) (Some y) (Some z) e f g =
            go x y z
            (record {
              first = good-read size d st s m (operand_at t (n * 27 + 11)) x e;
              second = good-read size d st s m (operand_at t (n * 27 + 13)) y f;
              third = good-read size d st s m (operand_at t (n * 27 + 15)) z g;
            })

    went-8 : row.kind ≡ 8 → (x y z : ℕ) → All3 x y z → byte_good (length m) (byte_address Bits32 x y) ≡ true
        → Went (suc n) r.top st (store_from m (byte_address Bits32 x y) (z % 256 ∷ []))
    unfolding kind_fault target_fault has_target size_fault word_fault operands_fault address_fault is_listed has_expression is_test is_return is_calling has_word own_word used_by if_lt if_eq if_true
        effect_of arguments_of set_byte_by stores
    went-8 q x y z o w =
        record {
          below = below;
          own = own;
          good = no-fault prog n (rw q) (rw q) (bare-callee (rw q) (rw q)) (rw q) (rw q) (rw (used, q, sized) (three-good x y z o)) (rw q);
          line = rw q;
          tail = rw q;
          calls = bare-call row.kind row.expr (rw q) (rw q);
          imports = bare-import row.kind row.expr (rw q) (rw q);
          returns = rw q;
          block = rw q;
          effect = rw (used, q, three-words x y z o, w);
          stack = refl;
          memory = store_length m _ _;
          first = refl;
          second = refl;
          top = h.top;
        }

    right-byte : row.kind ≡ 8 → Right (quick_byte t d size st s m n r.top)
    unfolding quick_byte byte_by RightBy
    right-byte q = three-ind (λ (x : Option Store). Right (byte_by t d size st s m n r.top x)) stays all
      where
        all : (x y z : ℕ) → All3 x y z → Right (byte_by t d size st s m n r.top (store x y z))
        all x y z o =
            either_true Right (byte_good (length m) (byte_address Bits32 x y)) (taken (to_row (suc n) r.top) st (store_from m (byte_address Bits32 x y) (z % 256 ∷ []))) (taken None st m)
            (λ w. went-8 q x y z o w) (λ w. stays)

    went-9 : row.kind ≡ 9 → (x y z : ℕ) → All3 x y z → word_good Bits32 (length m) (word_address Bits32 x y) ≡ true
        → Went (suc n) r.top st (store_from m (word_address Bits32 x y) (word_bytes 4 z))
    unfolding kind_fault target_fault has_target size_fault word_fault operands_fault address_fault is_listed has_expression is_test is_return is_calling has_word own_word used_by if_lt if_eq if_true
        effect_of arguments_of set_word_by stores
    went-9 q x y z o w =
        record {
          below = below;
          own = own;
          good = no-fault prog n (rw q) (rw q) (bare-callee (rw q) (rw q)) (rw q) (rw q) (rw (used, q, sized) (three-good x y z o)) (rw q);
          line = rw q;
          tail = rw q;
          calls = bare-call row.kind row.expr (rw q) (rw q);
          imports = bare-import row.kind row.expr (rw q) (rw q);
          returns = rw q;
          block = rw q;
          effect = rw (used, q, three-words x y z o, w);
          stack = refl;
          memory = store_length m _ _;
          first = refl;
          second = refl;
          top = h.top;
        }

    right-word : row.kind ≡ 9 → Right (quick_word t d size st s m n r.top)
    unfolding quick_word word_by RightBy
    right-word q = three-ind (λ (x : Option Store). Right (word_by t d size st s m n r.top x)) stays all
      where
        all : (x y z : ℕ) → All3 x y z → Right (word_by t d size st s m n r.top (store x y z))
        all x y z o =
            either_true Right (word_good Bits32 (length m) (word_address Bits32 x y)) (taken (to_row (suc n) r.top) st (store_from m (word_address Bits32 x y) (word_bytes 4 z))) (taken None st m)
            (λ w. went-9 q x y z o w) (λ w. stays)

    -- ---- tests

    two : is_test row.kind ≡ true → row.operands ≡ operand_at t (n * 27 + 11) ∷ operand_at t (n * 27 + 13) ∷ []
    unfolding used_by if_true slots
    two e = rw (used, test-bare row.kind e, test-row row.kind e, e)

    went-test : is_test row.kind ≡ true → aimed t c g a ≡ true → (x y : ℕ) → Sound size d st s m (operand_at t (n * 27 + 11)) x
        → Sound size d st s m (operand_at t (n * 27 + 13)) y → Went (if_true (test_holds Bits32 row.kind x y) (suc n) a) r.top st m
    unfolding kind_fault size_fault word_fault operands_fault address_fault is_listed is_return has_word some_of if_lt if_eq if_true test_of goes_to on_read
    went-test e z x y o p =
        let low = test-least row.kind e in
        let high = test-most row.kind e in
        let p0 = ne_eqb row.kind 0 (λ q. omega (arith, low, q)) in
        let p1 = ne_eqb row.kind 1 (λ q. omega (arith, low, q)) in
        let p2 = ne_eqb row.kind 2 (λ q. omega (arith, low, q)) in
        let p4 = ne_eqb row.kind 4 (λ q. omega (arith, low, q)) in
        let p7 = ne_eqb row.kind 7 (λ q. omega (arith, low, q)) in
        let p12 = ne_eqb row.kind 12 (λ q. omega (arith, low, q)) in
        let p13 = ne_eqb row.kind 13 (λ q. omega (arith, low, q)) in
        let l23 = lt-ltb row.kind 23 (omega (arith, high)) in
        let l3 = le-ltb row.kind 3 (omega (arith, low)) in
        let l7 = le-ltb row.kind 7 (omega (arith, low)) in
        record {
          below = below;
          own = own;
          good =
              no-fault prog n (rw (p0, l23, test-row row.kind e, test-bare row.kind e)) (aims-good z) (bare-callee (test-bare row.kind e) (test-row row.kind e)) (rw p1) (rw (l3, l7))
              (rw (two e, sized, o.good, p.good)) (rw p7);
          line = p1;
          tail = p12;
          calls = test-uncalled row.kind row.expr e;
          imports = test-own row.kind row.expr e;
          returns = rw (p2, p13);
          block = rw p4;
          effect = of_test prog (world r st m) e ∙ rw (two e, o.word, p.word, fields-a);
          stack = refl;
          memory = refl;
          first = refl;
          second = refl;
          top = h.top;
        }

    right-test : (k : ℕ) → row.kind ≡ k → is_test k ≡ true → Right (quick_test t c g d size st s m n r.top k)
    unfolding quick_test on_read RightBy
    right-test k q e =
        either_true Right (aimed t c g a) _ (taken None st m)
        (λ z. by z (good_read size d st s m (operand_at t (n * 27 + 11))) (good_read size d st s m (operand_at t (n * 27 + 13))) refl refl) (λ z. stays)
      where
        by : aimed t c g a ≡ true → (i j : Option ℕ) → good_read size d st s m (operand_at t (n * 27 + 11)) ≡ i → good_read size d st s m (operand_at t (n * 27 + 13)) ≡ j
            → Right (on_read i (taken None st m) (λ x. on_read j (taken None st m) (λ y. taken (to_row (if_true (test_holds Bits32 k x y) (suc n) a) r.top) st m)))
        by z None j o p = stays
        by z (Some x) None o p = stays
        by z (Some x) (Some y) o p =
            subst (λ (i : ℕ). Went (if_true (test_holds Bits32 i x y) (suc n) a) r.top st m) q
            (went-test (ap is_test q ∙ e) z x y (good-read size d st s m (operand_at t (n * 27 + 11)) x o) (good-read size d st s m (operand_at t (n * 27 + 13)) y p))

    -- ---- by the kind

    right-jumps : (k : ℕ) → row.kind ≡ k → Right (quick_jumps t c g d size st s m n r.top k)
    unfolding quick_jumps
    right-jumps k q =
        either-eq Right k 10 _ _ (λ z. right-jump (went-jump 10 goto-jumps (q ∙ z)))
        (λ i10. either-eq Right k 20 _ _ (λ z. right-jump (went-jump 20 else-jumps (q ∙ z)))
        (λ i20. either-eq Right k 21 _ _ (λ z. right-jump (went-jump 21 else-if-jumps (q ∙ z)))
        (λ i21. either-eq Right k 22 _ _ (λ z. right-22 (q ∙ z)) (λ i22. stays))))

    right-stores : (k : ℕ) → row.kind ≡ k → Right (quick_stores t c g d size st s m n r.top k)
    unfolding quick_stores
    right-stores k q =
        either-eq Right k 7 _ _ (λ z. right-at (q ∙ z))
        (λ i7. either-eq Right k 8 _ _ (λ z. right-byte (q ∙ z)) (λ i8. either-eq Right k 9 _ _ (λ z. right-word (q ∙ z)) (λ i9. right-jumps k q)))

    right-kind : (k : ℕ) → row.kind ≡ k → Right (quick_kind t c g d size st s m n r.top k)
    unfolding quick_kind
    right-kind k q =
        either_true Right (is_test k) _ _ (right-test k q)
        (λ e. either-eq Right k 3 _ _ (λ z. right-block (q ∙ z))
        (λ i3. either-eq Right k 4 _ _ (λ z. right_end (q ∙ z))
        (λ i4. either-eq Right k 5 _ _ (λ z. right-assign (went-set 5 let-sets (q ∙ z)))
        (λ i5. either-eq Right k 6 _ _ (λ z. right-assign (went-set 6 set-sets (q ∙ z))) (λ i6. right-stores k q)))))

    right-form : Right (quick_form t c g d size st s m n r.top)
    unfolding quick_form
    right-form = right-kind (get_or t (n * 27) 0) fields-kind

  same : Right (taken None st m)
  unfolding RightBy
  same = record { stack = refl; memory = refl }

  func-is : row.func ≡ get_or t (n * 27 + 1) 0
  unfolding row_at row_from
  func-is = refl

  -- what a plain run makes of a statement is right
  pub right-step : InFrame t c g size r st m → Right (quick_step t c g d size st s m n r.top)
  unfolding quick_step
  right-step h =
      either Right n c _ (taken None st m) (λ l. either-eq Right (get_or t (n * 27 + 1) 0) g _ (taken None st m) (λ e. right-form h l (func-is ∙ e)) (λ e. same)) (λ l. same)
