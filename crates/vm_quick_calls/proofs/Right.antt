-- A call or a return that is taken is not refused, and has the effect that the machine's definitions give it.
-- Assumes nothing.
use Rattle.std.proofs.Common.{Err, None, Option, Some, Ok}
use Rattle.vm_definitions.specs.Operands.{Worked, valued}
use mathlib.Core.Path.{◌≡◌, refl, sym, ◌∙◌, ap, subst}
use mathlib.Core.Bool.{Bool, true, false, not}
use mathlib.Core.List.{List, [], ◌∷◌}
use Prim.Native.Nat.{ℕ, zero, suc, ◌+◌, ◌-◌, ◌*◌, ◌^◌, ◌<◌, ◌≤◌}
use native.Mathlib.Omega.{arith}
use lib.ListN.{length, get_or, set, take, drop, length-set}
use lib.Dec.{eqb, ltb, leb}
use borrow.Author.Tests.{eq-eqb, ne_eqb, lt-ltb, le-ltb, le-leb, lt-leb, eqb-true, ltb-true}
use Rattle.base_prelude.specs.Choice.{if_lt, if_eq, if_true}
use Rattle.base_prelude.proofs.Choice.{true-false, either, either-eq, either_true}
use Rattle.base_limits.specs.declared.Width.TheVariants.{Bits32}
use Rattle.base_limits.specs.declared.Machine.{Machine}
use Rattle.base_limits.specs.Record.{mark, moved_to}
use Rattle.prog_tables.specs.Tests.{both, one_of, given, some_of}
use Rattle.prog_tables.specs.Statement.{Row, has_expression, is_test, is_operator, is_call_row, is_call, is_import, is_call_expression, expression_uses, used_by, operand_at, slots, row_from, row_at}
use Rattle.prog_tables.specs.Program.{Program, lent_program}
use Rattle.prog_tables.specs.Nesting.{is_listed, has_target}
use Rattle.prog_tables.specs.Faults.{expression_listed, in_function, size_at, operand_fault, kind_fault, target_fault, function_fault, import_fault, callee_fault, size_fault, own_word, has_word, word_fault, operands_fault, address_fault, row_fault}
use Rattle.prog_tables.specs.declared.Operand.{Operand}
use Rattle.vm_definitions.specs.Access.{store_from}
use Rattle.vm_definitions.specs.Operands as machine
use Rattle.vm_definitions.specs.Operands.{Words, bad, with_word, read_all, on_read}
use Rattle.vm_definitions.specs.Expressions.{eval_of}
use Rattle.vm_definitions.specs.Frames.{frame_words, is_first, is_return_call, is_return, is_calling, importing, leaves_frame, called_from, head_good, passes_on, leaves_good, rows_left, resumption_of}
use Rattle.vm_definitions.specs.Step.{Effect, leaves, arguments_of, call_by, call_of, tail_call_by, handed_to, handed_by, returned, return_of, worked_of, effect_of}
use Rattle.vm_definitions.specs.Lent.{world}
use Rattle.vm_definitions.specs.declared.Resumption.TheVariants.{Caller}
use Rattle.vm_definitions.specs.declared.Broken.TheVariants.{No}
use Rattle.vm_definitions.proofs.Stores.{store_length}
use Rattle.vm_guard.specs.Guard.{within_broken}
use Rattle.vm_quick_operands.specs.Fast.{good_read, read_each, good_work, size_of}
use Rattle.vm_quick_operands.proofs.Good.{good-read, Valued, good-work, stop-value, no-fault, Function, function-good, row_within, row-size, size-function}
use Rattle.vm_quick_operands.proofs.Reading.{next-slot, no-slots}
use Rattle.vm_quick_statements.proofs.Right.{InFrame}
use Rattle.vm_quick_statements.proofs.ByKind.{Sets, let-sets, set-sets, plain-call, plain-import, leaves-not}
use Rattle.vm_quick_statements.proofs.Unbroken.{frame-fine, record-fine, call-fine, return-fine}
use Rattle.vm_quick_calls.specs.declared.Transfer.{Transfer}
use Rattle.vm_quick_calls.specs.Transfers.{to_frame, Transferred, transferred, good_from, callee_size, calls_local, calls_any, call_good, good_all, pushed, entered_by, entered, call_transfer, tail_transfer, result_of, resumed, hand_to, hand_transfer, return_by, return_transfer, transfer_of}
use Rattle.prog_tables.proofs.Each.{both_false}
use Rattle.prog_tables.proofs.CallRows.{bare-call, bare-import}

-- ---- operands

module _ (t : List ℕ) (at size d : ℕ) where
  from-good : (left i k : ℕ) → i + left ≡ k → k ≤ 8 → good_from t at size d left i ≡ true → some_of (operand_fault size d) (drop i (take k (slots t at))) ≡ false
  unfolding good_from some_of
  from-good zero i k e l q = rw (no-slots t at k i (omega (arith, e)) l)
  from-good (suc left) i k e l q =
      either_true (λ (b : Bool). b ≡ true → some_of (operand_fault size d) (drop i (take k (slots t at))) ≡ false) (operand_fault size d (operand_at t (at + 11 + i * 2))) false
      (good_from t at size d left (suc i)) (λ z y. true-false (sym y))
      (λ z y. rw (next-slot t at k i (omega (arith, e)) l, z) (from-good left (suc i) k (omega (arith, e)) l y)) q

bad-words : {P : Type 0} (vs : List ℕ) → bad ≡ machine.words vs → P
bad-words vs e = absurd (let z : ◌≡◌ {A = ℕ} 0 1 = cc in omega arith)

module _ (size d : ℕ) (st : List ℕ) (s : ℕ) (m : List ℕ) where
  -- operands that are all good and read
  record Each (os : List Operand) (vs : List ℕ) : Type 0 where
    good : some_of (operand_fault size d) os ≡ false
    all : read_all Bits32 st s m os ≡ machine.words vs

  each-good : (os : List Operand) (vs : List ℕ) → good_all size d st s m os ≡ machine.words vs → Each os vs
  unfolding read_each read_all some_of on_read with_word
  each-good [] vs e = record { good = refl; all = e }
  each-good (o ∷ os) vs e = by (good_read size d st s m o) (read_each (good_read size d st s m) os) (each-good os) refl refl e
    where
      by : (x : Option ℕ) (w : Words) → ((ws : List ℕ) → good_all size d st s m os ≡ machine.words ws → Each os ws) → good_read size d st s m o ≡ x → read_each (good_read size d st s m) os ≡ w → on_read x bad (λ v. with_word v w) ≡ machine.words vs → Each (o ∷ os) vs
      by None w go a b q = bad-words vs q
      by (Some v) bad go a b q = bad-words vs q
      by (Some v) (machine.words ws) go a b q =
          let x = good-read size d st s m o v a in
          let i = go ws b in
          record { good = rw (x.good, i.good); all = rw (x.word, i.all) q }

-- ---- callees

record Callee (f : ℕ → Row) (c p k z : ℕ) : Type 0 where
  parameters : (f p).b ≡ k
  function : Function f c p z

callee-good : (prog : Program) (p k z : ℕ) → (z ≡ 0 → ⊥) → callee_size prog p k ≡ z → Callee prog.rows prog.count p k z
unfolding callee_size
callee-good prog p k z n =
    either-eq (λ (x : ℕ). x ≡ z → Callee prog.rows prog.count p k z) (prog.rows p).b k (size_of prog.rows prog.count p) 0
    (λ q e. record { parameters = q; function = size-function prog.rows prog.count p z n e })
    (λ q e. absurd (n (sym e)))

-- ---- rows that call

module _ (t : List ℕ) (c : ℕ) (lw : List ℕ) (lc d n size : ℕ) (sized : size_at (row_at t) c n ≡ size) where
  abbrev row : Row
  row = row_at t n

  record CallRow : Type 0 where
    kinds : kind_fault (lent_program t c lw lc d) n ≡ false
    targets : target_fault (lent_program t c lw lc d) n ≡ false
    sizes : size_fault (lent_program t c lw lc d) n ≡ false
    words : word_fault (lent_program t c lw lc d) n ≡ false
    address : address_fault (lent_program t c lw lc d) n ≡ false
    calls : is_call row.kind row.expr ≡ true
    imports : importing row ≡ false
    used : used_by row.kind row.expr row.count ≡ row.count
    line : eqb row.kind 1 ≡ false
    block : eqb row.kind 4 ≡ false
    at : eqb row.kind 7 ≡ false
    returns : is_return row ≡ false

  -- one to which a value is handed back
  record Calling : Type 0 where
    call : CallRow
    calling : is_calling row ≡ true
    tail : eqb row.kind 12 ≡ false

  row-11 : row.kind ≡ 11 → row.expr ≡ 2 → Calling
  unfolding kind_fault target_fault has_target size_fault word_fault address_fault is_listed has_expression is_test is_call is_import is_call_expression is_return is_calling has_word used_by if_lt if_eq if_true
  row-11 q e =
      record {
        call =
            record {
              kinds = rw (q, e);
              targets = rw q;
              sizes = rw q;
              words = rw q;
              address = rw q;
              calls = rw (q, e);
              imports = rw e;
              used = rw q;
              line = rw q;
              block = rw q;
              at = rw q;
              returns = rw q;
            };
        calling = rw q;
        tail = rw q;
      }

  row-set : (k : ℕ) → Sets k → row.kind ≡ k → row.expr ≡ 2 → row.a < size → Calling
  unfolding kind_fault target_fault size_fault word_fault address_fault expression_listed expression_uses is_call is_import is_call_expression is_return is_calling own_word used_by if_lt if_eq if_true
  row-set k y q e l =
      let i = y.inner in
      record {
        call =
            record {
              kinds = rw (q, e, i.listed, i.row, i.has);
              targets = rw (q, y.aimless);
              sizes = rw (q, i.function);
              words = rw (q, i.own, i.block, sized) (lt-leb size row.a l);
              address = rw (q, i.at);
              calls = rw (q, e, i.bare, i.tail, i.has);
              imports = rw e;
              used = rw (q, e, i.has);
              line = rw (q, i.function);
              block = rw (q, i.leaves);
              at = rw (q, i.at);
              returns = rw (q, i.end, i.returns);
            };
        calling = rw (q, e, i.bare, i.has);
        tail = rw (q, i.tail);
      }

  row-13 : row.kind ≡ 13 → row.expr ≡ 2 → Calling
  unfolding kind_fault target_fault has_target size_fault word_fault address_fault is_listed has_expression expression_listed expression_uses is_test is_call is_import is_call_expression is_return is_calling has_word own_word used_by if_lt if_eq if_true
  row-13 q e =
      record {
        call =
            record {
              kinds = rw (q, e);
              targets = rw q;
              sizes = rw q;
              words = rw q;
              address = rw q;
              calls = rw (q, e);
              imports = rw e;
              used = rw (q, e);
              line = rw q;
              block = rw q;
              at = rw q;
              returns = rw (q, e);
            };
        calling = rw (q, e);
        tail = rw q;
      }

  row-12 : row.kind ≡ 12 → row.expr ≡ 2 → CallRow
  unfolding kind_fault target_fault has_target size_fault word_fault address_fault is_listed has_expression is_test is_call is_import is_call_expression is_return is_calling has_word used_by if_lt if_eq if_true
  row-12 q e =
      record {
        kinds = rw (q, e);
        targets = rw q;
        sizes = rw q;
        words = rw q;
        address = rw q;
        calls = rw (q, e);
        imports = rw e;
        used = rw q;
        line = rw q;
        block = rw q;
        at = rw q;
        returns = rw q;
      }

  -- a row to which a value is handed in its own frame
  record LocalRow : Type 0 where
    call : Calling
    stays : eqb row.kind 13 ≡ false

  local-row : calls_local (row_at t) size n ≡ true → LocalRow
  unfolding calls_local
  local-row =
      either-eq (λ (b : Bool). b ≡ true → LocalRow) row.expr 2 _ false
      (λ x. either-eq (λ (b : Bool). b ≡ true → LocalRow) row.kind 11 true _ (λ q e. record { call = row-11 q x; stays = rw q })
      (λ n11. either-eq (λ (b : Bool). b ≡ true → LocalRow) row.kind 5 (ltb row.a size) _
      (λ q e. record { call = row-set 5 let-sets q x (ltb-true row.a size e); stays = rw q })
      (λ n5. either-eq (λ (b : Bool). b ≡ true → LocalRow) row.kind 6 (ltb row.a size) false
      (λ q e. record { call = row-set 6 set-sets q x (ltb-true row.a size e); stays = rw q })
      (λ n6 e. true-false (sym e)))))
      (λ x e. true-false (sym e))

  any-row : calls_any (row_at t) size n ≡ true → Calling
  unfolding calls_any
  any-row =
      either-eq (λ (b : Bool). b ≡ true → Calling) row.kind 13 (eqb row.expr 2) (calls_local (row_at t) size n) (λ q e. row-13 q (eqb-true row.expr 2 e))
      (λ q e. (local-row e).call)

  operands-are : CallRow → row.operands ≡ take row.count (slots t (n * 27))
  unfolding row_at row_from
  operands-are x = ap (λ (k : ℕ). take k (slots t (n * 27))) x.used

  call-good : (z : ℕ) → CallRow → row.count ≤ 8 → Callee (row_at t) c row.callee row.count z → some_of (operand_fault size d) (take row.count (slots t (n * 27))) ≡ false
      → row_fault (lent_program t c lw lc d) n ≡ false
  unfolding callee_fault function_fault import_fault operands_fault
  call-good z x l e o =
      no-fault (lent_program t c lw lc d) n x.kinds x.targets
      (rw (x.calls, x.imports, lt-ltb _ _ e.function.below, e.function.kind, eq-eqb _ _ e.parameters, le-leb _ _ l))
      x.sizes x.words (rw (operands-are x, sized) o) x.address

-- row p, to which a value is handed, is good
record Handed (t : List ℕ) (c : ℕ) (lw : List ℕ) (lc d size p : ℕ) : Type 0 where
  good : row_fault (lent_program t c lw lc d) p ≡ false
  calling : is_calling (row_at t p) ≡ true
  at : eqb (row_at t p).kind 7 ≡ false
  stays : eqb (row_at t p).kind 13 ≡ false

handed : (t : List ℕ) (c : ℕ) (lw : List ℕ) (lc d size p : ℕ) → size_at (row_at t) c p ≡ size → call_good t c lw lc d size p ≡ true → Handed t c lw lc d size p
unfolding call_good
handed t c lw lc d size p sized =
    either (λ (b : Bool). b ≡ true → Handed t c lw lc d size p) 8 (row_at t p).count false _ (λ l e. true-false (sym e))
    (λ l. either-eq (λ (b : Bool). b ≡ true → Handed t c lw lc d size p) (callee_size (lent_program t c lw lc d) (row_at t p).callee (row_at t p).count) 0 false _ (λ q e. true-false (sym e))
    (λ q. either_true (λ (b : Bool). b ≡ true → Handed t c lw lc d size p) (calls_local (row_at t) size p) (good_from t (p * 27) size d (row_at t p).count 0) false
    (λ y e. made l q (local-row t c lw lc d p size sized y) e) (λ y e. true-false (sym e))))
  where
    made : (row_at t p).count ≤ 8 → (callee_size (lent_program t c lw lc d) (row_at t p).callee (row_at t p).count ≡ 0 → ⊥) → LocalRow t c lw lc d p size sized
        → good_from t (p * 27) size d (row_at t p).count 0 ≡ true → Handed t c lw lc d size p
    made l q x e =
        record {
          good =
              call-good t c lw lc d p size sized _ x.call.call l (callee-good (lent_program t c lw lc d) (row_at t p).callee (row_at t p).count _ q refl)
              (from-good t (p * 27) size d (row_at t p).count 0 (row_at t p).count (omega arith) l e);
          calling = x.call.calling;
          at = x.call.call.at;
          stays = x.stays;
        }

-- ---- the transfer

module _ (t : List ℕ) (c : ℕ) (lw : List ℕ) (lc g d size : ℕ) (r : Machine) (st m : List ℕ) where
  abbrev n : ℕ
  n = r.next

  abbrev s : ℕ
  s = r.frame

  abbrev here : Row
  here = row_at t r.next

  -- the statement went on at statement i in another frame
  pub record Moved (i frame used end : ℕ) (st' : List ℕ) : Type 0 where
    pub fine : within_broken (lent_program t c lw lc d) r st (length m) ≡ No
    pub imports : importing here ≡ false
    pub effect : effect_of (lent_program t c lw lc d) (world r st m) ≡ leaves (world (moved_to r i frame used end) st' m)
    pub stack : length st' ≡ length st

  unfoldable pub RightBy : Option Transfer → List ℕ → Type 0
  RightBy (Some go) st' = Moved go.next go.frame go.used go.top st'
  RightBy None st' = st' ≡ st

  abbrev pub Right : Transferred → Type 0
  Right x = RightBy x.move x.stack

  same : Right (transferred None st)
  unfolding RightBy
  same = refl

  module _ (h : InFrame t c g size r st m) (below : r.next < c) (own : (row_at t r.next).func ≡ g) where
    sized : size_at (row_at t) c n ≡ size
    sized = row-size t c g size h.function n own

    -- ---- calls

    went_call : Calling t c lw lc d n size sized → here.count ≤ 8 → (z : ℕ) → Callee (row_at t) c here.callee here.count z → (vs : List ℕ)
        → Each size d st s m (take here.count (slots t (n * 27))) vs → r.used + z ≤ length st
        → Moved (suc here.callee) r.used (r.used + z) r.top (store_from st r.used (frame_words Bits32 n s r.top vs z))
    unfolding effect_of call_of call_by arguments_of if_true if_eq if_lt
    went_call w l z e vs o b =
        let x = w.call in
        let y = leaves-not here x.returns x.imports in
        record {
          fine =
              call-fine t c lw lc g d size r st m h below own x.line (call-good t c lw lc d n size sized z x l e o.good) x.calls e.function.below
              (function-good t c here.callee z e.function lw lc d) y
              (record-fine t c lw lc g d size r st m h below own (rw x.block) (rw w.tail) (rw y));
          imports = x.imports;
          effect = rw (w.calling, x.at, operands-are t c lw lc d n size sized x, o.all, e.function.words, le-ltb _ _ b);
          stack = store_length st r.used _;
        }

    went-tail : here.kind ≡ 12 → here.expr ≡ 2 → get_or st (s + 2) 0 ≤ length m → here.count ≤ 8 → (z : ℕ) → Callee (row_at t) c here.callee here.count z → (vs : List ℕ)
        → Each size d st s m (take here.count (slots t (n * 27))) vs → s + z ≤ length st
        → Moved (suc here.callee) s (s + z) (get_or st (s + 2) 0) (store_from st s (frame_words Bits32 (get_or st s 0) (get_or st (s + 1) 0) (get_or st (s + 2) 0) vs z))
    unfolding effect_of tail_call_by arguments_of is_calling is_return is_test has_expression if_true if_eq if_lt
    went-tail q f k l z e vs o b =
        let x = row-12 t c lw lc d n size sized q f in
        let y = leaves-not here x.returns x.imports in
        record {
          fine =
              call-fine t c lw lc g d size r st m h below own x.line (call-good t c lw lc d n size sized z x l e o.good) x.calls e.function.below
              (function-good t c here.callee z e.function lw lc d) y
              (record-fine t c lw lc g d size r st m h below own (rw x.block) (rw (q, le-leb _ _ k)) (rw y));
          imports = x.imports;
          effect = rw (operands-are t c lw lc d n size sized x, q, o.all, e.function.words, le-ltb _ _ b);
          stack = store_length st s _;
        }

    -- a call whose new frame starts at a place
    module _ (at call under top : ℕ)
        (go : here.count ≤ 8 → (z : ℕ) → Callee (row_at t) c here.callee here.count z → (vs : List ℕ) → Each size d st s m (take here.count (slots t (n * 27))) vs
        → at + z ≤ length st → Moved (suc here.callee) at (at + z) top (store_from st at (frame_words Bits32 call under top vs z))) where
      right-entered : here.count ≤ 8 → (z : ℕ) → Callee (row_at t) c here.callee here.count z
          → Right (entered t d size st s m n at call under top here.callee here.count z)
      unfolding entered entered_by pushed RightBy
      right-entered l z e =
          either Right (length st) (at + z) (transferred None st) _ (λ b. same) (λ b. by b (good_all size d st s m (take here.count (slots t (n * 27)))) refl)
        where
          by : at + z ≤ length st → (w : Words) → good_all size d st s m (take here.count (slots t (n * 27))) ≡ w
              → Right (entered_by t d size st s m n at call under top here.callee here.count z w)
          by b (machine.words vs) q = go l z e vs (each-good size d st s m (take here.count (slots t (n * 27))) vs q) b
          by b bad q = same

      right-call : Right (call_transfer t c lw lc d size st s m n at call under top)
      unfolding call_transfer
      right-call =
          either Right 8 here.count (transferred None st) _ (λ l. same)
          (λ l. either Right here.callee c _ (transferred None st)
          (λ p. either-eq Right (callee_size (lent_program t c lw lc d) here.callee here.count) 0 (transferred None st) _ (λ q. same)
          (λ q. right-entered l _ (callee-good (lent_program t c lw lc d) here.callee here.count _ q refl)))
          (λ p. same))

    right-tail : here.kind ≡ 12 → Right (tail_transfer t c lw lc d size st s m n)
    unfolding tail_transfer
    right-tail q =
        either-eq Right here.expr 2 _ (transferred None st)
        (λ x. either Right (length m) (get_or st (s + 2) 0) (transferred None st) _ (λ l. same)
        (λ l. right-call s (get_or st s 0) (get_or st (s + 1) 0) (get_or st (s + 2) 0) (went-tail q x l)))
        (λ x. same)

    -- ---- returns

    -- the statement returns this value
    record Gives (v : ℕ) : Type 0 where
      good : row_fault (lent_program t c lw lc d) n ≡ false
      line : eqb here.kind 1 ≡ false
      block : eqb here.kind 4 ≡ false
      tail : eqb here.kind 12 ≡ false
      calls : is_call here.kind here.expr ≡ false
      returns : is_return here ≡ true
      imports : importing here ≡ false
      effect : effect_of (lent_program t c lw lc d) (world r st m) ≡ handed_by (lent_program t c lw lc d) (world r st m) v (resumption_of Bits32 (row_at t) c st (suc s) s)

    used : here.operands ≡ take (used_by here.kind here.expr here.count) (slots t (n * 27))
    unfolding row_at row_from
    used = refl

    bare-callee : has_expression here.kind ≡ false → is_call_row here.kind ≡ false → callee_fault (lent_program t c lw lc d) n ≡ false
    unfolding callee_fault function_fault import_fault
    bare-callee e q = rw (bare-call here.kind here.expr e q, bare-import here.kind here.expr e q)

    plain-callee : is_call_row here.kind ≡ false → is_call_expression here.expr ≡ false → callee_fault (lent_program t c lw lc d) n ≡ false
    unfolding callee_fault function_fault import_fault
    plain-callee e q = rw (plain-call here.kind here.expr e q, plain-import here.kind here.expr q)

    gives-end : here.kind ≡ 2 → Gives 0
    unfolding kind_fault target_fault has_target size_fault word_fault operands_fault address_fault is_listed has_expression is_test is_return is_calling has_word used_by if_lt if_eq if_true some_of
        effect_of return_of returned
    gives-end q =
        record {
          good = no-fault (lent_program t c lw lc d) n (rw q) (rw q) (bare-callee (rw q) (rw q)) (rw q) (rw q) (rw (used, q)) (rw q);
          line = rw q;
          block = rw q;
          tail = rw q;
          calls = bare-call here.kind here.expr (rw q) (rw q);
          returns = rw q;
          imports = bare-import here.kind here.expr (rw q) (rw q);
          effect = rw q;
        }

    gives-bare : here.kind ≡ 13 → here.expr ≡ 0 → Gives 0
    unfolding kind_fault target_fault has_target callee_fault function_fault import_fault size_fault word_fault operands_fault address_fault is_listed has_expression expression_listed expression_uses is_operator is_test is_call is_import is_call_expression is_return is_calling has_word
        used_by if_lt if_eq if_true some_of effect_of return_of returned
    gives-bare q e =
        record {
          good = no-fault (lent_program t c lw lc d) n (rw (q, e)) (rw q) (rw (q, e)) (rw q) (rw q) (rw (used, q, e)) (rw q);
          line = rw q;
          block = rw q;
          tail = rw q;
          calls = rw (q, e);
          returns = rw (q, e);
          imports = rw e;
          effect = rw (q, e);
        }

    gives-value : (v end : ℕ) → here.kind ≡ 13 → (here.expr ≡ 0 → ⊥) → ((k : ℕ) → expression_listed k here.expr ≡ true) → is_call_expression here.expr ≡ false
        → some_of (operand_fault size d) (take (expression_uses here.expr here.count) (slots t (n * 27))) ≡ false
        → eval_of Bits32 st s m r.top here.expr (take (expression_uses here.expr here.count) (slots t (n * 27))) ≡ valued v end → Gives v
    unfolding kind_fault target_fault has_target size_fault word_fault operands_fault address_fault is_listed has_expression is_test is_return is_calling has_word used_by if_lt if_eq if_true some_of
        effect_of return_of returned worked_of
    gives-value v end q e l b o w =
        record {
          good = no-fault (lent_program t c lw lc d) n (rw (q, l 13)) (rw q) (plain-callee (rw q) b) (rw q) (rw q) (rw (used, q, sized) o) (rw q);
          line = rw q;
          block = rw q;
          tail = rw q;
          calls = plain-call here.kind here.expr (rw q) b;
          returns = rw (q, b);
          imports = plain-import here.kind here.expr b;
          effect = rw (used, q, b, ne_eqb _ _ e, w);
        }

    value_gives : (v end : ℕ) → here.kind ≡ 13 → (here.expr ≡ 0 → ⊥) → Valued t (n * 27) size d st s m r.top v end → Gives v
    unfolding row_at row_from
    value_gives v end q e x = gives-value v end q e x.listed x.bare (x.operands here.count) (x.worked here.count)

    gives : (v end : ℕ) → result_of t d size st s m n r.top ≡ valued v end → Gives v
    unfolding result_of
    gives v end =
        either-eq (λ (w : Worked). w ≡ valued v end → Gives v) here.kind 2 (valued 0 0) _ (λ q e. zero-value v end e (gives-end q))
        (λ n2. either-eq (λ (w : Worked). w ≡ valued v end → Gives v) here.kind 13 _ (Err 0)
        (λ q. either-eq (λ (w : Worked). w ≡ valued v end → Gives v) here.expr 0 (valued 0 0) (good_work t (n * 27) size d st s m r.top)
        (λ x e. zero-value v end e (gives-bare q x)) (λ x e. value_gives v end q x (good-work t (n * 27) size d st s m r.top v end e)))
        (λ q. stop-value 0 v end))
      where
        word_in : Worked → ℕ
        word_in (Ok got) = got.word
        word_in (Err k) = 0

        zero-value : (v end : ℕ) → valued 0 0 ≡ valued v end → Gives 0 → Gives v
        zero-value v end e x = subst Gives (ap word_in e) x

    -- the call at row p in the frame behind
    module _ (small : c < 4294967296) (v p caller back z : ℕ) (low : p < c) (ep : get_or st s 0 ≡ p) (ec : get_or st (s + 1) 0 ≡ caller) (eb : get_or st (s + 2) 0 ≡ back)
        (function : Function (row_at t) c (row_at t p).func z) (fits : back ≤ length m) (meets : caller + z ≡ s) (x : Handed t c lw lc d z p) (y : Gives v) where
      not_first : is_first Bits32 st s ≡ false
      unfolding is_first mark
      not_first = rw (ep, ne_eqb p 4294967295 (λ e. omega (arith, low, small, e))) (both_false (eqb s 0))

      called : called_from (row_at t) c st s ≡ true
      unfolding called_from
      called =
          rw (ep, ec, lt-ltb p c low, row_within t c (row_at t p).func z function p refl, x.calling, row-size t c (row_at t p).func z function p refl, eq-eqb (caller + z) s meets)

      not-passed : is_return_call (row_at t p) ≡ false
      unfolding is_return_call
      not-passed = rw x.stays

      leaves-good : leaves_good Bits32 (row_at t) c (length m) st (suc s) s ≡ true
      unfolding leaves_good passes_on if_true
      leaves-good = rw (h.head, eb, le-leb back (length m) fits, not_first, called, ep, not-passed)

      rows_left_lem : rows_left Bits32 (row_at t) c st (suc s) s ≡ p ∷ (row_at t p).func ∷ []
      unfolding rows_left if_true
      rows_left_lem = rw (not_first, called, ep, not-passed)

      resumes : resumption_of Bits32 (row_at t) c st (suc s) s ≡ Caller p caller s back
      unfolding resumption_of passes_on if_true
      resumes = rw (not_first, called, ep, not-passed, ec, eb)

      leaves-here : leaves_frame here ≡ true
      unfolding leaves_frame
      leaves-here = rw y.returns

      back-fine : within_broken (lent_program t c lw lc d) r st (length m) ≡ No
      back-fine =
          return-fine t c lw lc g d size r st m h below own y.line y.good p y.calls leaves-here (frame-fine t c lw lc g d size r st m h below own) rows_left_lem x.good
          (function-good t c (row_at t p).func z function lw lc d)
          (record-fine t c lw lc g d size r st m h below own (rw y.block) (rw y.tail) (rw leaves-here leaves-good))

      right-resumed : Right (resumed (row_at t) st s v p caller back)
      unfolding resumed RightBy handed_by handed_to if_eq
      right-resumed =
          either-eq (λ (w : List ℕ). Moved (suc p) caller s back w) (row_at t p).kind 11 st (set st (caller + (row_at t p).a) v)
          (λ q. record { fine = back-fine; imports = y.imports; effect = y.effect ∙ rw (resumes, x.at, q); stack = refl })
          (λ q. record { fine = back-fine; imports = y.imports; effect = y.effect ∙ rw (resumes, x.at, ne_eqb _ _ q); stack = length-set st (caller + (row_at t p).a) v })

    right-hand : c < 4294967296 → (v : ℕ) → Gives v → Right (hand_transfer t c lw lc d st s (length m) v)
    unfolding hand_transfer hand_to
    right-hand small v y =
        either Right (get_or st s 0) c _ (transferred None st)
        (λ l. either-eq Right (size_of (row_at t) c (row_at t (get_or st s 0)).func) 0 (transferred None st) _ (λ q. same)
        (λ q. either Right (length m) (get_or st (s + 2) 0) (transferred None st) _ (λ b. same)
        (λ b. either-eq Right (get_or st (s + 1) 0 + size_of (row_at t) c (row_at t (get_or st s 0)).func) s _ (transferred None st)
        (λ e. either_true Right (call_good t c lw lc d (size_of (row_at t) c (row_at t (get_or st s 0)).func) (get_or st s 0)) _ (transferred None st)
        (λ w. resumption l q b e w) (λ w. same))
        (λ e. same))))
        (λ l. same)
      where
        resumption : get_or st s 0 < c → (size_of (row_at t) c (row_at t (get_or st s 0)).func ≡ 0 → ⊥) → get_or st (s + 2) 0 ≤ length m
            → get_or st (s + 1) 0 + size_of (row_at t) c (row_at t (get_or st s 0)).func ≡ s
            → call_good t c lw lc d (size_of (row_at t) c (row_at t (get_or st s 0)).func) (get_or st s 0) ≡ true
            → Right (resumed (row_at t) st s v (get_or st s 0) (get_or st (s + 1) 0) (get_or st (s + 2) 0))
        resumption l q b e w =
            let f = size-function (row_at t) c (row_at t (get_or st s 0)).func _ q refl in
            right-resumed small v (get_or st s 0) (get_or st (s + 1) 0) (get_or st (s + 2) 0) _ l refl refl refl f b e
            (handed t c lw lc d _ (get_or st s 0) (row-size t c (row_at t (get_or st s 0)).func _ f (get_or st s 0) refl) w) y

    right-return : c < 4294967296 → Right (return_transfer t c lw lc d size st s m n r.top)
    unfolding return_transfer return_by
    right-return small = by (result_of t d size st s m n r.top) refl
      where
        by : (w : Worked) → result_of t d size st s m n r.top ≡ w → Right (return_by t c lw lc d size st s m n r.top w)
        by (Ok got) e = right-hand small got.word (gives got.word got.top e)
        by (Err k) e = same

  -- what became of a call or a return is right
  pub right-transfer : c < 4294967296 → InFrame t c g size r st m → Right (transfer_of t c lw lc g d size st s r.used m n r.top)
  unfolding transfer_of
  right-transfer small h =
      either Right n c _ (transferred None st)
      (λ l. either-eq Right here.func g _ (transferred None st)
      (λ e. either_true Right (calls_any (row_at t) size n) _ _
      (λ q. right-call h l e r.used n s r.top (went_call h l e (any-row t c lw lc d n size (sized h l e) q)))
      (λ q. either-eq Right here.kind 12 _ _ (λ k. right-tail h l e k) (λ k. right-return h l e small)))
      (λ e. same))
      (λ l. same)
