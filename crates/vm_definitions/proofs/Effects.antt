-- A stop has a number; a statement that is no return leaves a running record and a memory of the same length.
-- Assumes nothing.
use Rattle.std.proofs.Common.{Err, None, Ok, Option, Some}
use Rattle.vm_definitions.specs.Operands.{Worked, valued}
use mathlib.Core.Path.{◌≡◌, refl}
use Prim.Native.Nat.{ℕ, ◌+◌, ◌*◌, ◌<◌}
use mathlib.Core.List.{List}
use native.Mathlib.Omega.{arith}
use lib.ListN.{get_or, length}
use Rattle.base_prelude.specs.Choice.{if_eq}
use Rattle.base_prelude.proofs.Choice.{either, either-eq, either_true}
use Rattle.base_limits.specs.Width.{bits_of, bytes_of}
use Rattle.base_limits.specs.declared.Width.{Width}
use Rattle.base_limits.specs.Record.{going_on, moved_to}
use Rattle.lang_words.specs.Words.{least_operands}
use Rattle.base_word.specs.Word.{div_of, mod_of, shl_of, shr_of, bsr_of, asr_of, rol_of, ror_of}
use Rattle.base_word.specs.Word.{Answer}
use Rattle.base_word.specs.declared.WordError.TheVariants.{Division, Shift}
use Rattle.prog_tables.specs.Layout.{plain, no_expression}
use Rattle.prog_tables.specs.Statement.{Row}
use Rattle.prog_tables.specs.Program.{Program}
use Rattle.prog_tables.specs.declared.Operand.{Operand}
use Rattle.vm_definitions.specs.Access.{byte_address, word_address, byte_good}
use Rattle.vm_definitions.specs.Operands.{Words, words, bad, fetch_of, read_of, on_read}
use Rattle.vm_definitions.specs.Expressions.{eval_of, operand_no}
use Rattle.vm_definitions.specs.Step.{World, Effect, stops, leaves, goes_to, keeps, stores, block_of, end_block_of, test_of, worked_of, assigned, assigned_at, set_at_of, set_byte_by, set_word_by, call_by, call_of, tail_call_by, handed_to, handed_by, returned, return_of}
use Rattle.vm_definitions.specs.declared.Resumption.{Resumption}
use Rattle.vm_definitions.specs.declared.Resumption.TheVariants.{Ends, Caller}
use Rattle.vm_definitions.proofs.Stores.{store_length}
use Rattle.vm_definitions.proofs.Kept.{on_read_lem}
use Rattle.vm_definitions.specs.Operators.{Operator, operators, round_up, reserved, answered, fetched, byte_of, applied}
use Rattle.vm_definitions.proofs.OperatorTable.{Every, each-operator}

-- ---- expressions

unfoldable pub StopSome : Worked → Type 0
StopSome (Ok got) = Unit {0}
StopSome (Err k) = 0 < k

some-answered : (top : ℕ) (r : Answer) → StopSome (answered top r)
unfolding StopSome answered
some-answered top (Ok v) = tt
some-answered top (Err Division) = omega arith
some-answered top (Err Shift) = omega arith

some-fetched : (top : ℕ) (r : Option ℕ) → StopSome (fetched top r)
unfolding StopSome fetched
some-fetched top (Some v) = tt
some-fetched top None = omega arith

some-reserved : (w : Width) (m top n : ℕ) → StopSome (reserved w m top n)
unfolding StopSome reserved
some-reserved w m top n = either StopSome m (round_up w top + n) (Err 34) (valued (round_up w top) (round_up w top + n)) (λ h. omega arith) (λ h. tt)

some_byte : (l : List ℕ) (top a : ℕ) → StopSome (byte_of l top a)
unfolding StopSome byte_of
some_byte l top a = either_true StopSome (byte_good (length l) a) (valued (get_or l a 0) top) (Err 32) (λ e. tt) (λ e. omega arith)

some-value : (v top : ℕ) → StopSome (valued v top)
unfolding StopSome
some-value v top = tt

some-stop : StopSome (Err 32)
unfolding StopSome
some-stop = omega arith

some-applied : (w : Width) (m : List ℕ) (top e x y : ℕ) → StopSome (applied w m top e x y)
unfolding applied operators Every
some-applied w m top e x y =
    each-operator (λ (o : Operator). StopSome (o.result w m top x y)) e (
      some-value _ top,
      (
        some-value _ top,
        (
          some-answered top (asr_of (bits_of w) x y),
          (
            some-reserved w (length m) top x,
            (
              some-reserved w (length m) top (bytes_of w * x),
              (
                some-answered top (bsr_of (bits_of w) x y),
                (
                  some-answered top (div_of (bits_of w) x y),
                  (
                    some_byte m top (byte_address w x y),
                    (
                      some-fetched top (fetch_of w m (word_address w x y)),
                      (
                        some-answered top (mod_of (bits_of w) x y),
                        (
                          some-value _ top,
                          (
                            some-value _ top,
                            (
                              some-value _ top,
                              (
                                some-answered top (rol_of (bits_of w) x y),
                                (
                                  some-answered top (ror_of (bits_of w) x y),
                                  (
                                    some-answered top (shl_of (bits_of w) x y),
                                    (
                                      some-answered top (shr_of (bits_of w) x y),
                                      (
                                        some-value _ top,
                                        (
                                          some-value _ top,
                                          tt,
                                        ),
                                      ),
                                    ),
                                  ),
                                ),
                              ),
                            ),
                          ),
                        ),
                      ),
                    ),
                  ),
                ),
              ),
            ),
          ),
        ),
      ),
    )
    (some-value 0 top)

some-eval : (w : Width) (st : List ℕ) (s : ℕ) (m : List ℕ) (top e : ℕ) (os : List Operand) → StopSome (eval_of w st s m top e os)
unfolding eval_of
some-eval w st s m top e os =
    either-eq StopSome e plain _ _ (λ d. some-fetched top (read_of w st s m (operand_no os 0)))
    (λ d. on_read_lem StopSome (read_of w st s m (operand_no os 0)) (Err 32)
    (λ x. if_eq (least_operands e) 1 (applied w m top e x 0) (on_read (read_of w st s m (operand_no os 1)) (Err 32) (applied w m top e x))) some-stop
    (λ x. either-eq StopSome (least_operands e) 1 _ _ (λ q. some-applied w m top e x 0)
    (λ q. on_read_lem StopSome (read_of w st s m (operand_no os 1)) (Err 32) (applied w m top e x) some-stop (λ y. some-applied w m top e x y))))

-- ---- effects

-- a numbered stop, or a world with that state and a memory as long
unfoldable pub Fine : World → Effect → Type 0
Fine x (stops k) = 0 < k
Fine x (leaves y) = (y.machine.state ≡ x.machine.state) × (length y.memory ≡ length x.memory)

-- a numbered stop, or any world
unfoldable pub Numbered : Effect → Type 0
Numbered (stops k) = 0 < k
Numbered (leaves y) = Unit {0}

pub fine-numbered : (x : World) (e : Effect) → Fine x e → Numbered e
unfolding Fine Numbered
fine-numbered x (stops k) h = h
fine-numbered x (leaves y) h = tt

module _ (prog : Program) (x : World) where
  abbrev w : Width
  w = prog.width

  abbrev f : ℕ → Row
  f = prog.rows

  abbrev c : ℕ
  c = prog.count

  pub fine-stop : Fine x (stops 32)
  unfolding Fine
  fine-stop = omega arith

  fine-full : Fine x (stops 33)
  unfolding Fine
  fine-full = omega arith

  pub fine-goes : (n : ℕ) → Fine x (goes_to prog x n)
  unfolding Fine goes_to going_on
  fine-goes n = (refl, refl)

  fine-keeps : (top i : ℕ) (vs : List ℕ) → Fine x (keeps prog x top i vs)
  unfolding Fine keeps going_on
  fine-keeps top i vs = (refl, refl)

  fine-stores : (top a : ℕ) (bs : List ℕ) → Fine x (stores prog x top a bs)
  unfolding Fine stores going_on
  fine-stores top a bs = (refl, store_length x.memory a bs)

  pub fine-block : Fine x (block_of prog x)
  unfolding block_of
  fine-block = fine-keeps _ _ _

  pub fine-end-block : Fine x (end_block_of prog x)
  unfolding end_block_of
  fine-end-block = fine-keeps _ _ _

  pub fine-test : Fine x (test_of prog x)
  unfolding test_of
  fine-test =
      on_read_lem (Fine x) _ (stops 32) _ fine-stop
      (λ a. on_read_lem (Fine x) _ (stops 32) _ fine-stop (λ b. fine-goes _))

  pub fine-assigned : (r : Worked) → StopSome r → Fine x (assigned prog x r)
  unfolding StopSome assigned Fine
  fine-assigned (Ok got) h = fine-keeps got.top _ _
  fine-assigned (Err k) h = h

  fine-assigned-at : (r : Worked) → StopSome r → Fine x (assigned_at prog x r)
  unfolding StopSome assigned_at Fine
  fine-assigned-at (Ok got) h = fine-stores got.top _ _
  fine-assigned-at (Err k) h = h

  pub some-worked : StopSome (worked_of prog x)
  unfolding worked_of
  some-worked = some-eval w x.stack x.machine.frame x.memory x.machine.top _ _

  pub fine-set-at : Fine x (set_at_of prog x)
  unfolding set_at_of
  fine-set-at = either_true (Fine x) _ _ _ (λ e. fine-assigned-at (worked_of prog x) some-worked) (λ e. fine-stop)

  pub fine-set-byte : (vs : Words) → Fine x (set_byte_by prog x vs)
  unfolding set_byte_by
  fine-set-byte (words vs) = either_true (Fine x) _ _ _ (λ e. fine-stores _ _ _) (λ e. fine-stop)
  fine-set-byte bad = fine-stop

  pub fine-set-word : (vs : Words) → Fine x (set_word_by prog x vs)
  unfolding set_word_by
  fine-set-word (words vs) = either_true (Fine x) _ _ _ (λ e. fine-stores _ _ _) (λ e. fine-stop)
  fine-set-word bad = fine-stop

  fine-call-by : (vs : Words) → Fine x (call_by prog x vs)
  unfolding call_by Fine moved_to
  fine-call-by (words vs) = either (Fine x) _ _ _ _ (λ e. fine-full) (λ e. (refl, refl))
  fine-call-by bad = fine-stop

  pub fine-call : Fine x (call_of prog x)
  unfolding call_of
  fine-call = either-eq (Fine x) _ 7 _ _ (λ e. either_true (Fine x) _ _ _ (λ d. fine-call-by _) (λ d. fine-stop)) (λ e. fine-call-by _)

  pub fine-tail-call : (vs : Words) → Fine x (tail_call_by prog x vs)
  unfolding tail_call_by Fine moved_to
  fine-tail-call (words vs) = either (Fine x) _ _ _ _ (λ e. fine-full) (λ e. (refl, refl))
  fine-tail-call bad = fine-stop

  -- ---- returns

  pub numbered-to : (v : ℕ) (l : Resumption) → Numbered (handed_by prog x v l)
  unfolding handed_by handed_to Numbered
  numbered-to v (Ends top) = tt
  numbered-to v (Caller call s used top) =
      either-eq Numbered (f call).kind 7 _ _ (λ e. either_true Numbered _ _ _ (λ d. tt) (λ d. omega arith))
      (λ e. either-eq Numbered (f call).kind 11 _ _ (λ d. tt) (λ d. tt))

  numbered-returned : (r : Worked) → StopSome r → Numbered (returned prog x r)
  unfolding returned StopSome Numbered
  numbered-returned (Ok got) h = numbered-to got.word _
  numbered-returned (Err k) h = h

  pub numbered-return : Numbered (return_of prog x)
  unfolding return_of
  numbered-return =
      either-eq Numbered _ 2 _ _ (λ e. numbered-returned (valued 0 0) (some-value 0 0))
      (λ e. either-eq Numbered _ no_expression _ _ (λ d. numbered-returned (valued 0 0) (some-value 0 0)) (λ d. numbered-returned (worked_of prog x) some-worked))
