-- Statements of one frame keep the invariant: those that go on or jump, `let` and `set`, `block` and `end block`, and the stores.
-- Assumes nothing.
use Rattle.std.proofs.Common.{Err, None, Ok, Option, Some}
use Rattle.vm_definitions.specs.Operands.{Worked, valued}
use mathlib.Core.Path.{◌≡◌, refl, sym, ◌∙◌, ap, subst}
use Prim.Native.Nat.{ℕ, zero, suc, ◌+◌, ◌*◌, ◌%◌, ◌<◌, ◌≤◌}
use mathlib.Core.Bool.{true}
use mathlib.Core.List.{List, [], ◌∷◌}
use native.Mathlib.Omega.{arith}
use lib.Dec.{eqb}
use lib.ListN.{get_or, length, replicate}
use Rattle.base_prelude.specs.Choice.{if_eq}
use Rattle.base_prelude.proofs.Choice.{either, either-eq, either_true, if_true-yes}
use Rattle.base_limits.specs.Width.{bits_of, bytes_of}
use Rattle.base_limits.specs.declared.Width.{Width}
use Rattle.lang_words.specs.Words.{least_operands}
use Rattle.base_word.specs.Bytes.{word_bytes}
use Rattle.base_word.specs.Word.{add_of, sub_of, mul_of, div_of, mod_of, and_of, or_of, xor_of, not_of, shl_of, shr_of, bsr_of, asr_of, rol_of, ror_of}
use Rattle.base_word.specs.Word.{Answer}
use Rattle.base_word.specs.declared.WordError.TheVariants.{Division, Shift}
use Rattle.prog_tables.specs.Layout.{plain}
use Rattle.prog_tables.specs.Statement.{is_test}
use Rattle.prog_tables.specs.Label.{Tables, rows}
use Rattle.prog_tables.specs.Program.{program_from}
use Rattle.prog_tables.specs.Nesting.{encloses, has_target}
use Rattle.prog_tables.specs.Frames.{frame_depth}
use Rattle.prog_tables.specs.WellFormed.{WellFormed}
use Rattle.prog_tables.specs.declared.Operand.{Operand}
use Rattle.prog_tables.proofs.Sound.{ok}
use Rattle.prog_laws.proofs.Next.{next-in, next-other, next-block, next-end-block}
use Rattle.prog_laws.proofs.Targets.{goto-target, target-scope}
use Rattle.prog_laws.proofs.Words.{around-self, frame-shallow, block-low, block_within, end-facts, Apart, destination-apart}
use Rattle.vm_definitions.specs.Access.{byte_address, word_address, byte_good, word_good, store_from}
use Rattle.vm_definitions.specs.Operands.{Words, words, bad, fetch_of, read_of, on_read}
use Rattle.vm_definitions.specs.Expressions.{eval_of, operand_no, test_holds}
use Rattle.vm_definitions.specs.Step.{World, Effect, stops, leaves, goes_to, keeps, stores, block_of, end_block_of, test_of, worked_of, assigned, assigned_at, address_of, set_at_of, set_byte_by, set_word_by}
use Rattle.vm_definitions.specs.Ledger.{Entry, Ledger}
use Rattle.vm_definitions.proofs.Invariant.{FrameAt, Invariant}
use Rattle.vm_definitions.proofs.Stores.{set_other, store_length, store-before, store_at, store-most, zeros-most}
use Rattle.vm_definitions.proofs.Carried.{frame-to, kept}
use Rattle.vm_definitions.proofs.Words.{memory_word}
use Rattle.vm_definitions.proofs.Places.{target-inside, goto-inside, around-cases, around-more, around-outside}
use Rattle.vm_definitions.specs.Operators.{Operator, operators, round_up, reserved, answered, fetched, byte_of, applied}
use Rattle.vm_definitions.proofs.OperatorTable.{Every, each-operator}
use Rattle.prog_tables.proofs.Ranges.{test-least}

-- a statement stops, or leaves a world of which the invariant holds
unfoldable pub Kept : Width → Tables → Entry → Ledger → Effect → Type 0
Kept w t e es (stops k) = Unit {0}
Kept w t e es (leaves y) = Invariant w t e es y

-- ---- small facts

pub on_read_lem : {X : Type 0} (P : X → Type 0) (r : Option ℕ) (x : X) (g : ℕ → X) → P x → ((v : ℕ) → P (g v)) → P (on_read r x g)
unfolding on_read
on_read_lem P (Some v) x g a b = b v
on_read_lem P None x g a b = a

store_other : (l : List ℕ) (a v i : ℕ) → (i ≡ a → ⊥) → get_or (store_from l a (v ∷ [])) i 0 ≡ get_or l i 0
unfolding store_from
store_other l a v i q = set_other l a v i q

store-none : (l : List ℕ) (a : ℕ) → store_from l a [] ≡ l
unfolding store_from
store-none l a = refl

first-most : (x n j m : ℕ) → x ≤ m → get_or (x ∷ replicate n 0) j 0 ≤ m
first-most x n zero m h = h
first-most x n (suc j) m h = zeros-most n j m

-- ---- the auto top that an expression leaves is within the memory

unfoldable pub TopIn : ℕ → Worked → Type 0
TopIn m (Ok got) = got.top ≤ m
TopIn m (Err k) = Unit {0}

top-answered : (m top : ℕ) (r : Answer) → top ≤ m → TopIn m (answered top r)
unfolding TopIn answered
top-answered m top (Ok v) h = h
top-answered m top (Err Division) h = tt
top-answered m top (Err Shift) h = tt

top-fetched : (m top : ℕ) (r : Option ℕ) → top ≤ m → TopIn m (fetched top r)
unfolding TopIn fetched
top-fetched m top (Some v) h = h
top-fetched m top None h = tt

top-reserved : (w : Width) (m top n : ℕ) → TopIn m (reserved w m top n)
unfolding TopIn reserved
top-reserved w m top n =
    either (TopIn m) m (round_up w top + n) (Err 34) (valued (round_up w top) (round_up w top + n)) (λ h. tt) (λ h. h)

top_byte : (l : List ℕ) (m top a : ℕ) → top ≤ m → TopIn m (byte_of l top a)
unfolding TopIn byte_of
top_byte l m top a h = either_true (TopIn m) (byte_good (length l) a) (valued (get_or l a 0) top) (Err 32) (λ e. h) (λ e. tt)

top-value : (m v top : ℕ) → top ≤ m → TopIn m (valued v top)
unfolding TopIn
top-value m v top h = h

top-stop : (m k : ℕ) → TopIn m (Err k)
unfolding TopIn
top-stop m k = tt

pub top-applied : (w : Width) (m : List ℕ) (top e x y : ℕ) → top ≤ length m → TopIn (length m) (applied w m top e x y)
unfolding applied operators Every
top-applied w m top e x y h =
    each-operator (λ (o : Operator). TopIn (length m) (o.result w m top x y)) e (
      top-value (length m) (add_of (bits_of w) x y) top h,
      (
        top-value (length m) (and_of (bits_of w) x y) top h,
        (
          top-answered (length m) top (asr_of (bits_of w) x y) h,
          (
            top-reserved w (length m) top x,
            (
              top-reserved w (length m) top (bytes_of w * x),
              (
                top-answered (length m) top (bsr_of (bits_of w) x y) h,
                (
                  top-answered (length m) top (div_of (bits_of w) x y) h,
                  (
                    top_byte m (length m) top (byte_address w x y) h,
                    (
                      top-fetched (length m) top (fetch_of w m (word_address w x y)) h,
                      (
                        top-answered (length m) top (mod_of (bits_of w) x y) h,
                        (
                          top-value (length m) (mul_of (bits_of w) x y) top h,
                          (
                            top-value (length m) (not_of (bits_of w) x) top h,
                            (
                              top-value (length m) (or_of (bits_of w) x y) top h,
                              (
                                top-answered (length m) top (rol_of (bits_of w) x y) h,
                                (
                                  top-answered (length m) top (ror_of (bits_of w) x y) h,
                                  (
                                    top-answered (length m) top (shl_of (bits_of w) x y) h,
                                    (
                                      top-answered (length m) top (shr_of (bits_of w) x y) h,
                                      (
                                        top-value (length m) (sub_of (bits_of w) x y) top h,
                                        (
                                          top-value (length m) (xor_of (bits_of w) x y) top h,
                                          tt,
                                        ),
                                      ),
                                    ),
                                  ),
                                ),
                              ),
                            ),
                          ),
                        ),
                      ),
                    ),
                  ),
                ),
              ),
            ),
          ),
        ),
      ),
    )
    (top-value (length m) 0 top h)

pub top-eval : (w : Width) (st : List ℕ) (s : ℕ) (m : List ℕ) (top e : ℕ) (os : List Operand) → top ≤ length m → TopIn (length m) (eval_of w st s m top e os)
unfolding eval_of
top-eval w st s m top e os h =
    either-eq (TopIn (length m)) e plain (fetched top (read_of w st s m (operand_no os 0)))
    (on_read (read_of w st s m (operand_no os 0)) (Err 32)
    (λ x. if_eq (least_operands e) 1 (applied w m top e x 0) (on_read (read_of w st s m (operand_no os 1)) (Err 32) (applied w m top e x))))
    (λ d. top-fetched (length m) top (read_of w st s m (operand_no os 0)) h)
    (λ d. on_read_lem (TopIn (length m)) (read_of w st s m (operand_no os 0)) (Err 32)
    (λ x. if_eq (least_operands e) 1 (applied w m top e x 0) (on_read (read_of w st s m (operand_no os 1)) (Err 32) (applied w m top e x)))
    (top-stop (length m) 32)
    (λ x. either-eq (TopIn (length m)) (least_operands e) 1 (applied w m top e x 0) (on_read (read_of w st s m (operand_no os 1)) (Err 32) (applied w m top e x))
    (λ q. top-applied w m top e x 0 h)
    (λ q. on_read_lem (TopIn (length m)) (read_of w st s m (operand_no os 1)) (Err 32) (applied w m top e x) (top-stop (length m) 32) (λ y. top-applied w m top e x y h))))

-- ---- statements

test-target : (k : ℕ) → is_test k ≡ true → has_target k ≡ true
unfolding has_target
test-target k e = if_true-yes true (if_eq k 20 true (eqb k 21)) e

module _ (w : Width) (t : Tables) (good : WellFormed (program_from w t)) (e : Entry) (es : Ledger) (x : World) (i : Invariant w t e es x) where
  -- the row behind one that opens and closes no frame
  behind : (m : ℕ) (st : List ℕ) (g s n : ℕ) → 5 ≤ (rows t n).kind → FrameAt w t m st g s n → FrameAt w t m st g s (suc n)
  behind m st g s n k f =
      frame-to w t good m st g s n (suc n) (next-in w t good n f.within (λ d. omega arith)).within (next-in w t good n f.within (λ d. omega arith)).no-function
      (next-in w t good n f.within (λ d. omega arith)).same
      (next-other w t good n f.within (λ d. omega arith) (λ d. omega arith) (λ d. omega arith) (λ d. omega arith)) f

  -- one that goes to a row of its function and scope
  goes : (n : ℕ) → FrameAt w t (length x.memory) x.stack e.func x.machine.frame n → Kept w t e es (goes_to (program_from w t) x n)
  unfolding Kept goes_to
  goes n f = kept w t good e es x i n x.machine.top x.stack x.memory refl refl i.top f (λ j l. refl)

  -- `end if`
  pub kept_next : 5 ≤ (rows t x.machine.next).kind → Kept w t e es (goes_to (program_from w t) x (suc x.machine.next))
  kept_next k = goes (suc x.machine.next) (behind (length x.memory) x.stack e.func x.machine.frame x.machine.next k i.frame)

  -- `goto`
  pub kept-goto : (rows t x.machine.next).kind ≡ 10 → Kept w t e es (goes_to (program_from w t) x (rows t x.machine.next).a)
  kept-goto k =
      goes (rows t x.machine.next).a
      (frame-to w t good (length x.memory) x.stack e.func x.machine.frame x.machine.next (rows t x.machine.next).a
      (goto-target w t good x.machine.next i.frame.within k).within (goto-inside w t good x.machine.next i.frame.within k)
      (goto-target w t good x.machine.next i.frame.within k).same (goto-target w t good x.machine.next i.frame.within k).scope i.frame)

  -- `else` and the else-if jump
  pub kept-jump : has_target (rows t x.machine.next).kind ≡ true → Kept w t e es (goes_to (program_from w t) x (rows t x.machine.next).a)
  kept-jump k =
      goes (rows t x.machine.next).a
      (frame-to w t good (length x.memory) x.stack e.func x.machine.frame x.machine.next (rows t x.machine.next).a
      (target-scope w t good x.machine.next i.frame.within k).within (target-inside w t good x.machine.next i.frame.within k)
      (target-scope w t good x.machine.next i.frame.within k).same (target-scope w t good x.machine.next i.frame.within k).scope i.frame)

  pub kept-stop : (k : ℕ) → Kept w t e es (stops k)
  unfolding Kept
  kept-stop k = tt

  pub kept_test : is_test (rows t x.machine.next).kind ≡ true → Kept w t e es (test_of (program_from w t) x)
  unfolding test_of
  kept_test k =
      on_read_lem (Kept w t e es) (read_of w x.stack x.machine.frame x.memory (operand_no (rows t x.machine.next).operands 0)) (stops 32) _ (kept-stop 32)
      (λ a. on_read_lem (Kept w t e es) (read_of w x.stack x.machine.frame x.memory (operand_no (rows t x.machine.next).operands 1)) (stops 32) _ (kept-stop 32)
      (λ b. either_true (λ (n : ℕ). Kept w t e es (goes_to (program_from w t) x n)) (test_holds w (rows t x.machine.next).kind a b) (suc x.machine.next) (rows t x.machine.next).a
      (λ d. kept_next (omega (arith, test-least (rows t x.machine.next).kind k))) (λ d. kept-jump (test-target (rows t x.machine.next).kind k))))

  -- ---- `let` and `set`

  pub kept-value : 5 ≤ (rows t x.machine.next).kind → (rows t x.machine.next).kind ≤ 6 → (v top : ℕ) → top ≤ length x.memory
      → Kept w t e es (assigned (program_from w t) x (valued v top))
  unfolding Kept assigned keeps
  kept-value k l v top h =
      kept w t good e es x i (suc x.machine.next) top (store_from x.stack (x.machine.frame + (rows t x.machine.next).a) (v ∷ [])) x.memory
      (store_length x.stack (x.machine.frame + (rows t x.machine.next).a) (v ∷ [])) refl h
      (behind (length x.memory) (store_from x.stack (x.machine.frame + (rows t x.machine.next).a) (v ∷ [])) e.func x.machine.frame x.machine.next k frame)
      (λ j g. store-before x.stack (x.machine.frame + (rows t x.machine.next).a) (v ∷ []) j (omega (arith, far.low)))
    where
      far : Apart w t good x.machine.next (rows t x.machine.next).a
      far = destination-apart w t good x.machine.next i.frame.within k l

      frame : FrameAt w t (length x.memory) (store_from x.stack (x.machine.frame + (rows t x.machine.next).a) (v ∷ [])) e.func x.machine.frame x.machine.next
      frame =
          record {
            within = i.frame.within;
            inside = i.frame.inside;
            func = i.frame.func;
            top =
                omega (
                  arith,
                  i.frame.top,
                  store-before x.stack (x.machine.frame + (rows t x.machine.next).a) (v ∷ []) (x.machine.frame + 2) (omega (arith, far.low)),
                );
            blocks = λ b g q d.
                omega (
                  arith,
                  i.frame.blocks b g q d,
                  store_other x.stack (x.machine.frame + (rows t x.machine.next).a) v (x.machine.frame + (rows t b).a)
                      (λ z. far.apart b g q d (omega arith)),
                );
          }

  kept-assigned : 5 ≤ (rows t x.machine.next).kind → (rows t x.machine.next).kind ≤ 6 → (r : Worked) → TopIn (length x.memory) r
      → Kept w t e es (assigned (program_from w t) x r)
  unfolding TopIn Kept assigned
  kept-assigned k l (Ok got) h = kept-value k l got.word got.top h
  kept-assigned k l (Err n) h = tt

  pub kept-let : 5 ≤ (rows t x.machine.next).kind → (rows t x.machine.next).kind ≤ 6
      → Kept w t e es (assigned (program_from w t) x (worked_of (program_from w t) x))
  unfolding worked_of
  kept-let k l =
      kept-assigned k l (worked_of (program_from w t) x)
      (top-eval w x.stack x.machine.frame x.memory x.machine.top (rows t x.machine.next).expr (rows t x.machine.next).operands i.top)

  -- ---- stores in memory

  pub kept_store : 5 ≤ (rows t x.machine.next).kind → (top a : ℕ) (bs : List ℕ) → top ≤ length x.memory → Kept w t e es (stores (program_from w t) x top a bs)
  unfolding Kept stores
  kept_store k top a bs h =
      kept w t good e es x i (suc x.machine.next) top x.stack (store_from x.memory a bs) refl (store_length x.memory a bs) h
      (behind (length x.memory) x.stack e.func x.machine.frame x.machine.next k i.frame) (λ j g. refl)

  kept-assigned-at : 5 ≤ (rows t x.machine.next).kind → (r : Worked) → TopIn (length x.memory) r → Kept w t e es (assigned_at (program_from w t) x r)
  unfolding TopIn Kept assigned_at
  kept-assigned-at k (Ok got) h = kept_store k got.top (address_of (program_from w t) x) (word_bytes (bytes_of w) got.word) h
  kept-assigned-at k (Err n) h = tt

  -- `set @` without a call
  pub kept-set-at : (rows t x.machine.next).kind ≡ 7 → Kept w t e es (set_at_of (program_from w t) x)
  unfolding set_at_of worked_of
  kept-set-at k =
      either_true (Kept w t e es) (word_good w (length x.memory) (address_of (program_from w t) x)) (assigned_at (program_from w t) x (worked_of (program_from w t) x)) (stops 32)
      (λ d. kept-assigned-at (omega arith) (worked_of (program_from w t) x)
      (top-eval w x.stack x.machine.frame x.memory x.machine.top (rows t x.machine.next).expr (rows t x.machine.next).operands i.top))
      (λ d. kept-stop 32)

  -- `set-byte` and `set-word`
  pub kept-set-byte : (rows t x.machine.next).kind ≡ 8 → (vs : Words) → Kept w t e es (set_byte_by (program_from w t) x vs)
  unfolding set_byte_by
  kept-set-byte k (words vs) =
      either_true (Kept w t e es) (byte_good (length x.memory) (byte_address w (get_or vs 0 0) (get_or vs 1 0))) _ (stops 32)
      (λ d. kept_store (omega arith) x.machine.top (byte_address w (get_or vs 0 0) (get_or vs 1 0)) (get_or vs 2 0 % 256 ∷ []) i.top) (λ d. kept-stop 32)
  kept-set-byte k bad = kept-stop 32

  pub kept-set-word : (rows t x.machine.next).kind ≡ 9 → (vs : Words) → Kept w t e es (set_word_by (program_from w t) x vs)
  unfolding set_word_by
  kept-set-word k (words vs) =
      either_true (Kept w t e es) (word_good w (length x.memory) (word_address w (get_or vs 0 0) (get_or vs 1 0))) _ (stops 32)
      (λ d. kept_store (omega arith) x.machine.top (word_address w (get_or vs 0 0) (get_or vs 1 0)) (word_bytes (bytes_of w) (get_or vs 2 0)) i.top) (λ d. kept-stop 32)
  kept-set-word k bad = kept-stop 32

  -- ---- blocks

  -- a block whose saved word is the auto top itself
  kept-saved : (rows t x.machine.next).kind ≡ 3
      → Kept w t e es (keeps (program_from w t) x x.machine.top (rows t x.machine.next).a (x.machine.top ∷ replicate (rows t x.machine.next).b 0))
  unfolding Kept keeps
  kept-saved k =
      kept w t good e es x i (suc x.machine.next) x.machine.top
      (store_from x.stack (x.machine.frame + (rows t x.machine.next).a) (x.machine.top ∷ replicate (rows t x.machine.next).b 0)) x.memory
      (store_length x.stack (x.machine.frame + (rows t x.machine.next).a) (x.machine.top ∷ replicate (rows t x.machine.next).b 0)) refl i.top frame
      (λ j g.
      store-before x.stack (x.machine.frame + (rows t x.machine.next).a) (x.machine.top ∷ replicate (rows t x.machine.next).b 0) j (omega (arith, low)))
    where
      low : 3 + (rows t (rows t x.machine.next).func).b ≤ (rows t x.machine.next).a
      low = block-low w t good x.machine.next i.frame.within k

      own : (rows t (rows t x.machine.next).func).a ≡ (rows t e.func).a
      own = ap (λ (y : ℕ). (rows t y).a) i.frame.func

      no_end : (rows t x.machine.next).kind ≡ 2 → ⊥
      no_end d = omega arith

      -- the block's own word, and those of the blocks around it
      most : (b : ℕ) → b < t.count → (rows t b).kind ≡ 3 → encloses (rows t) frame_depth b x.machine.next ≡ true
          → get_or (store_from x.stack (x.machine.frame + (rows t x.machine.next).a) (x.machine.top ∷ replicate (rows t x.machine.next).b 0)) (x.machine.frame + (rows t b).a) 0 ≤ length x.memory
      most b g q d =
          around-cases (rows t) 16 b x.machine.next d
          (λ z.
          let a : x.machine.frame + (rows t b).a ≡ (x.machine.frame + (rows t x.machine.next).a) + 0 = omega (arith, ap (λ (y : ℕ). (rows t y).a) z) in
          let v : get_or (store_from x.stack (x.machine.frame + (rows t x.machine.next).a) (x.machine.top ∷ replicate (rows t x.machine.next).b 0)) (x.machine.frame + (rows t b).a) 0 ≡ x.machine.top =
          ap (λ (y : ℕ). get_or (store_from x.stack (x.machine.frame + (rows t x.machine.next).a) (x.machine.top ∷ replicate (rows t x.machine.next).b 0)) y 0) a
          ∙ store_at x.stack (x.machine.frame + (rows t x.machine.next).a) (x.machine.top ∷ replicate (rows t x.machine.next).b 0) 0
          (omega (arith, own, block_within w t good x.machine.next i.frame.within k, i.ends, i.lent)) (omega arith) in
          omega (arith, i.top))
          (λ z u.
          store-most x.stack (x.machine.frame + (rows t x.machine.next).a) (x.machine.top ∷ replicate (rows t x.machine.next).b 0) (x.machine.frame + (rows t b).a) (length x.memory)
          (λ j. first-most x.machine.top (rows t x.machine.next).b j (length x.memory) i.top)
          (i.frame.blocks b g q (around-more (rows t) 16 b (rows t x.machine.next).scope u)))

      frame : FrameAt w t (length x.memory) (store_from x.stack (x.machine.frame + (rows t x.machine.next).a) (x.machine.top ∷ replicate (rows t x.machine.next).b 0)) e.func x.machine.frame (suc x.machine.next)
      frame =
          record {
            within = (next-in w t good x.machine.next i.frame.within no_end).within;
            inside = (next-in w t good x.machine.next i.frame.within no_end).no-function;
            func = (next-in w t good x.machine.next i.frame.within no_end).same ∙ i.frame.func;
            top =
                omega (
                  arith,
                  i.frame.top,
                  store-before x.stack (x.machine.frame + (rows t x.machine.next).a) (x.machine.top ∷ replicate (rows t x.machine.next).b 0) (x.machine.frame + 2) (omega (arith, low)),
                );
            blocks = λ b g q d. most b g q (ap (encloses (rows t) frame_depth b) (sym (next-block w t good x.machine.next i.frame.within no_end k)) ∙ d);
          }

  pub kept_block : (rows t x.machine.next).kind ≡ 3 → Kept w t e es (block_of (program_from w t) x)
  unfolding block_of
  kept_block k =
      subst (λ (v : ℕ). Kept w t e es (keeps (program_from w t) x x.machine.top (rows t x.machine.next).a (v ∷ replicate (rows t x.machine.next).b 0)))
      (sym (memory_word w x.machine.top (omega (arith, i.top, i.short)))) (kept-saved k)

  pub kept-end-block : (rows t x.machine.next).kind ≡ 4 → Kept w t e es (end_block_of (program_from w t) x)
  unfolding Kept end_block_of keeps store_from
  kept-end-block k =
      kept w t good e es x i (suc x.machine.next) (get_or x.stack (x.machine.frame + (rows t x.machine.next).a) 0) x.stack x.memory refl refl
      (omega (
        arith,
        i.frame.blocks (rows t x.machine.next).scope below (end-facts w t good x.machine.next i.frame.within k).is_block
            (around-self (rows t) t.count (ok w t good) 17 (rows t x.machine.next).scope),
        ap (λ (y : ℕ). get_or x.stack (x.machine.frame + y) 0) (end-facts w t good x.machine.next i.frame.within k).word,
      ))
      frame (λ j g. refl)
    where
      no_end : (rows t x.machine.next).kind ≡ 2 → ⊥
      no_end d = omega arith

      below : (rows t x.machine.next).scope < t.count
      below = omega (arith, (end-facts w t good x.machine.next i.frame.within k).before, i.frame.within)

      frame : FrameAt w t (length x.memory) x.stack e.func x.machine.frame (suc x.machine.next)
      frame =
          record {
            within = (next-in w t good x.machine.next i.frame.within no_end).within;
            inside = (next-in w t good x.machine.next i.frame.within no_end).no-function;
            func = (next-in w t good x.machine.next i.frame.within no_end).same ∙ i.frame.func;
            top = i.frame.top;
            blocks = λ b g q d.
                i.frame.blocks b g q
                (around-outside (rows t) b (rows t x.machine.next).scope (end-facts w t good x.machine.next i.frame.within k).is_block
                (frame-shallow w t good (rows t x.machine.next).scope below)
                (ap (encloses (rows t) frame_depth b) (sym (next-end-block w t good x.machine.next i.frame.within no_end k)) ∙ d));
          }
