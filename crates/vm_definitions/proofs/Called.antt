-- Calls and tail calls: the invariant holds for the function called.
-- Assumes nothing.
use mathlib.Core.Path.{◌≡◌, refl, sym, ◌∙◌, ap, subst}
use Prim.Native.Nat.{ℕ, suc, ◌+◌, ◌<◌, ◌≤◌}
use mathlib.Core.Bool.{Bool, true, false}
use mathlib.Core.Option.{Option, none, some}
use mathlib.Core.List.{List, [], ◌∷◌}
use native.Mathlib.Decide.{ℕ_discrete}
use native.Mathlib.Omega.{arith}
use borrow.Author.Tests.{ne_eqb}
use lib.Dec.{eqb}
use lib.ListN.{get_or, length}
use Rattle.base_prelude.specs.Choice.{if_eq, if_true}
use Rattle.base_prelude.proofs.Choice.{true-false, either, either-eq, either_true, if_eq-yes, if_eq-no, if_true-yes}
use Rattle.base_limits.specs.declared.Width.{Width}
use Rattle.base_limits.specs.Record.{moved_to}
use Rattle.prog_tables.specs.Tests.{both, one_of}
use Rattle.prog_tables.specs.Statement.{Row, has_expression, is_call}
use Rattle.prog_tables.specs.Label.{Tables, rows}
use Rattle.prog_tables.specs.Program.{program_from}
use Rattle.prog_tables.specs.WellFormed.{WellFormed}
use Rattle.prog_tables.proofs.Each.{both_left, both_right}
use Rattle.prog_laws.proofs.Rows.{Callee, callee-facts, few-rows, marks, size-at, address-words}
use Rattle.vm_definitions.specs.Access.{as_word, word_good, store_from}
use Rattle.vm_definitions.specs.Operands.{Words, words, bad, number_in}
use Rattle.vm_definitions.specs.Frames.{frame_words, returns_to, caller_frame, top_at_entry, is_calling, importing}
use Rattle.vm_definitions.specs.Step.{World, stops, call_by, call_of, tail_call_by, arguments_of, address_of}
use Rattle.vm_definitions.specs.Ledger.{Entry, Ledger}
use Rattle.vm_definitions.proofs.Invariant.{FrameAt, Head, Under, Invariant}
use Rattle.vm_definitions.proofs.Stores.{store_length, store-before, store_at}
use Rattle.vm_definitions.proofs.Words.{small_word, memory_word, mark-word}
use Rattle.vm_definitions.proofs.Carried.{Agree, number_same, frame_same, under_same}
use Rattle.vm_definitions.proofs.Kept.{Kept}
use Rattle.vm_definitions.proofs.Begun.{first_frame}
use Rattle.vm_definitions.proofs.Importing.{calls_by, plain-calls, plain-calling}

or_right : (a b : Bool) → a ≡ false → one_of a b ≡ true → b ≡ true
or_right true b e d = true-false e
or_right false b e d = d

-- a call in any form goes to a function, where it goes to no imported one
pub calling-call : (r : Row) → importing r ≡ false → is_calling r ≡ true → is_call r.kind r.expr ≡ true
unfolding is_calling calls_by
calling-call r n c = plain-calls r.kind r.expr n ∙ by (sym (plain-calling r.kind r.expr n) ∙ c)
  where
    by : one_of (eqb r.kind 11) (both (has_expression r.kind) (eqb r.expr 2)) ≡ true → calls_by r.kind r.expr ≡ true
    by h =
        either-eq (λ (b : Bool). b ≡ true) r.kind 11 true (if_eq r.kind 12 true (if_true (has_expression r.kind) (eqb r.expr 2) false)) (λ d. refl)
        (λ q. either-eq (λ (b : Bool). b ≡ true) r.kind 12 true (if_true (has_expression r.kind) (eqb r.expr 2) false) (λ d. refl)
        (λ p.
        let a : both (has_expression r.kind) (eqb r.expr 2) ≡ true = or_right (eqb r.kind 11) (both (has_expression r.kind) (eqb r.expr 2)) (ne_eqb r.kind 11 q) h in
        if_true-yes (eqb r.expr 2) false (both_left (has_expression r.kind) (eqb r.expr 2) a) ∙ both_right (has_expression r.kind) (eqb r.expr 2) a))

pub tail-call : (r : Row) → importing r ≡ false → r.kind ≡ 12 → is_call r.kind r.expr ≡ true
unfolding calls_by
tail-call r n k =
    plain-calls r.kind r.expr n
    ∙ if_eq-no true (if_eq r.kind 12 true (if_true (has_expression r.kind) (eqb r.expr 2) false)) (λ d. omega arith)
    ∙ if_eq-yes true (if_true (has_expression r.kind) (eqb r.expr 2) false) k

-- the three words of a frame's head, written where they fit
module _ (w : Width) (st : List ℕ) (s call frame top : ℕ) (vs : List ℕ) (size : ℕ) (h : s + 3 ≤ length st) where
  head-word : (j : ℕ) → j < 3 → get_or (store_from st s (frame_words w call frame top vs size)) (s + j) 0 ≡ get_or (frame_words w call frame top vs size) j 0
  unfolding frame_words
  head-word j l = store_at st s (frame_words w call frame top vs size) j (omega arith) (omega arith)

  head-place : as_word w call ≡ call → returns_to (store_from st s (frame_words w call frame top vs size)) s ≡ call
  unfolding frame_words
  head-place q =
      let z : s ≡ s + 0 = omega arith in
      ap (λ (y : ℕ). get_or (store_from st s (frame_words w call frame top vs size)) y 0) z ∙ head-word 0 (omega arith) ∙ q

  head-caller : as_word w frame ≡ frame → caller_frame (store_from st s (frame_words w call frame top vs size)) s ≡ frame
  unfolding frame_words
  head-caller q = head-word 1 (omega arith) ∙ q

  head-top : as_word w top ≡ top → top_at_entry (store_from st s (frame_words w call frame top vs size)) s ≡ top
  unfolding frame_words
  head-top q = head-word 2 (omega arith) ∙ q

-- the place to return to and the caller's frame of a frame on the stack are words
record HeadWords (w : Width) (st : List ℕ) (s : ℕ) : Type 0 where
  place : as_word w (returns_to st s) ≡ returns_to st s
  caller : as_word w (caller_frame st s) ≡ caller_frame st s

head-words : (w : Width) (t : Tables) (m : ℕ) (st : List ℕ) (call : Option ℕ) (es : Ledger) (s : ℕ) → t.count ≤ 1024 → s ≤ 16384 → Under w t m st call es s
    → HeadWords w st s
unfolding Under
head-words w t m st none [] s c h u =
    record {
      place = ap (as_word w) u.place ∙ mark-word w ∙ sym u.place;
      caller = ap (as_word w) u.caller ∙ mark-word w ∙ sym u.caller;
    }
head-words w t m st none (d ∷ es) s c h u = absurd u
head-words w t m st (some i) [] s c h u = absurd u
head-words w t m st (some i) (d ∷ es) s c h u =
    record {
      place = small_word w (returns_to st s) (omega (arith, u.0.place, u.0.frame.within));
      caller = small_word w (caller_frame st s) (omega (arith, u.0.ends));
    }

module _ (w : Width) (t : Tables) (good : WellFormed (program_from w t)) (e : Entry) (es : Ledger) (x : World) (i : Invariant w t e es x)
    (own-call : importing (rows t x.machine.next) ≡ false) where
  -- ---- calls

  module _ (c : is_calling (rows t x.machine.next) ≡ true)
      (address : (rows t x.machine.next).kind ≡ 7 → word_good w (length x.memory) (address_of (program_from w t) x) ≡ true) where
    callee : Callee w t good x.machine.next i.frame.within
    callee = callee-facts w t good x.machine.next i.frame.within (calling-call (rows t x.machine.next) own-call c)

    size : 3 ≤ (rows t (rows t x.machine.next).callee).a
    size = omega (arith, (marks w t good (rows t x.machine.next).callee callee.within callee.is-function).head)

    unfoldable pub called_stack : List ℕ → List ℕ
    called_stack vs =
        store_from x.stack x.machine.used
        (frame_words w x.machine.next x.machine.frame x.machine.top vs (rows t (rows t x.machine.next).callee).a)

    module _ (vs : List ℕ) (h : x.machine.used + (rows t (rows t x.machine.next).callee).a ≤ length x.stack) where
      long : x.machine.used + 3 ≤ length x.stack
      long = omega (arith, size)

      caller : caller_frame (called_stack vs) x.machine.used ≡ x.machine.frame
      unfolding called_stack
      caller =
          head-caller w x.stack x.machine.used x.machine.next x.machine.frame x.machine.top vs (rows t (rows t x.machine.next).callee).a long
          (small_word w x.machine.frame (omega (arith, i.ends, i.lent, i.few)))

      place : returns_to (called_stack vs) x.machine.used ≡ x.machine.next
      unfolding called_stack
      place =
          head-place w x.stack x.machine.used x.machine.next x.machine.frame x.machine.top vs (rows t (rows t x.machine.next).callee).a long
          (small_word w x.machine.next (omega (arith, i.frame.within, few-rows w t good)))

      top : top_at_entry (called_stack vs) x.machine.used ≡ x.machine.top
      unfolding called_stack
      top =
          head-top w x.stack x.machine.used x.machine.next x.machine.frame x.machine.top vs (rows t (rows t x.machine.next).callee).a long
          (memory_word w x.machine.top (omega (arith, i.top, i.short)))

      below : Agree (called_stack vs) x.stack x.machine.used
      unfolding called_stack
      below j l =
          store-before x.stack x.machine.used
          (frame_words w x.machine.next x.machine.frame x.machine.top vs (rows t (rows t x.machine.next).callee).a) j l

      same_length : length (called_stack vs) ≡ length x.stack
      unfolding called_stack
      same_length =
          store_length x.stack x.machine.used
          (frame_words w x.machine.next x.machine.frame x.machine.top vs (rows t (rows t x.machine.next).callee).a)

      own : (rows t (rows t x.machine.next).func).a ≡ (rows t e.func).a
      own = ap (λ (y : ℕ). (rows t y).a) i.frame.func

      number : (rows t x.machine.next).kind ≡ 7
          → number_in w (called_stack vs) (caller_frame (called_stack vs) x.machine.used) (rows t x.machine.next).address ≡ number_in w x.stack x.machine.frame (rows t x.machine.next).address
      number k =
          ap (λ (y : ℕ). number_in w (called_stack vs) y (rows t x.machine.next).address) caller
          ∙ number_same w x.stack (called_stack vs) x.machine.frame (rows t (rows t x.machine.next).func).a t.data_length x.machine.used (rows t x.machine.next).address
          (address-words w t good x.machine.next i.frame.within k).whole (omega (arith, own, i.ends)) below

      head : Head w t (length x.memory) (called_stack vs) x.machine.next e.func x.machine.used
      head =
          record {
            place = place;
            ends = ap (λ (y : ℕ). y + (rows t e.func).a) caller ∙ i.ends;
            calls = c;
            address = λ k. ap (word_good w (length x.memory)) (number k) ∙ address k;
            frame =
                subst (λ (y : ℕ). FrameAt w t (length x.memory) (called_stack vs) e.func y x.machine.next) (sym caller)
                (frame_same w t good (length x.memory) x.stack (called_stack vs) e.func x.machine.frame x.machine.next x.machine.used below
                (omega (arith, i.ends)) i.frame);
          }

      under : Under w t (length x.memory) (called_stack vs) (some x.machine.next) (e ∷ es) x.machine.used
      unfolding Under
      under = (
        head,
        subst (Under w t (length x.memory) (called_stack vs) e.call es) (sym caller)
            (under_same w t good (length x.memory) x.stack (called_stack vs) e.call es x.machine.frame
            (λ j l. below j (omega (arith, own, i.ends, func-size))) i.under),
      )
        where
          func-size : 3 ≤ (rows t e.func).a
          func-size = omega (arith, own, (size-at w t good x.machine.next i.frame.within).head)

      called : Invariant w t (record { func = (rows t x.machine.next).callee; call = some x.machine.next }) (e ∷ es)
          (record {
            machine =
                moved_to x.machine (suc (rows t x.machine.next).callee) x.machine.used (x.machine.used + (rows t (rows t x.machine.next).callee).a) x.machine.top;
            stack = called_stack vs;
            memory = x.memory;
          })
      unfolding moved_to
      called =
          record {
            frame =
                first_frame w t good (length x.memory) (called_stack vs) (rows t x.machine.next).callee x.machine.used callee.within callee.is-function
                (omega (arith, top, i.top));
            under = under;
            ends = refl;
            lent = omega (arith, same_length);
            few = omega (arith, same_length, i.few);
            top = i.top;
            data-fits = i.data-fits;
            short = i.short;
          }

    -- a call with the words of its arguments
    pub kept-call-by : (vs : Words) → Kept w t (record { func = (rows t x.machine.next).callee; call = some x.machine.next }) (e ∷ es) (call_by (program_from w t) x vs)
    unfolding call_by Kept called_stack
    kept-call-by (words vs) =
        either (Kept w t (record { func = (rows t x.machine.next).callee; call = some x.machine.next }) (e ∷ es)) (length x.stack)
        (x.machine.used + (rows t (rows t x.machine.next).callee).a) (stops 33) _ (λ h. tt) (λ h. called vs h)
    kept-call-by bad = tt

  -- a call in any form: that of `set @` judged its address first
  pub kept-call : is_calling (rows t x.machine.next) ≡ true
      → Kept w t (record { func = (rows t x.machine.next).callee; call = some x.machine.next }) (e ∷ es) (call_of (program_from w t) x)
  unfolding call_of Kept
  kept-call c =
      either-eq (Kept w t (record { func = (rows t x.machine.next).callee; call = some x.machine.next }) (e ∷ es)) (rows t x.machine.next).kind 7
      (if_true (word_good w (length x.memory) (address_of (program_from w t) x)) (call_by (program_from w t) x (arguments_of (program_from w t) x)) (stops 32))
      (call_by (program_from w t) x (arguments_of (program_from w t) x))
      (λ k. either_true (Kept w t (record { func = (rows t x.machine.next).callee; call = some x.machine.next }) (e ∷ es))
      (word_good w (length x.memory) (address_of (program_from w t) x)) (call_by (program_from w t) x (arguments_of (program_from w t) x)) (stops 32)
      (λ d. kept-call-by c (λ q. d) (arguments_of (program_from w t) x)) (λ d. tt))
      (λ k. kept-call-by c (λ q. absurd (k q)) (arguments_of (program_from w t) x))

  -- ---- tail calls

  module _ (k : (rows t x.machine.next).kind ≡ 12) where
    tail-callee : Callee w t good x.machine.next i.frame.within
    tail-callee = callee-facts w t good x.machine.next i.frame.within (tail-call (rows t x.machine.next) own-call k)

    tail-size : 3 ≤ (rows t (rows t x.machine.next).callee).a
    tail-size = omega (arith, (marks w t good (rows t x.machine.next).callee tail-callee.within tail-callee.is-function).head)

    unfoldable pub tail_stack : List ℕ → List ℕ
    tail_stack vs =
        store_from x.stack x.machine.frame
        (frame_words w (returns_to x.stack x.machine.frame) (caller_frame x.stack x.machine.frame) (top_at_entry x.stack x.machine.frame) vs
        (rows t (rows t x.machine.next).callee).a)

    module _ (vs : List ℕ) (h : x.machine.frame + (rows t (rows t x.machine.next).callee).a ≤ length x.stack) where
      tail-long : x.machine.frame + 3 ≤ length x.stack
      tail-long = omega (arith, tail-size)

      tail-head : HeadWords w x.stack x.machine.frame
      tail-head =
          head-words w t (length x.memory) x.stack e.call es x.machine.frame (few-rows w t good) (omega (arith, i.ends, i.lent, i.few))
          i.under

      tail-top : top_at_entry (tail_stack vs) x.machine.frame ≡ top_at_entry x.stack x.machine.frame
      unfolding tail_stack
      tail-top =
          head-top w x.stack x.machine.frame (returns_to x.stack x.machine.frame) (caller_frame x.stack x.machine.frame) (top_at_entry x.stack x.machine.frame) vs
          (rows t (rows t x.machine.next).callee).a tail-long
          (memory_word w (top_at_entry x.stack x.machine.frame) (omega (arith, i.frame.top, i.short)))

      tail-length : length (tail_stack vs) ≡ length x.stack
      unfolding tail_stack
      tail-length =
          store_length x.stack x.machine.frame
          (frame_words w (returns_to x.stack x.machine.frame) (caller_frame x.stack x.machine.frame) (top_at_entry x.stack x.machine.frame) vs
          (rows t (rows t x.machine.next).callee).a)

      -- the place to return to and the caller's frame are those that were there
      tail-below : Agree (tail_stack vs) x.stack (x.machine.frame + 2)
      unfolding tail_stack
      tail-below j l =
          elim (ℕ_discrete j x.machine.frame) [
            | yes d ↦ ap (λ (y : ℕ). get_or (tail_stack vs) y 0) d
                ∙ head-place w x.stack x.machine.frame (returns_to x.stack x.machine.frame) (caller_frame x.stack x.machine.frame) (top_at_entry x.stack x.machine.frame) vs
                (rows t (rows t x.machine.next).callee).a tail-long tail-head.place
                ∙ ap (λ (y : ℕ). get_or x.stack y 0) (sym d)
            | no d ↦ elim (ℕ_discrete j (x.machine.frame + 1)) [
              | yes q ↦ ap (λ (y : ℕ). get_or (tail_stack vs) y 0) q
                  ∙ head-caller w x.stack x.machine.frame (returns_to x.stack x.machine.frame) (caller_frame x.stack x.machine.frame) (top_at_entry x.stack x.machine.frame) vs
                  (rows t (rows t x.machine.next).callee).a tail-long tail-head.caller
                  ∙ ap (λ (y : ℕ). get_or x.stack y 0) (sym q)
              | no q ↦ store-before x.stack x.machine.frame
                  (frame_words w (returns_to x.stack x.machine.frame) (caller_frame x.stack x.machine.frame) (top_at_entry x.stack x.machine.frame) vs
                  (rows t (rows t x.machine.next).callee).a) j (omega arith)
            ]
          ]

      tail-called : Invariant w t (record { func = (rows t x.machine.next).callee; call = e.call }) es
          (record {
            machine =
                moved_to x.machine (suc (rows t x.machine.next).callee) x.machine.frame (x.machine.frame + (rows t (rows t x.machine.next).callee).a)
                (top_at_entry x.stack x.machine.frame);
            stack = tail_stack vs;
            memory = x.memory;
          })
      unfolding moved_to
      tail-called =
          record {
            frame =
                first_frame w t good (length x.memory) (tail_stack vs) (rows t x.machine.next).callee x.machine.frame tail-callee.within tail-callee.is-function
                (omega (arith, tail-top, i.frame.top));
            under = under_same w t good (length x.memory) x.stack (tail_stack vs) e.call es x.machine.frame tail-below i.under;
            ends = refl;
            lent = omega (arith, tail-length);
            few = omega (arith, tail-length, i.few);
            top = i.frame.top;
            data-fits = i.data-fits;
            short = i.short;
          }

    pub kept-tail-call : (vs : Words) → Kept w t (record { func = (rows t x.machine.next).callee; call = e.call }) es (tail_call_by (program_from w t) x vs)
    unfolding tail_call_by Kept tail_stack
    kept-tail-call (words vs) =
        either (Kept w t (record { func = (rows t x.machine.next).callee; call = e.call }) es) (length x.stack)
        (x.machine.frame + (rows t (rows t x.machine.next).callee).a) (stops 33) _ (λ h. tt) (λ h. tail-called vs h)
    kept-tail-call bad = tt
