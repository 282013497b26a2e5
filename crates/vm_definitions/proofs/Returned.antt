-- A return: it finishes the run, or the invariant holds in the frame it comes back to.
-- Assumes nothing.
use Rattle.std.proofs.Common.{Err, Ok}
use Rattle.vm_definitions.specs.Operands.{Worked, valued}
use mathlib.Core.Path.{◌≡◌, refl, sym, ◌∙◌, ap, subst}
use mathlib.Core.Bool.{Bool, true, false}
use mathlib.Core.List.{List, [], ◌∷◌}
use Prim.Native.Nat.{ℕ, suc, ◌+◌, ◌≤◌}
use native.Mathlib.Decide.{ℕ_discrete}
use native.Mathlib.Omega.{arith}
use borrow.Author.Tests.{ne_eqb, eqb-true}
use lib.Dec.{eqb}
use lib.ListN.{length, set, length-set}
use Rattle.base_prelude.specs.Choice.{if_lt, if_true}
use Rattle.base_prelude.proofs.Choice.{true-false, either, either-eq, either_true, if_eq-no, if_true-yes, if_true-no}
use Rattle.base_limits.specs.Width.{bytes_of}
use Rattle.base_limits.specs.declared.Width.{Width}
use Rattle.base_limits.specs.declared.State.TheVariants.{Finished}
use Rattle.base_limits.specs.Record.{ended, moved_to}
use Rattle.base_word.specs.Bytes.{word_bytes}
use Rattle.prog_tables.specs.Layout.{no_expression}
use Rattle.prog_tables.specs.Tests.{both, one_of}
use Rattle.prog_tables.specs.Statement.{Row, has_expression, is_call_expression}
use Rattle.prog_tables.specs.Label.{Tables, rows}
use Rattle.prog_tables.specs.Program.{program_from}
use Rattle.prog_tables.specs.WellFormed.{WellFormed}
use Rattle.prog_tables.proofs.Each.{both_left, both_right, both_true}
use Rattle.prog_tables.proofs.Sound.{both_false}
use Rattle.prog_laws.proofs.Next.{next-in, next-other}
use Rattle.prog_laws.proofs.Words.{Apart, destination-apart}
use Rattle.vm_definitions.specs.Access.{word_good, store_from}
use Rattle.vm_definitions.specs.Operands.{number_in}
use Rattle.vm_definitions.specs.Frames.{is_return, is_return_call, is_calling, importing, resumption_of}
use Rattle.vm_definitions.specs.Ledger.{Entry, Ledger, popped, counted_in, sum_of}
use Rattle.vm_definitions.specs.Step.{World, Effect, stops, leaves, worked_of, handed_to, handed_by, returned, return_of, effect_of}
use Rattle.vm_definitions.specs.declared.Resumption.{Resumption}
use Rattle.vm_definitions.proofs.Invariant.{FrameAt, Under, Invariant}
use Rattle.vm_definitions.proofs.Chain.{CallerAt, Resumed, ends, to-caller, invariant-sum}
use Rattle.vm_definitions.proofs.Guard.{invariant-resumed, resumed-low}
use Rattle.vm_definitions.proofs.Stores.{set_other, store_length}
use Rattle.vm_definitions.proofs.Carried.{Agree, frame-to, under_same}

-- what a return from world x leaves, p being the ledger then
pub data Back (w : Width) (t : Tables) (p : Ledger) (x y : World) : Type 0 where
  finishing : (v : ℕ) → p ≡ [] → y.machine.state ≡ Finished v → y.machine.used ≡ 0 → length y.memory ≡ length x.memory → Back w t p x y
  going_back : (d : Entry) (ds : Ledger) → p ≡ d ∷ ds → Invariant w t d ds y → y.machine.state ≡ x.machine.state
      → length y.memory ≡ length x.memory → Back w t p x y

-- a return stops, or leaves such a world
unfoldable pub Returns : Width → Tables → Ledger → World → Effect → Type 0
Returns w t p x (stops k) = Unit {0}
Returns w t p x (leaves y) = Back w t p x y

-- the words in use then
pub back-used : (w : Width) (t : Tables) (p : Ledger) (x y : World) → Back w t p x y → y.machine.used ≡ sum_of (rows t) p
unfolding sum_of
back-used w t p x y (finishing v q s u m) = u ∙ ap (sum_of (rows t)) (sym q)
back-used w t p x y (going_back d ds q i s m) = invariant-sum w t d ds y i ∙ ap (sum_of (rows t)) (sym q)

pub back-memory : (w : Width) (t : Tables) (p : Ledger) (x y : World) → Back w t p x y → length y.memory ≡ length x.memory
back-memory w t p x y (finishing v q s u m) = m
back-memory w t p x y (going_back d ds q i s m) = m

-- ---- rows

-- a call to which something is handed is a `let`, a `set` or a bare `call`
pub record Takes (r : Row) : Type 0 where
  pub low : 5 ≤ r.kind
  pub high : (r.kind ≡ 11 → ⊥) → r.kind ≤ 7

pub takes : (r : Row) → is_calling r ≡ true → is_return_call r ≡ false → Takes r
unfolding is_calling is_return_call has_expression
takes r e p =
    elim (ℕ_discrete r.kind 11) [
      | yes k ↦ record { low = omega arith; high = λ q. absurd (q k) }
      | no k ↦ by (ap (λ (b : Bool). one_of b (both (has_expression r.kind) (is_call_expression r.expr))) (sym (ne_eqb _ _ k)) ∙ e)
    ]
  where
    by : both (has_expression r.kind) (is_call_expression r.expr) ≡ true → Takes r
    by d =
        either (λ (b : Bool). b ≡ true → Takes r) r.kind 5 false (if_lt r.kind 8 true (eqb r.kind 13)) (λ l q. true-false (sym q))
        (λ l. either (λ (b : Bool). b ≡ true → Takes r) r.kind 8 true (eqb r.kind 13) (λ g q. record { low = l; high = λ z. omega arith })
        (λ g q. true-false (sym (both_true (eqb r.kind 13) (is_call_expression r.expr) q (both_right (has_expression r.kind) (is_call_expression r.expr) d)) ∙ p)))
        (both_left (has_expression r.kind) (is_call_expression r.expr) d)

-- a row that returns calls nothing
pub return-no-call : (r : Row) → is_return r ≡ true → is_calling r ≡ false
unfolding is_return is_calling has_expression if_lt
return-no-call r e =
    elim (ℕ_discrete r.kind 2) [
      | yes k ↦ quiet (λ z. omega arith) (both_false (has_expression r.kind) (is_call_expression r.expr) (λ a. true-false (sym a ∙ ap has_expression k)))
      | no k ↦ thirteen (ap (λ (b : Bool). one_of b (both (eqb r.kind 13) (if_true (is_call_expression r.expr) false true))) (sym (ne_eqb _ _ k)) ∙ e)
    ]
  where
    quiet : (r.kind ≡ 11 → ⊥) → both (has_expression r.kind) (is_call_expression r.expr) ≡ false → is_calling r ≡ false
    quiet q d = ap (λ (b : Bool). one_of b (both (has_expression r.kind) (is_call_expression r.expr))) (ne_eqb r.kind 11 q) ∙ d

    thirteen : both (eqb r.kind 13) (if_true (is_call_expression r.expr) false true) ≡ true → is_calling r ≡ false
    thirteen a =
        let k : r.kind ≡ 13 = eqb-true _ _ (both_left (eqb r.kind 13) (if_true (is_call_expression r.expr) false true) a) in
        quiet (λ z. omega arith)
        (both_false (has_expression r.kind) (is_call_expression r.expr) (λ b. other (is_call_expression r.expr) (both_right (eqb r.kind 13) (if_true (is_call_expression r.expr) false true) a)))
      where
        other : (b : Bool) → if_true b false true ≡ true → b ≡ false
        other true d = true-false (sym d ∙ if_true-yes false true refl)
        other false d = refl

return-no-tail : (r : Row) → is_return r ≡ true → r.kind ≡ 12 → ⊥
unfolding is_return
return-no-tail r e k =
    true-false (sym e ∙ ap (λ (n : ℕ). one_of (eqb n 2) (both (eqb n 13) (if_true (is_call_expression r.expr) false true))) k)

-- the ledger after a row that returns
pub return-ledger : (f : ℕ → Row) (n : ℕ) (es : Ledger) → importing (f n) ≡ false → is_return (f n) ≡ true → counted_in f n es ≡ popped f es
unfolding counted_in
return-ledger f n es h e = if_true-no _ _ h ∙ if_true-no _ _ (return-no-call (f n) e) ∙ if_eq-no _ _ (return-no-tail (f n) e) ∙ if_true-yes _ _ e

-- ---- back in a frame

module _ (w : Width) (t : Tables) (good : WellFormed (program_from w t)) (e : Entry) (es : Ledger) (x : World) (i : Invariant w t e es x) where
  module _ (d : Entry) (ds : Ledger) (c v u top : ℕ) (y : CallerAt w t (length x.memory) x.stack d ds c v u top) (p : popped (rows t) (e ∷ es) ≡ d ∷ ds) where
    call : Takes (rows t c)
    call = takes (rows t c) y.calls y.plain

    no_end : (rows t c).kind ≡ 2 → ⊥
    no_end z = omega (arith, call.low)

    -- the row behind the call
    behind : (st : List ℕ) → FrameAt w t (length x.memory) st d.func v c → FrameAt w t (length x.memory) st d.func v (suc c)
    behind st f =
        frame-to w t good (length x.memory) st d.func v c (suc c) (next-in w t good c y.within no_end).within (next-in w t good c y.within no_end).no-function
        (next-in w t good c y.within no_end).same
        (next-other w t good c y.within no_end (λ z. omega (arith, call.low)) (λ z. omega (arith, call.low)) (λ z. omega (arith, call.low))) f

    -- with a stack that keeps the frame and what is under it, and as much memory
    back-with : (st mem : List ℕ) → length st ≡ length x.stack → length mem ≡ length x.memory → Agree st x.stack (v + 2)
        → FrameAt w t (length x.memory) st d.func v c
        → Back w t (popped (rows t) (e ∷ es)) x (record { machine = moved_to x.machine (suc c) v u top; stack = st; memory = mem })
    unfolding moved_to
    back-with st mem ls lm same f =
        going_back d ds p
        (record {
          frame = subst (λ (m : ℕ). FrameAt w t m st d.func v (suc c)) (sym lm) (behind st f);
          under =
              subst (λ (m : ℕ). Under w t m st d.call ds v) (sym lm)
              (under_same w t good (length x.memory) x.stack st d.call ds v same y.under);
          ends = y.ends;
          lent = omega (arith, resumed-low w t good e es x i d ds c v u top y p, i.ends, i.lent);
          few = omega (arith, i.few);
          top = omega (arith, y.low);
          data-fits = omega (arith, i.data-fits);
          short = omega (arith, i.short);
        })
        refl lm

    -- the frame with the value stored
    stored : (z : ℕ) → 5 ≤ (rows t c).kind → (rows t c).kind ≤ 6
        → Back w t (popped (rows t) (e ∷ es)) x (record { machine = moved_to x.machine (suc c) v u top; stack = set x.stack (v + (rows t c).a) z; memory = x.memory })
    stored z k l =
        back-with (set x.stack (v + (rows t c).a) z) x.memory (length-set x.stack (v + (rows t c).a) z) refl
        (λ j g. set_other x.stack (v + (rows t c).a) z j (λ q. omega (arith, far.low)))
        (record {
          within = y.frame.within;
          inside = y.frame.inside;
          func = y.frame.func;
          top = omega (arith, y.frame.top, set_other x.stack (v + (rows t c).a) z (v + 2) (λ q. omega (arith, far.low)));
          blocks = λ b g q a.
              omega (
                arith,
                y.frame.blocks b g q a,
                set_other x.stack (v + (rows t c).a) z (v + (rows t b).a) (λ n. far.apart b g q a (omega arith)),
              );
        })
      where
        far : Apart w t good c (rows t c).a
        far = destination-apart w t good c y.within k l

    handed-to : (z : ℕ) → Returns w t (popped (rows t) (e ∷ es)) x (handed_to (program_from w t) x z (rows t c) v (moved_to x.machine (suc c) v u top))
    unfolding Returns handed_to
    handed-to z =
        either-eq (Returns w t (popped (rows t) (e ∷ es)) x) (rows t c).kind 7 _ _
        (λ k. either_true (Returns w t (popped (rows t) (e ∷ es)) x) (word_good w (length x.memory) (number_in w x.stack v (rows t c).address)) _ (stops 32)
        (λ a. back-with x.stack (store_from x.memory (number_in w x.stack v (rows t c).address) (word_bytes (bytes_of w) z)) refl
        (store_length x.memory (number_in w x.stack v (rows t c).address) (word_bytes (bytes_of w) z)) (λ j g. refl) y.frame)
        (λ a. tt))
        (λ k. either-eq (Returns w t (popped (rows t) (e ∷ es)) x) (rows t c).kind 11 _ _
        (λ a. back-with x.stack x.memory refl refl (λ j g. refl) y.frame)
        (λ a. stored z call.low (omega (arith, call.high a, k))))

  handed-by : (z : ℕ) (p : Ledger) (l : Resumption) → popped (rows t) (e ∷ es) ≡ p → Resumed w t (length x.memory) x.stack p l
      → Returns w t (popped (rows t) (e ∷ es)) x (handed_by (program_from w t) x z l)
  unfolding Returns handed_by ended
  handed-by z p l o (ends top q h g) =
      subst (λ (k : Resumption). Returns w t (popped (rows t) (e ∷ es)) x (handed_by (program_from w t) x z k)) (sym q) (finishing z (o ∙ g) refl refl refl)
  handed-by z p l o (to-caller d ds c v u top y q g) =
      subst (λ (k : Resumption). Returns w t (popped (rows t) (e ∷ es)) x (handed_by (program_from w t) x z k)) (sym q) (handed-to d ds c v u top y (o ∙ g) z)

  -- a value handed out of the frame in use
  pub returns-value : (z : ℕ) → Returns w t (popped (rows t) (e ∷ es)) x
      (handed_by (program_from w t) x z (resumption_of w (rows t) t.count x.stack (suc x.machine.frame) x.machine.frame))
  returns-value z = handed-by z (popped (rows t) (e ∷ es)) _ refl (invariant-resumed w t good e es x i)

  returns-by : (r : Worked) → Returns w t (popped (rows t) (e ∷ es)) x (returned (program_from w t) x r)
  unfolding Returns returned
  returns-by (Ok got) = returns-value got.word
  returns-by (Err k) = tt

  pub returns_of_lem : Returns w t (popped (rows t) (e ∷ es)) x (return_of (program_from w t) x)
  unfolding return_of
  returns_of_lem =
      either-eq (Returns w t (popped (rows t) (e ∷ es)) x) (rows t x.machine.next).kind 2 _ _ (λ k. returns-by (valued 0 0))
      (λ k. either-eq (Returns w t (popped (rows t) (e ∷ es)) x) (rows t x.machine.next).expr no_expression _ _ (λ a. returns-by (valued 0 0))
      (λ a. returns-by (worked_of (program_from w t) x)))

  pub return-is : is_return (rows t x.machine.next) ≡ true → effect_of (program_from w t) x ≡ return_of (program_from w t) x
  unfolding effect_of
  return-is r = if_true-no _ _ (return-no-call (rows t x.machine.next) r) ∙ if_true-yes _ _ r

  -- of the statement itself
  pub return-effect : is_return (rows t x.machine.next) ≡ true → Returns w t (popped (rows t) (e ∷ es)) x (effect_of (program_from w t) x)
  return-effect r = subst (Returns w t (popped (rows t) (e ∷ es)) x) (sym (return-is r)) returns_of_lem

  pub return_kept : (y : World) → is_return (rows t x.machine.next) ≡ true → effect_of (program_from w t) x ≡ leaves y
      → Back w t (popped (rows t) (e ∷ es)) x y
  unfolding Returns
  return_kept y r q = subst (Returns w t (popped (rows t) (e ∷ es)) x) q (return-effect r)
