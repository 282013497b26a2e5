-- Going on: what the host hands in does not stop, and the invariant holds where it comes to.
-- Assumes nothing.
use mathlib.Core.Path.{◌≡◌, refl, sym, ◌∙◌, ap}
use mathlib.Core.Bool.{Bool, true, false}
use Prim.Native.Nat.{ℕ, suc}
use native.Mathlib.Omega.{arith}
use borrow.Author.Tests.{eq-eqb}
use lib.Dec.{eqb}
use lib.ListN.{length}
use Rattle.base_prelude.specs.Choice.{if_lt}
use Rattle.base_prelude.proofs.Choice.{true-false, either, either-eq, either_true, if_true-yes}
use Rattle.base_limits.specs.Width.{bytes_of}
use Rattle.base_limits.specs.declared.Width.{Width}
use Rattle.base_limits.specs.Record.{going_on}
use Rattle.base_word.specs.Bytes.{word_bytes}
use Rattle.prog_tables.specs.Tests.{one_of}
use Rattle.prog_tables.specs.Statement.{Row, has_expression}
use Rattle.prog_tables.specs.Label.{Tables, rows}
use Rattle.prog_tables.specs.Program.{program_from}
use Rattle.prog_tables.specs.WellFormed.{WellFormed}
use Rattle.prog_tables.proofs.Each.{both_true}
use Rattle.vm_definitions.specs.Access.{as_word, word_good, store_from}
use Rattle.vm_definitions.specs.Frames.{importing, returns_import}
use Rattle.vm_definitions.specs.Ledger.{Entry, Ledger}
use Rattle.vm_definitions.specs.Step.{World, Effect, stops, effect_stop, goes_to, keeps, stores, assigned, address_of, handed_to, handed_in}
use Rattle.vm_definitions.proofs.Invariant.{Invariant}
use Rattle.vm_definitions.proofs.Chain.{one_left, one_right}
use Rattle.vm_definitions.proofs.Guard.{hand-safe}
use Rattle.vm_definitions.proofs.Importing.{import-kinds}
use Rattle.vm_definitions.proofs.Stores.{store_length}
use Rattle.vm_definitions.proofs.Kept.{Kept, kept_next, kept-value, kept_store, kept-stop}
use Rattle.vm_definitions.proofs.Returned.{Takes}
use Rattle.vm_definitions.proofs.Effects.{Fine, fine-stop}

-- a call to an imported function that does not return its result is a `let`, a `set` or a bare `call`
pub import-takes : (r : Row) → importing r ≡ true → returns_import r ≡ false → Takes r
unfolding returns_import has_expression
import-takes r im h =
    import-kinds r.kind r.expr im (λ k. record { low = omega arith; high = λ q. absurd (q k) })
    (λ k. true-false (sym (returns (one_left (eqb r.kind 12) (eqb r.kind 13) (eq-eqb _ _ k))) ∙ h))
    (λ d. either (λ (b : Bool). b ≡ true → Takes r) r.kind 5 false (if_lt r.kind 8 true (eqb r.kind 13)) (λ l q. true-false (sym q))
    (λ l. either (λ (b : Bool). b ≡ true → Takes r) r.kind 8 true (eqb r.kind 13) (λ g q. record { low = l; high = λ z. omega arith })
    (λ g q. true-false (sym (returns (one_right (eqb r.kind 12) (eqb r.kind 13) q)) ∙ h))) d)
  where
    returns : one_of (eqb r.kind 12) (eqb r.kind 13) ≡ true → returns_import r ≡ true
    returns q = both_true (importing r) (one_of (eqb r.kind 12) (eqb r.kind 13)) im q

module _ (w : Width) (t : Tables) (good : WellFormed (program_from w t)) (e : Entry) (es : Ledger) (x : World) (i : Invariant w t e es x)
    (im : importing (rows t x.machine.next) ≡ true)
    (address : (rows t x.machine.next).kind ≡ 7 → word_good w (length x.memory) (address_of (program_from w t) x) ≡ true) where
  abbrev row : Row
  row = rows t x.machine.next

  -- a word handed to the frame in use
  abbrev pub handed_here : ℕ → Effect
  handed_here v = handed_to (program_from w t) x v row x.machine.frame (going_on x.machine (suc x.machine.next) x.machine.top)

  pub kept_here : returns_import row ≡ false → (v : ℕ) → Kept w t e es (handed_here v)
  unfolding handed_to stores goes_to assigned keeps store_from
  kept_here h v =
      either-eq (Kept w t e es) row.kind 7 _ _
      (λ k. either_true (Kept w t e es) (word_good w (length x.memory) (address_of (program_from w t) x)) _ (stops 32)
      (λ a. kept_store w t good e es x i (omega arith) x.machine.top (address_of (program_from w t) x) (word_bytes (bytes_of w) v) i.top)
      (λ a. kept-stop w t good e es x i 32))
      (λ k. either-eq (Kept w t e es) row.kind 11 _ _
      (λ a. kept_next w t good e es x i (omega arith))
      (λ a. kept-value w t good e es x i takes.low (omega (arith, takes.high a, k)) v x.machine.top i.top))
    where
      takes : Takes row
      takes = import-takes row im h

  pub fine-here : (v : ℕ) → Fine x (handed_here v)
  unfolding handed_to Fine going_on
  fine-here v =
      either-eq (Fine x) row.kind 7 _ _
      (λ k. either_true (Fine x) (word_good w (length x.memory) (address_of (program_from w t) x)) _ (stops 32)
      (λ a. (refl, store_length x.memory (address_of (program_from w t) x) (word_bytes (bytes_of w) v)))
      (λ a. fine-stop (program_from w t) x))
      (λ k. either-eq (Fine x) row.kind 11 _ _ (λ a. (refl, refl)) (λ a. (refl, refl)))

  safe-here : (v : ℕ) → effect_stop (handed_here v) ≡ 0
  unfolding handed_to effect_stop
  safe-here v =
      either-eq (λ (k : Effect). effect_stop k ≡ 0) row.kind 7 _ _
      (λ k. ap effect_stop (if_true-yes _ (stops 32) (address k)))
      (λ k. either-eq (λ (a : Effect). effect_stop a ≡ 0) row.kind 11 _ _ (λ a. refl) (λ a. refl))

  -- going on does not stop
  pub handed-in-safe : (v : ℕ) → effect_stop (handed_in (program_from w t) v x) ≡ 0
  unfolding handed_in
  handed-in-safe v =
      either_true (λ (k : Effect). effect_stop k ≡ 0) (returns_import row) _ _ (λ a. hand-safe w t good e es x i (as_word w v)) (λ a. safe-here (as_word w v))
