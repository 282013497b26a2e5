-- What a statement's effect looks at: the width and the rows of the program, not its labels, data or counts; a pause looks at one
-- label's number too. What a row's faults look at. The parts of a good way out.
-- Assumes nothing.
use Rattle.std.proofs.Common.{Err, Ok}
use Rattle.vm_definitions.specs.Operands.{Worked, valued}
use mathlib.Core.Path.{◌≡◌, refl, ap, ◌∙◌}
use mathlib.Core.Bool.{Bool, true, false}
use mathlib.Core.List.{List, [], ◌∷◌}
use Prim.Native.Nat.{ℕ, zero, suc}
use lib.Dec.{leb}
use Rattle.base_prelude.specs.Choice.{if_true}
use Rattle.base_limits.specs.declared.Width.{Width}
use Rattle.base_limits.specs.declared.Width.TheVariants.{Bits32}
use Rattle.base_limits.specs.declared.State.TheVariants.{Paused}
use Rattle.base_limits.specs.Record.{pause_of}
use Rattle.prog_tables.specs.Tests.{both}
use Rattle.prog_tables.specs.Statement.{Row}
use Rattle.prog_tables.specs.Label.{Label, label_at}
use Rattle.prog_tables.specs.Program.{Program, program_from, lent_program}
use Rattle.prog_tables.specs.Faults.{kind_fault, target_fault, function_fault, import_fault, callee_fault, size_fault, word_fault, operands_fault, address_fault, row_fault}
use Rattle.vm_definitions.specs.Lent.{tables_of}
use Rattle.vm_definitions.specs.Broken.{lowest}
use Rattle.vm_definitions.specs.Frames.{caller_frame, top_at_entry, head_good, passes_on, leaves_good, heads_left, tops_left}
use Rattle.vm_definitions.specs.Operands.{Words, words, bad}
use Rattle.vm_definitions.specs.declared.Broken.TheVariants.{No}
use Rattle.vm_definitions.specs.Step.{World, row_of, goes_to, keeps, stores, block_of, end_block_of, test_of, worked_of, assigned, assigned_at, set_at_of, set_byte_by, set_word_by, arguments_of, call_by, call_of, tail_call_by, handed_to, handed_by, returned, return_of, effect_of, idle, in_state_of, paused_by, pausing, statement_of, handed_in}
use Rattle.vm_definitions.specs.declared.Resumption.{Resumption}
use Rattle.vm_definitions.specs.declared.Resumption.TheVariants.{Ends, Caller}

-- the same rows with other labels, data and tables
abbrev pub relabelled : Program → (ℕ → Label) → ℕ → ℕ → Bool → Bool → Program
relabelled p g k d a b =
    record {
      width = p.width;
      rows = p.rows;
      count = p.count;
      labels = g;
      label_count = k;
      data_length = d;
      statements_past = a;
      labels_past = b;
    }

module _ (p : Program) (g : ℕ → Label) (k d : ℕ) (a b : Bool) (x : World) where
  abbrev q : Program
  q = relabelled p g k d a b

  assigned-seen : (v : Worked) → assigned p x v ≡ assigned q x v
  unfolding assigned keeps
  assigned-seen (Ok got) = refl
  assigned-seen (Err n) = refl

  assigned-at-seen : (v : Worked) → assigned_at p x v ≡ assigned_at q x v
  unfolding assigned_at stores
  assigned-at-seen (Ok got) = refl
  assigned-at-seen (Err n) = refl

  byte-seen : (vs : Words) → set_byte_by p x vs ≡ set_byte_by q x vs
  unfolding set_byte_by stores
  byte-seen (words vs) = refl
  byte-seen bad = refl

  word-seen : (vs : Words) → set_word_by p x vs ≡ set_word_by q x vs
  unfolding set_word_by stores
  word-seen (words vs) = refl
  word-seen bad = refl

  call-by-seen : (vs : Words) → call_by p x vs ≡ call_by q x vs
  unfolding call_by
  call-by-seen (words vs) = refl
  call-by-seen bad = refl

  tail-seen : (vs : Words) → tail_call_by p x vs ≡ tail_call_by q x vs
  unfolding tail_call_by
  tail-seen (words vs) = refl
  tail-seen bad = refl

  handed-seen : (v : ℕ) (w : Resumption) → handed_by p x v w ≡ handed_by q x v w
  unfolding handed_by handed_to
  handed-seen v (Ends top) = refl
  handed-seen v (Caller call s used top) = refl

  returned-seen : (v : Worked) → returned p x v ≡ returned q x v
  unfolding returned
  returned-seen (Ok got) = handed-seen got.word _
  returned-seen (Err n) = refl

  pub effect-seen : effect_of p x ≡ effect_of q x
  unfolding effect_of call_of return_of test_of goes_to block_of end_block_of keeps set_at_of worked_of arguments_of
  effect-seen =
      rw (
        call-by-seen (arguments_of p x),
        tail-seen (arguments_of p x),
        byte-seen (arguments_of p x),
        word-seen (arguments_of p x),
        assigned-seen (worked_of p x),
        assigned-at-seen (worked_of p x),
        returned-seen (worked_of p x),
        returned-seen (valued 0 0),
      )

  -- what the host hands in
  pub handed-in-seen : (v : ℕ) → handed_in p v x ≡ handed_in q v x
  unfolding handed_in handed_to
  handed-in-seen v = rw (handed-seen _ _)

  -- ---- a pause: the number of the label that the row calls is the same

  module _ (h : (p.labels (row_of p x).callee).number ≡ (g (row_of p x).callee).number) where
    paused-seen : (vs : Words) → paused_by p x vs ≡ paused_by q x vs
    unfolding paused_by
    paused-seen (words vs) = ap (λ (n : ℕ). idle (in_state_of (Paused (pause_of n vs)) x) No) h
    paused-seen bad = refl

    pub pausing-seen : pausing p x ≡ pausing q x
    unfolding pausing arguments_of
    pausing-seen = rw (paused-seen (arguments_of p x))

    pub statement-seen : statement_of p x ≡ statement_of q x
    unfolding statement_of
    statement-seen = rw (pausing-seen, effect-seen)

-- ---- rows

pub lowest-same : (p q : ℕ → Bool) → ((i : ℕ) → p i ≡ q i) → (is : List ℕ) → lowest p is ≡ lowest q is
unfolding lowest
lowest-same p q h [] = refl
lowest-same p q h (i ∷ is) = rw (h i, lowest-same p q h is)

-- a row's faults look at neither names nor counts
module _ (t : List ℕ) (c : ℕ) (l : List ℕ) (k : ℕ) (names : List ℕ) (d : ℕ) where
  pub row_seen : (n : ℕ) → row_fault (program_from Bits32 (tables_of t c l k names d)) n ≡ row_fault (lent_program t c l k d) n
  unfolding row_fault kind_fault target_fault callee_fault function_fault import_fault size_fault word_fault operands_fault address_fault label_at
  row_seen n = refl

  pub lowest-seen : (is : List ℕ) → lowest (row_fault (program_from Bits32 (tables_of t c l k names d))) is ≡ lowest (row_fault (lent_program t c l k d)) is
  lowest-seen is = lowest-same _ _ row_seen is

  -- nor does a statement, nor what the host hands in
  module _ (x : World) where
    pub effect-lent : effect_of (program_from Bits32 (tables_of t c l k names d)) x ≡ effect_of (lent_program t c l k d) x
    effect-lent = effect-seen (program_from Bits32 (tables_of t c l k names d)) (label_at l []) k d false false x

    pub pausing-lent : pausing (program_from Bits32 (tables_of t c l k names d)) x ≡ pausing (lent_program t c l k d) x
    unfolding label_at
    pausing-lent = pausing-seen (program_from Bits32 (tables_of t c l k names d)) (label_at l []) k d false false x refl

    pub statement-lent : statement_of (program_from Bits32 (tables_of t c l k names d)) x ≡ statement_of (lent_program t c l k d) x
    unfolding label_at
    statement-lent = statement-seen (program_from Bits32 (tables_of t c l k names d)) (label_at l []) k d false false x refl

    pub handed-in-lent : (v : ℕ) → handed_in (program_from Bits32 (tables_of t c l k names d)) v x ≡ handed_in (lent_program t c l k d) v x
    handed-in-lent v = handed-in-seen (program_from Bits32 (tables_of t c l k names d)) (label_at l []) k d false false x v

-- ---- the frames that a return leaves: heads and auto tops

leaves-mixed : (h t p a b : Bool) → both h (both t (if_true p (both a b) true)) ≡ both (both h (if_true p a true)) (both t (if_true p b true))
unfolding if_true
leaves-mixed false t p a b = refl
leaves-mixed true true true a b = refl
leaves-mixed true true false a b = refl
leaves-mixed true false true true b = refl
leaves-mixed true false true false b = refl
leaves-mixed true false false a b = refl

pub leaves-parts : (w : Width) (f : ℕ → Row) (c m : ℕ) (st : List ℕ) (fuel s : ℕ)
    → leaves_good w f c m st fuel s ≡ both (heads_left w f c st fuel s) (tops_left w f c m st fuel s)
unfolding leaves_good heads_left tops_left
leaves-parts w f c m st zero s = refl
leaves-parts w f c m st (suc fuel) s =
    ap (λ (v : Bool). both (head_good w f c st s) (both (leb (top_at_entry st s) m) (if_true (passes_on w f c st s) v true)))
    (leaves-parts w f c m st fuel (caller_frame st s))
    ∙ leaves-mixed (head_good w f c st s) (leb (top_at_entry st s) m) (passes_on w f c st s) _ _
