-- One law for each way through a function of this crate.
-- Assumes nothing.
use Rattle.std.proofs.Common.{Option, Some, None}
use mathlib.Core.Path.{◌≡◌, refl, sym, ◌∙◌, ap, ap₂}
use mathlib.Core.List.{List, [], ◌∷◌}
use Prim.Native.Nat.{ℕ, ◌%◌, ◌<◌, ◌≤◌}
use lib.ListN.{length}
use Rattle.base_prelude.specs.Lists.{overlay}
use Rattle.base_prelude.proofs.Choice.{if_lt-yes, if_lt-no}
use Rattle.check_source.specs.Check.{Filled, filled}
use Rattle.std.proofs.Common.{Ok, Err}
use Rattle.check_source.specs.Checked.{Checked, Counts, Refusal}
use Rattle.base_limits.specs.declared.Width.TheVariants.{Bits32}
use Rattle.base_limits.specs.declared.Machine.{Machine}
use Rattle.base_limits.specs.Record.{fresh_of}
use Rattle.prog_tables.specs.Program.{program_from}
use Rattle.prog_tables.specs.Label.{Tables}
use Rattle.vm_definitions.specs.Step.{After, step_of, run_of, Continued, resume_of}
use Rattle.vm_definitions.specs.Lent.{tables_of, world}
use Rattle.vm_definitions.specs.Lent as lent
use Rattle.vm_definitions.specs.declared.Outcome.{Outcome}
use Rattle.vm_definitions.specs.declared.Resumed.{Resumed}
use Rattle.vm_definitions.specs.declared.Opening.{Opening}
use Rattle.vm_start.specs.Opening.{Opened, opened, opening_of}
use Rattle.c_words.specs.Words.{record_size}
use Rattle.c_words.specs.Record.{record_of}
use Rattle.c_words.specs.Reply.{Reply, reply, unfit_number, refusal_words, refusal_reply, outcome_reply, resumed_reply, opening_reply}
use Rattle.c_voodoo.specs.Answer.{answer_number, result_words, Told, told, told_of}
use Rattle.c_voodoo.specs.Calls.{Answered, answered, replied, unfit, outcome_answer, resumed_answer, opening_answer, step_by, step_call, run_by, run_call, resume_by, resume_call, start_call}

-- ---- the answer in words

module _ (x : Checked) (out o : List ℕ) (r : ℕ) where
  module _ (p : Counts) (e : x ≡ Ok p) where
    pub number-accepted : r ≡ 0 → r ≡ answer_number x
    unfolding answer_number
    number-accepted q = q ∙ sym (ap answer_number e)

    pub words-accepted : o ≡ overlay (0 ∷ 0 ∷ p.tokens ∷ p.statements ∷ p.labels ∷ p.size ∷ []) out → o ≡ overlay (result_words x) out
    unfolding result_words
    words-accepted q = q ∙ sym (ap (λ (y : Checked). overlay (result_words y) out) e)

  module _ (f : Refusal) (e : x ≡ Err f) where
    pub number-refused : r ≡ f.number → r ≡ answer_number x
    unfolding answer_number
    number-refused q = q ∙ sym (ap answer_number e)

    pub words-refused : o ≡ overlay (f.number ∷ f.place % 4294967296 ∷ 0 ∷ 0 ∷ 0 ∷ 0 ∷ []) out → o ≡ overlay (result_words x) out
    unfolding result_words
    words-refused q = q ∙ sym (ap (λ (y : Checked). overlay (result_words y) out) e)

pub told_is : (x : Checked) (a b c d e : List ℕ) (y : Filled) (number : ℕ) (out o : List ℕ) → filled x a b c d e ≡ y
    → (number ≡ answer_number x) × (o ≡ overlay (result_words x) out) → told number a b c d e o ≡ told_of y out
unfolding told_of
told_is x a b c d e y number out o p q =
    ap₂ (λ (n : ℕ) (l : List ℕ). told n a b c d e l) q.0 q.1 ∙ ap (λ (z : Filled). told_of z out) p

-- ---- start, step, run and going on

module _ (ws st m out : List ℕ) (n : ℕ) (out' : List ℕ) where
  -- the answer where there is no record
  none : (number : ℕ) → (n ≡ number) × (out' ≡ overlay (refusal_words number) out) → answered n ws st m out' ≡ unfit ws st m out number
  unfolding unfit refusal_reply
  none number q = rw (q.0, q.1)

  module _ (x : Option Machine) (e : x ≡ record_of ws) (t : List ℕ) (c : ℕ) (l : List ℕ) (k : ℕ) (names : List ℕ) (d : ℕ) where
    abbrev T : Tables
    T = tables_of t c l k names d

    pub step-unfit : x ≡ None → (n ≡ 35) × (out' ≡ overlay (refusal_words 35) out) → answered n ws st m out' ≡ step_call ws st m out T
    unfolding step_call step_by
    step-unfit h q = none 35 q ∙ ap (step_by ws st m out T) (sym h ∙ e)

    pub run-unfit : (budget number : ℕ) → x ≡ None → number ≡ unfit_number budget
        → (n ≡ number) × (out' ≡ overlay (refusal_words number) out) → answered n ws st m out' ≡ run_call ws st m out T budget
    unfolding run_call run_by
    run-unfit budget number h g q = none number q ∙ ap (unfit ws st m out) g ∙ ap (run_by ws st m out T budget) (sym h ∙ e)

    pub resume-unfit : (v : ℕ) → x ≡ None → (n ≡ 37) × (out' ≡ overlay (refusal_words 37) out)
        → answered n ws st m out' ≡ resume_call ws st m out T v
    unfolding resume_call resume_by
    resume-unfit v h q = none 37 q ∙ ap (resume_by ws st m out T v) (sym h ∙ e)

    pub resume-fit : (r : Machine) (o : Resumed) (ws' st' m' : List ℕ) (v : ℕ) → x ≡ Some r → reply n ws' out' ≡ resumed_reply o ws out
        → lent.resumed o st' m' ≡ resume_of (program_from Bits32 T) v (world r st m) → answered n ws' st' m' out' ≡ resume_call ws st m out T v
    unfolding resume_call resume_by resumed_answer
    resume-fit r o ws' st' m' v h q g =
        ap (λ (p : Reply). replied p st' m') q ∙ ap (resumed_answer ws st m out) g ∙ ap (resume_by ws st m out T v) (sym h ∙ e)

    module _ (r : Machine) (h : x ≡ Some r) (o : Outcome) (ws' st' m' : List ℕ) (q : reply n ws' out' ≡ outcome_reply o ws out) where
      after : (y : After) → lent.left o st' m' ≡ y → answered n ws' st' m' out' ≡ outcome_answer ws st m out y
      unfolding outcome_answer
      after y g = ap (λ (p : Reply). replied p st' m') q ∙ ap (outcome_answer ws st m out) g

      pub step-fit : lent.left o st' m' ≡ step_of (program_from Bits32 T) (world r st m) → answered n ws' st' m' out' ≡ step_call ws st m out T
      unfolding step_call step_by
      step-fit g = after (step_of (program_from Bits32 T) (world r st m)) g ∙ ap (step_by ws st m out T) (sym h ∙ e)

      pub run-fit : (budget : ℕ) → lent.left o st' m' ≡ run_of (program_from Bits32 T) budget (world r st m) → answered n ws' st' m' out' ≡ run_call ws st m out T budget
      unfolding run_call run_by
      run-fit budget g = after (run_of (program_from Bits32 T) budget (world r st m)) g ∙ ap (run_by ws st m out T budget) (sym h ∙ e)

  module _ (t : List ℕ) (c : ℕ) (l : List ℕ) (k : ℕ) (names : List ℕ) (d : ℕ) (bytes name args : List ℕ) where
    pub start-unfit : length ws < record_size → (n ≡ 35) × (out' ≡ overlay (refusal_words 35) out)
        → answered n ws st m out' ≡ start_call ws st m out (tables_of t c l k names d) bytes name args
    unfolding start_call
    start-unfit h q = none 35 q ∙ sym (if_lt-yes (unfit ws st m out 35) _ h)

    pub start-fit : (r : Machine) (o : Opening) (ws' st' m' : List ℕ) → record_size ≤ length ws → r ≡ fresh_of 0 0 0
        → opened o st' m' ≡ opening_of (program_from Bits32 (tables_of t c l k names d)) bytes name args (world r st m)
        → reply n ws' out' ≡ opening_reply o ws out
        → answered n ws' st' m' out' ≡ start_call ws st m out (tables_of t c l k names d) bytes name args
    unfolding start_call opening_answer
    start-fit r o ws' st' m' h f g q =
        ap (λ (p : Reply). replied p st' m') q ∙ ap (opening_answer ws st m out) g
        ∙ ap (λ (z : Machine). opening_answer ws st m out (opening_of (program_from Bits32 (tables_of t c l k names d)) bytes name args (world z st m))) f
        ∙ sym (if_lt-no (unfit ws st m out 35) _ h)

pub ruleset steps = (step-unfit, step-fit)

pub ruleset runs = (run-unfit, run-fit)

pub ruleset resumes = (resume-unfit, resume-fit)

pub ruleset starts = (start-unfit, start-fit)
