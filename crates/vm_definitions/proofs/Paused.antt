-- A call to an imported function: it stops with 32 where something it reads is a cause, else it pauses with the words read.
-- Assumes nothing.
use mathlib.Core.Path.{◌≡◌, refl, sym, ◌∙◌, ap}
use mathlib.Core.Bool.{Bool, true, false}
use mathlib.Core.List.{List, [], ◌∷◌, ◌++◌}
use Prim.Native.Nat.{ℕ, ◌<◌}
use native.Mathlib.Decide.{ℕ_discrete}
use native.Mathlib.Omega.{arith}
use borrow.Author.Tests.{eqb-true, eq-eqb}
use lib.Dec.{eqb}
use lib.ListN.{length}
use Rattle.base_prelude.specs.Choice.{if_true}
use Rattle.base_prelude.proofs.Choice.{if_eq-yes, if_eq-no, if_true-yes, if_true-no}
use Rattle.base_limits.specs.declared.Width.{Width}
use Rattle.base_limits.specs.Record.{with_state}
use Rattle.prog_tables.specs.Statement.{Row, is_call}
use Rattle.prog_tables.specs.Program.{Program}
use Rattle.prog_tables.specs.declared.Operand.{Operand}
use Rattle.prog_tables.proofs.Each.{both_right, both_true}
use Rattle.vm_definitions.specs.Access.{word_good}
use Rattle.vm_definitions.specs.Operands.{words, bad, is_at, number_in, fetch_of, read_of, read_all, with_word, on_read}
use Rattle.vm_definitions.specs.Frames.{importing}
use Rattle.vm_definitions.specs.Step.{World, stops, idle, effected, in_state_of, address_of, arguments_of, paused_by, pausing}
use Rattle.vm_definitions.specs.Operators.{Meeting, word_at}
use Rattle.vm_definitions.specs.Causes.{first_of, touched, word_of, reads_of, first_cause, calls_at_all, arguments_read}
use Rattle.vm_definitions.specs.Claim.{running_with, words_of, pause_in, paused_as, stopped_by}
use Rattle.vm_definitions.proofs.Chain.{one_right}
use Rattle.vm_definitions.proofs.Operators.{first-here, first-later, word_good_lem, word-bad}
use Rattle.vm_definitions.proofs.Listed.{import-cause}

module _ (prog : Program) (x : World) where
  abbrev w : Width
  w = prog.width

  abbrev r : Row
  r = prog.rows x.machine.next

  abbrev st : List ℕ
  st = x.stack

  abbrev s : ℕ
  s = x.machine.frame

  abbrev m : List ℕ
  m = x.memory

  abbrev first : List Meeting → ℕ
  first es = first_of w (length m) (length st) es

  -- operands are all read, or one of them cannot be
  read-cases : {P : Type 0} (os : List Operand) → (first (touched w st s os) ≡ 0 → read_all w st s m os ≡ words (words_of prog x os) → P)
      → (first (touched w st s os) ≡ 32 → read_all w st s m os ≡ bad → P) → P
  unfolding read_all touched first_of words_of word_of read_of fetch_of on_read with_word if_true
  read-cases [] f g = f refl refl
  read-cases {P} (o ∷ os) f g = by (λ a b. read-cases os a b) (is_at o) refl (word_good w (length m) at) refl
    where
      at : ℕ
      at = number_in w st s o

      by : ((first (touched w st s os) ≡ 0 → read_all w st s m os ≡ words (words_of prog x os) → P) → (first (touched w st s os) ≡ 32 → read_all w st s m os ≡ bad → P) → P)
          → (a : Bool) → is_at o ≡ a → (b : Bool) → word_good w (length m) at ≡ b → P
      by on false p b q =
          on
          (λ z d. f (rw p z) (rw (p, d)))
          (λ z d. g (rw p z) (rw (p, d)))
      by on true p true q =
          on
          (λ z d. f (rw p (first-later w (length m) (length st) (word_at at) (touched w st s os) (word_good_lem w (length m) (length st) at q) ∙ z)) (rw (p, q, d)))
          (λ z d. g (rw p (first-later w (length m) (length st) (word_at at) (touched w st s os) (word_good_lem w (length m) (length st) at q) ∙ z)) (rw (p, q, d)))
      by on true p false q =
          g (rw p (first-here w (length m) (length st) (word_at at) (touched w st s os) 31 (word-bad w (length m) (length st) at q))) (rw (p, q))

  -- ---- the call

  abbrev at : ℕ
  at = number_in w st s r.address

  abbrev reads : ℕ
  reads = first (reads_of w r x)

  words-cases : {P : Type 0} → (first (touched w st s r.operands) ≡ 0 → paused_by prog x (arguments_of prog x) ≡ paused_as x (pause_in prog x) → P)
      → (first (touched w st s r.operands) ≡ 32 → paused_by prog x (arguments_of prog x) ≡ stopped_by x 32 → P) → P
  unfolding arguments_of paused_by idle in_state_of effected paused_as pause_in stopped_by
  words-cases f g =
      read-cases r.operands (λ z d. f z (ap (paused_by prog x) d)) (λ z d. g z (ap (paused_by prog x) d))

  reads_at : r.kind ≡ 7 → reads ≡ first (word_at at ∷ touched w st s r.operands)
  unfolding reads_of
  reads_at k = ap (λ (es : List Meeting). first (es ++ touched w st s r.operands)) (if_eq-yes (word_at at ∷ []) [] k)

  reads_plain : (r.kind ≡ 7 → ⊥) → reads ≡ first (touched w st s r.operands)
  unfolding reads_of
  reads_plain k = ap (λ (es : List Meeting). first (es ++ touched w st s r.operands)) (if_eq-no (word_at at ∷ []) [] k)

  pub pause-cases : {P : Type 0} → (first_of w (length m) (length st) (reads_of w r x) ≡ 0 → pausing prog x ≡ paused_as x (pause_in prog x) → P)
      → (first_of w (length m) (length st) (reads_of w r x) ≡ 32 → pausing prog x ≡ stopped_by x 32 → P) → P
  unfolding pausing effected stopped_by
  pause-cases {P} f g =
      elim (ℕ_discrete r.kind 7) [
        | no k ↦ words-cases
            (λ z d. f (reads_plain k ∙ z) (if_eq-no _ (paused_by prog x (arguments_of prog x)) k ∙ d))
            (λ z d. g (reads_plain k ∙ z) (if_eq-no _ (paused_by prog x (arguments_of prog x)) k ∙ d))
        | yes k ↦ judged k (word_good w (length m) at) refl
      ]
    where
      judged : r.kind ≡ 7 → (b : Bool) → word_good w (length m) at ≡ b → P
      judged k true q =
          words-cases
          (λ z d. f (reads_at k ∙ first-later w (length m) (length st) (word_at at) _ (word_good_lem w (length m) (length st) at q) ∙ z)
          (if_eq-yes _ (paused_by prog x (arguments_of prog x)) k ∙ if_true-yes (paused_by prog x (arguments_of prog x)) (effected x (stops 32)) q ∙ d))
          (λ z d. g (reads_at k ∙ first-later w (length m) (length st) (word_at at) _ (word_good_lem w (length m) (length st) at q) ∙ z)
          (if_eq-yes _ (paused_by prog x (arguments_of prog x)) k ∙ if_true-yes (paused_by prog x (arguments_of prog x)) (effected x (stops 32)) q ∙ d))
      judged k false q =
          g (reads_at k ∙ first-here w (length m) (length st) (word_at at) _ 31 (word-bad w (length m) (length st) at q))
          (if_eq-yes _ (paused_by prog x (arguments_of prog x)) k ∙ if_true-no (paused_by prog x (arguments_of prog x)) (effected x (stops 32)) q)

  -- where nothing it reads is a cause, the address of `set @` is good
  pub read-address : arguments_read prog x ≡ true → r.kind ≡ 7 → word_good w (length m) (number_in w st s r.address) ≡ true
  unfolding arguments_read
  read-address h k = by (word_good w (length m) at) refl
    where
      none : reads ≡ 0
      none = eqb-true _ _ (both_right (calls_at_all r) (eqb reads 0) h)

      by : (b : Bool) → word_good w (length m) at ≡ b → word_good w (length m) at ≡ true
      by true q = q
      by false q =
          absurd
          (let z : reads ≡ 32 = reads_at k ∙ first-here w (length m) (length st) (word_at at) (touched w st s r.operands) 31 (word-bad w (length m) (length st) at q) in
          omega (arith, z, none))

  -- ---- its causes

  module _ (sum last : ℕ) (im : importing (prog.rows x.machine.next) ≡ true) where
    pub cause-read : first_cause prog sum last x ≡ 0 → arguments_read prog x ≡ true
    unfolding arguments_read
    cause-read z =
        both_true (calls_at_all r) (eqb reads 0) (one_right (is_call r.kind r.expr) (importing r) im)
        (eq-eqb reads 0 (sym (import-cause prog sum last x im) ∙ z))

    pub read-cause : arguments_read prog x ≡ true → first_cause prog sum last x ≡ 0
    unfolding arguments_read
    read-cause h = import-cause prog sum last x im ∙ eqb-true _ _ (both_right (calls_at_all r) (eqb reads 0) h)

    pub pause-clear : first_cause prog sum last x ≡ 0 → pausing prog x ≡ paused_as x (pause_in prog x)
    pause-clear z =
        pause-cases (λ a d. d) (λ a d. absurd (omega (arith, a, z, import-cause prog sum last x im)))

    pub pause-stop : 0 < first_cause prog sum last x → pausing prog x ≡ stopped_by x (first_cause prog sum last x)
    pause-stop h =
        pause-cases (λ a d. absurd (omega (arith, a, h, import-cause prog sum last x im)))
        (λ a d. d ∙ ap (stopped_by x) (sym (import-cause prog sum last x im ∙ a)))

-- the address of a paused `set @` is good, whatever the memory's bytes are
pub still-good : (p : Program) (x : World) (b : List ℕ) → length b ≡ length x.memory → arguments_read p (running_with x b) ≡ true
    → (p.rows x.machine.next).kind ≡ 7 → word_good p.width (length x.memory) (address_of p x) ≡ true
unfolding running_with with_state
still-good p x b l h k =
    ap (λ (n : ℕ). word_good p.width n (address_of p x)) (sym l) ∙ read-address p (running_with x b) h k
