-- One law for each way through a function, numbered as its returns.
-- Assumes nothing.
use mathlib.Core.Path.{◌≡◌, ◌∙◌, ap}
use native.Mathlib.Omega.{arith}
use Prim.Native.Nat.{ℕ, ◌-◌, ◌≤◌, ◌<◌}
use mathlib.Core.Bool.{Bool, true, false}
use mathlib.Core.List.{List, ◌++◌}
use lib.ListN.{length, take, drop}
use Rattle.base_prelude.specs.Lists.{same_list}
use Rattle.base_limits.specs.declared.Width.TheVariants.{Bits32}
use Rattle.prog_tables.specs.Program.{program_from}
use Rattle.vm_definitions.specs.Access.{store_from}
use Rattle.vm_definitions.specs.Step.{World, After, Continued, step_of, run_of, resume_of}
use Rattle.vm_definitions.specs.Lent.{tables_of, world, left, resumed}
use Rattle.vm_definitions.specs.declared.Outcome.{Outcome}
use Rattle.vm_definitions.specs.declared.Resumed.{Resumed}
use Rattle.vm_definitions.specs.declared.Opening.{Opening}
use Rattle.prog_tables.specs.Label.{Tables}
use Rattle.vm_start.specs.Opening.{Opened, opened, opening_of}
use Rattle.test_lines.specs.Lines.{starts_with}
use Rattle.test_lines.specs.Fields.{field_start}
use Rattle.test_lines.specs.Sources.{Source, source, add_text}
use Rattle.test_text.specs.Fields.{word_end, raw_at}
use Rattle.test_text.specs.Numbers.{field_word, has_values, is_digits, long_number, listed, arguments_of}
use Rattle.test_text.specs.Answers.{add_all, started_bytes, outcome_bytes, resumed_bytes}
use Rattle.test_text.specs.Buffers.{lesser_of, behind_of}
use Rattle.test_state.specs.declared.Fault.TheVariants.{BadLine}
use Rattle.test_state.specs.declared.Progress.{Progress}
use Rattle.test_state.specs.Progress.{On, on, failed_of, answered_of, machine_of}
use Rattle.test_state.specs.Views.{blank}
use Rattle.base_prelude.proofs.Choice.{tests}
use Rattle.test_calls.specs.Calls.{ran, with_outcome, with_opening, with_resumed, tables_in, data_in, over, stack_in, memory_in, world_in, ran_by, resumed_by, opened_by, do_step, do_run, do_resume, do_start, read_name, no_words, start-blank-word, start_word, run-word, resume-word, start_named, read_start, read_run, read_resume, is_start, do_call, read_call}

-- `call_step`, `call_run`, `call_resume`, `call_start`
module _ (q : Progress) (t b w1 w2 w3 n1 : List ℕ) (e1 : w1 ≡ take q.lent.statements t) (e2 : w2 ≡ behind_of 27648 t) (e3 : w3 ≡ take q.lent.labels w2) (e4 : n1 ≡ take q.lent.names b) where
  tables-are : tables_of w1 q.counts.statements w3 q.counts.labels n1 q.counts.bytes ≡ tables_in q t b
  unfolding tables_in
  tables-are = rw (← e2, ← e1, ← e3, ← e4)

  pub call-step-is : (x : World) (z : After) → z ≡ step_of (program_from Bits32 (tables_of w1 q.counts.statements w3 q.counts.labels n1 q.counts.bytes)) x → z ≡ step_of (program_from Bits32 (tables_in q t b)) x
  call-step-is x z e = e ∙ ap (λ (y : Tables). step_of (program_from Bits32 y) x) tables-are

  pub call-run-is : (budget : ℕ) (x : World) (z : After) → z ≡ run_of (program_from Bits32 (tables_of w1 q.counts.statements w3 q.counts.labels n1 q.counts.bytes)) budget x
      → z ≡ run_of (program_from Bits32 (tables_in q t b)) budget x
  call-run-is budget x z e = e ∙ ap (λ (y : Tables). run_of (program_from Bits32 y) budget x) tables-are

  pub call-resume-is : (word : ℕ) (x : World) (z : Continued) → z ≡ resume_of (program_from Bits32 (tables_of w1 q.counts.statements w3 q.counts.labels n1 q.counts.bytes)) word x
      → z ≡ resume_of (program_from Bits32 (tables_in q t b)) word x
  call-resume-is word x z e = e ∙ ap (λ (y : Tables). resume_of (program_from Bits32 y) word x) tables-are

  pub call-start-is : (n2 n3 name arguments : List ℕ) (x : World) (z : Opened) → n2 ≡ behind_of 16384 b → n3 ≡ take q.lent.bytes n2
      → z ≡ opening_of (program_from Bits32 (tables_of w1 q.counts.statements w3 q.counts.labels n1 q.counts.bytes)) n3 name arguments x
      → z ≡ opening_of (program_from Bits32 (tables_in q t b)) (data_in q b) name arguments x
  unfolding data_in
  call-start-is n2 n3 name arguments x z f g e =
      let h : n3 ≡ take q.lent.bytes (behind_of 16384 b) = g ∙ ap (λ (y : List ℕ). take q.lent.bytes y) f in
      e ∙ ap (λ (y : Tables). opening_of (program_from Bits32 y) n3 name arguments x) tables-are ∙ ap (λ (y : List ℕ). opening_of (program_from Bits32 (tables_in q t b)) y name arguments x) h

-- `read_name`
pub read-name-is : (l name : List ℕ) (from end : ℕ) (z : Source) → from ≡ field_start l 1 → end ≡ word_end l from → z ≡ add_text (take (end - from) (drop from l)) 0 (source 0 name) → z ≡ read_name l name
unfolding read_name raw_at
read-name-is l name from end z p e f =
    f ∙ ap (λ (i : ℕ). add_text (take (i - from) (drop from l)) 0 (source 0 name)) e
    ∙ ap (λ (i : ℕ). add_text (take (word_end l i - i) (drop i l)) 0 (source 0 name)) p

-- `do_step`, `do_run`, `do_resume`, `do_start`
module _ (q : Progress) (got t b k m : List ℕ) (n h : ℕ) (st mem : List ℕ) (z : Progress) (u : List ℕ) (e1 : n ≡ lesser_of q.lent.stack (length k)) (e2 : h ≡ lesser_of q.lent.memory (length m)) where
  lent-stack : n - 0 ≡ stack_in q k
  lent-stack = let e : n - 0 ≡ n = omega arith in e ∙ e1

  lent-memory : h - 0 ≡ memory_in q m
  lent-memory = let e : h - 0 ≡ h = omega arith in e ∙ e2

  world_is : world q.machine (take (n - 0) k) (take (h - 0) m) ≡ world_in q k m
  world_is =
      ap (λ (i : ℕ). world q.machine (take i k) (take (h - 0) m)) lent-stack
      ∙ ap (λ (i : ℕ). world q.machine (take (stack_in q k) k) (take i m)) lent-memory

  ran_over : (w : On) → on z u ≡ w
      → ran z u (st ++ drop (n - 0) k) (mem ++ drop (h - 0) m) ≡ ran w.progress w.buffer (over st (stack_in q k) k) (over mem (memory_in q m) m)
  ran_over w e =
      ap (λ (y : On). ran y.progress y.buffer (st ++ drop (n - 0) k) (mem ++ drop (h - 0) m)) e
      ∙ ap (λ (i : ℕ). ran w.progress w.buffer (st ++ drop i k) (mem ++ drop (h - 0) m)) lent-stack
      ∙ ap (λ (i : ℕ). ran w.progress w.buffer (over st (stack_in q k) k) (mem ++ drop i m)) lent-memory

  pub do-step-is : (o : Outcome) → left o st mem ≡ step_of (program_from Bits32 (tables_in q t b)) (world q.machine (take (n - 0) k) (take (h - 0) m)) → on z u ≡ with_outcome q o got
      → ran z u (st ++ drop (n - 0) k) (mem ++ drop (h - 0) m) ≡ do_step q got t b k m
  unfolding do_step
  do-step-is o e f =
      ran_over (with_outcome q o got) f
      ∙ ap (λ (x : After). ran_by x q got k m) (e ∙ ap (λ (y : World). step_of (program_from Bits32 (tables_in q t b)) y) world_is)

  pub do-run-is : (budget : ℕ) (o : Outcome) → left o st mem ≡ run_of (program_from Bits32 (tables_in q t b)) budget (world q.machine (take (n - 0) k) (take (h - 0) m)) → on z u ≡ with_outcome q o got
      → ran z u (st ++ drop (n - 0) k) (mem ++ drop (h - 0) m) ≡ do_run budget q got t b k m
  unfolding do_run
  do-run-is budget o e f =
      ran_over (with_outcome q o got) f
      ∙ ap (λ (x : After). ran_by x q got k m) (e ∙ ap (λ (y : World). run_of (program_from Bits32 (tables_in q t b)) budget y) world_is)

  pub do-resume-is : (word : ℕ) (o : Resumed) → resumed o st mem ≡ resume_of (program_from Bits32 (tables_in q t b)) word (world q.machine (take (n - 0) k) (take (h - 0) m)) → on z u ≡ with_resumed q o got
      → ran z u (st ++ drop (n - 0) k) (mem ++ drop (h - 0) m) ≡ do_resume word q got t b k m
  unfolding do_resume
  do-resume-is word o e f =
      ran_over (with_resumed q o got) f
      ∙ ap (λ (x : Continued). resumed_by x q got k m) (e ∙ ap (λ (y : World). resume_of (program_from Bits32 (tables_in q t b)) word y) world_is)

  pub do-start-is : (name arguments : List ℕ) (o : Opening) → opened o st mem ≡ opening_of (program_from Bits32 (tables_in q t b)) (data_in q b) name arguments (world q.machine (take (n - 0) k) (take (h - 0) m))
      → on z u ≡ with_opening q o got → ran z u (st ++ drop (n - 0) k) (mem ++ drop (h - 0) m) ≡ do_start name arguments q got t b k m
  unfolding do_start
  do-start-is name arguments o e f =
      ran_over (with_opening q o got) f
      ∙ ap (λ (x : Opened). opened_by x q got k m) (e ∙ ap (λ (y : World). opening_of (program_from Bits32 (tables_in q t b)) (data_in q b) name arguments y) world_is)

-- `with_outcome`
module _ (q : Progress) (o : Outcome) (got : List ℕ) where
  pub with-outcome-is : (a : Progress) → a ≡ machine_of q o.machine → (n : ℕ) → (u : List ℕ) → source n u ≡ add_all (outcome_bytes o) (source 0 got) → (z : Progress) → z ≡ answered_of a n → on z u ≡ with_outcome q o got
  unfolding with_outcome
  with-outcome-is a p0 n u p1 z p2 = rw (← p0, ← p1, ← p2)

-- `with_resumed`
module _ (q : Progress) (o : Resumed) (got : List ℕ) where
  pub with-resumed-is : (a : Progress) → a ≡ machine_of q o.outcome.machine → (n : ℕ) → (u : List ℕ) → source n u ≡ add_all (resumed_bytes o) (source 0 got) → (z : Progress) → z ≡ answered_of a n → on z u ≡ with_resumed q o got
  unfolding with_resumed
  with-resumed-is a p0 n u p1 z p2 = rw (← p0, ← p1, ← p2)

-- `with_opening`
module _ (q : Progress) (o : Opening) (got : List ℕ) where
  pub with-opening-is : (a : Progress) → a ≡ machine_of q o.machine → (n : ℕ) → (u : List ℕ) → source n u ≡ add_all (started_bytes o.answer) (source 0 got) → (z : Progress) → z ≡ answered_of a n → on z u ≡ with_opening q o got
  unfolding with_opening
  with-opening-is a p0 n u p1 z p2 = rw (← p0, ← p1, ← p2)

-- `start_named`
module _ (name : List ℕ) (size : ℕ) (arguments : List ℕ) (count : ℕ) (q : Progress) (got : List ℕ) (t : List ℕ) (b : List ℕ) (k : List ℕ) (m : List ℕ) where
  pub start-named-is : (n1 : List ℕ) → n1 ≡ take size name → (w1 : List ℕ) → w1 ≡ take count arguments → (z : Progress) → (g : List ℕ) → (u : List ℕ) → (v : List ℕ) → ran z g u v ≡ do_start n1 w1 q got t b k m → ran z g u v ≡ start_named name size arguments count q got t b k m
  unfolding start_named
  start-named-is n1 p0 w1 p1 z g u v p2 = rw (← p0, ← p1, ← p2)

-- `read_start`
module _ (l : List ℕ) (q : Progress) (got : List ℕ) (t : List ℕ) (b : List ℕ) (k : List ℕ) (m : List ℕ) where
  pub read-start-1 : (n : ℕ) → (w : List ℕ) → source n w ≡ read_name l blank → 16401 ≤ n → (z : Progress) → z ≡ failed_of q BadLine → ran z got k m ≡ read_start l q got t b k m
  unfolding read_start
  read-start-1 n w p0 h0 z p1 = rw (← p0, ← p1) (search tests)

  pub read-start-2 : (n : ℕ) → (w : List ℕ) → source n w ≡ read_name l blank → n < 16401 → (c : ℕ) → (a : List ℕ) → listed c a ≡ arguments_of l no_words → 16 < c → (z : Progress) → z ≡ failed_of q BadLine → ran z got k m ≡ read_start l q got t b k m
  unfolding read_start
  read-start-2 n w p0 h0 c a p1 h1 z p2 = rw (← p0, ← p1, ← p2) (search tests)

  pub read-start-3 : (n : ℕ) → (w : List ℕ) → source n w ≡ read_name l blank → n < 16401 → (c : ℕ) → (a : List ℕ) → listed c a ≡ arguments_of l no_words → c ≤ 16 → (z : Progress) → (g : List ℕ) → (u : List ℕ) → (v : List ℕ) → ran z g u v ≡ start_named w n a c q got t b k m → ran z g u v ≡ read_start l q got t b k m
  unfolding read_start
  read-start-3 n w p0 h0 c a p1 h1 z g u v p2 = rw (← p0, ← p1, ← p2) (search tests)

pub ruleset read-start-ways = (read-start-1, read-start-2, read-start-3)

-- `read_run`
module _ (l : List ℕ) (q : Progress) (got : List ℕ) (t : List ℕ) (b : List ℕ) (k : List ℕ) (m : List ℕ) where
  pub read-run-1 : (d : Bool) → d ≡ is_digits l 4 → d ≡ true → (n : ℕ) → n ≡ long_number l 4 → (z : Progress) → (g : List ℕ) → (u : List ℕ) → (v : List ℕ) → ran z g u v ≡ do_run n q got t b k m → ran z g u v ≡ read_run l q got t b k m
  unfolding read_run
  read-run-1 d p0 h0 n p1 z g u v p2 = rw (← p0, ← p1, ← p2) (search tests)

  pub read-run-2 : (d : Bool) → d ≡ is_digits l 4 → d ≡ false → (z : Progress) → z ≡ failed_of q BadLine → ran z got k m ≡ read_run l q got t b k m
  unfolding read_run
  read-run-2 d p0 h0 z p1 = rw (← p0, ← p1) (search tests)

pub ruleset read-run-ways = (read-run-1, read-run-2)

-- `read_resume`
module _ (l : List ℕ) (q : Progress) (got : List ℕ) (t : List ℕ) (b : List ℕ) (k : List ℕ) (m : List ℕ) where
  pub read-resume-1 : (d : Bool) → d ≡ has_values l 1 2 → d ≡ true → (n : ℕ) → n ≡ field_word l 1 → (z : Progress) → (g : List ℕ) → (u : List ℕ) → (v : List ℕ) → ran z g u v ≡ do_resume n q got t b k m → ran z g u v ≡ read_resume l q got t b k m
  unfolding read_resume
  read-resume-1 d p0 h0 n p1 z g u v p2 = rw (← p0, ← p1, ← p2) (search tests)

  pub read-resume-2 : (d : Bool) → d ≡ has_values l 1 2 → d ≡ false → (z : Progress) → z ≡ failed_of q BadLine → ran z got k m ≡ read_resume l q got t b k m
  unfolding read_resume
  read-resume-2 d p0 h0 z p1 = rw (← p0, ← p1) (search tests)

pub ruleset read-resume-ways = (read-resume-1, read-resume-2)

-- `is_start`
module _ (l : List ℕ) where
  pub is-start-1 : (a : Bool) → a ≡ starts_with l start-blank-word → a ≡ true → true ≡ is_start l
  unfolding is_start
  is-start-1 a p0 h0 = rw (← p0) (search tests)

  pub is-start-2 : (a : Bool) → a ≡ starts_with l start-blank-word → a ≡ false → (r : Bool) → r ≡ same_list l start_word → r ≡ is_start l
  unfolding is_start
  is-start-2 a p0 h0 r p1 = rw (← p0, ← p1) (search tests)

pub ruleset is_start_ways = (is-start-1, is-start-2)

-- `do_call`
module _ (l : List ℕ) (q : Progress) (got : List ℕ) (t : List ℕ) (b : List ℕ) (k : List ℕ) (m : List ℕ) where
  pub do-call-1 : (a : Bool) → a ≡ is_start l → a ≡ true → (z : Progress) → (g : List ℕ) → (u : List ℕ) → (v : List ℕ) → ran z g u v ≡ read_start l q got t b k m → ran z g u v ≡ do_call l q got t b k m
  unfolding do_call
  do-call-1 a p0 h0 z g u v p1 = rw (← p0, ← p1) (search tests)

  pub do-call-2 : (a : Bool) → a ≡ is_start l → a ≡ false → (c : Bool) → c ≡ starts_with l run-word → c ≡ true → (z : Progress) → (g : List ℕ) → (u : List ℕ) → (v : List ℕ) → ran z g u v ≡ read_run l q got t b k m → ran z g u v ≡ do_call l q got t b k m
  unfolding do_call
  do-call-2 a p0 h0 c p1 h1 z g u v p2 = rw (← p0, ← p1, ← p2) (search tests)

  pub do-call-3 : (a : Bool) → a ≡ is_start l → a ≡ false → (c : Bool) → c ≡ starts_with l run-word → c ≡ false → (d : Bool) → d ≡ starts_with l resume-word → d ≡ true → (z : Progress) → (g : List ℕ) → (u : List ℕ) → (v : List ℕ) → ran z g u v ≡ read_resume l q got t b k m → ran z g u v ≡ do_call l q got t b k m
  unfolding do_call
  do-call-3 a p0 h0 c p1 h1 d p2 h2 z g u v p3 = rw (← p0, ← p1, ← p2, ← p3) (search tests)

  pub do-call-4 : (a : Bool) → a ≡ is_start l → a ≡ false → (c : Bool) → c ≡ starts_with l run-word → c ≡ false → (d : Bool) → d ≡ starts_with l resume-word → d ≡ false → (z : Progress) → (g : List ℕ) → (u : List ℕ) → (v : List ℕ) → ran z g u v ≡ do_step q got t b k m → ran z g u v ≡ do_call l q got t b k m
  unfolding do_call
  do-call-4 a p0 h0 c p1 h1 d p2 h2 z g u v p3 = rw (← p0, ← p1, ← p2, ← p3) (search tests)

pub ruleset do-call-ways = (do-call-1, do-call-2, do-call-3, do-call-4)

-- `read_call`
module _ (l : List ℕ) (q : Progress) (got : List ℕ) (t : List ℕ) (b : List ℕ) (k : List ℕ) (m : List ℕ) where
  pub read-call-is : (u0 : List ℕ) → u0 ≡ store_from k 16385 (take (lesser_of q.lent.stack 16385) k) → (v0 : List ℕ) → v0 ≡ store_from m 65537 (take (lesser_of q.lent.memory 65537) m) → (z : Progress) → (g : List ℕ) → (u : List ℕ) → (v : List ℕ) → ran z g u v ≡ do_call l q got t b u0 v0 → ran z g u v ≡ read_call l q got t b k m
  unfolding read_call
  read-call-is u0 p0 v0 p1 z g u v p2 = rw (← p0, ← p1, ← p2)
