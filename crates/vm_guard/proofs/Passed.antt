-- What a step that is not refused knows; and a good return resumes behind a call of the table, below the frame left.
-- Assumes nothing.
use mathlib.Core.Path.{◌≡◌, refl, sym, ◌∙◌, ap}
use mathlib.Core.Bool.{Bool, true, false, not}
use mathlib.Core.List.{List, [], ◌∷◌}
use Prim.Native.Nat.{ℕ, zero, suc, ◌+◌, ◌<◌, ◌≤◌}
use native.Mathlib.Decide.{dec_lt}
use native.Mathlib.Omega.{arith}
use lib.ListN.{length, get_or}
use lib.Dec.{eqb, ltb, leb}
use borrow.Author.Tests.{eqb-true, ltb-true, leb-true, lt-ltb, le-ltb, le-leb, lt-leb}
use Rattle.base_prelude.specs.Choice.{pick, if_lt, if_true}
use Rattle.base_prelude.proofs.Choice.{true-false}
use Rattle.base_limits.specs.Limits.{stack_words}
use Rattle.base_limits.specs.Width.{memory_limit}
use Rattle.base_limits.specs.declared.Width.{Width}
use Rattle.base_limits.specs.declared.Width.TheVariants.{Bits32}
use Rattle.base_limits.specs.declared.Machine.{Machine}
use Rattle.lang_kinds.specs.Kinds as kind
use Rattle.prog_tables.specs.Tests.{both, one_of, given, all, some}
use Rattle.prog_tables.specs.Statement.{Row, row_at, has_expression, is_call}
use Rattle.prog_tables.specs.Label.{label_at}
use Rattle.prog_tables.specs.Program.{Program, program_from, lent_program}
use Rattle.prog_tables.specs.Nesting.{is_listed}
use Rattle.prog_tables.specs.Faults.{expression_listed, expression_fault, in_function, size_at, kind_fault, target_fault, function_fault, import_fault, callee_fault, size_fault, word_fault, operands_fault, address_fault, row_fault}
use Rattle.prog_tables.proofs.Each.{both_left, both_right, given-then, all-at}
use Rattle.vm_definitions.specs.Frames.{returns_to, caller_frame, top_at_entry, is_first, is_calling, importing, leaves_frame, called_from, head_good, passes_on, leaves_good, heads_left, tops_left, resumption_of}
use Rattle.vm_definitions.specs.Lent.{tables_of}
use Rattle.vm_definitions.specs.Broken.{lower, lowest, or_else, frame_ends, rows_used, next_past, frame_fault, top_fault, limit_fault, head_fault, record_fault, step_broken, not_import, resume_broken}
use Rattle.vm_definitions.specs.declared.Resumption.TheVariants.{Ends, Caller}
use Rattle.vm_definitions.specs.declared.Broken.{Broken}
use Rattle.vm_definitions.specs.declared.Broken.TheVariants.{No, At, Somewhere}
use Rattle.vm_definitions.proofs.Seen.{leaves-parts}
use Rattle.vm_guard.specs.Guard.{row_bad, record_good, with_record, within_broken, within_resume}
use Rattle.vm_guard.specs.Passed.{Passed}
use Rattle.prog_tables.proofs.Each.{one-no, one-rest}
use Rattle.prog_tables.proofs.CallRows.{expression-listed}

-- ---- refusal 35 of a step: the counts of statements, then the rows and the record, then the counts of labels

at_most : (a b : ℕ) → ltb b a ≡ not (leb a b)
at_most a b =
    elim (dec_lt b a) [
      | yes h ↦ lt-ltb b a h ∙ ap not (sym (lt-leb a b h))
      | no h ↦ le-ltb b a (omega (arith, h)) ∙ ap not (sym (le-leb a b (omega (arith, h))))
    ]

below : (a b : ℕ) → leb b a ≡ not (ltb a b)
below a b =
    elim (dec_lt a b) [
      | yes h ↦ lt-leb b a h ∙ ap not (sym (lt-ltb a b h))
      | no h ↦ le-leb b a (omega (arith, h)) ∙ ap not (sym (le-ltb a b (omega (arith, h))))
    ]

where-asked : (p q : Bool) → both p (not q) ≡ not (given p q)
where-asked true q = refl
where-asked false q = refl

given_both : (p a b : Bool) → given p (both a b) ≡ both (given p a) (given p b)
given_both true a b = refl
given_both false a b = refl

-- no test of the record fails exactly when every one passes
record-tests : (a b c d e f g i j k : Bool)
    → some (not a ∷ not b ∷ some (not c ∷ not d ∷ not e ∷ not f ∷ []) ∷ one_of (not g) (not i) ∷ one_of (not j) (not k) ∷ [])
    ≡ not (all (a ∷ b ∷ c ∷ g ∷ i ∷ j ∷ d ∷ e ∷ both k f ∷ []))
unfolding some all
record-tests false b c d e f g i j k = refl
record-tests true false c d e f g i j k = refl
record-tests true true false d e f g i j k = refl
record-tests true true true false e f true true true k = refl
record-tests true true true false e f true true false k = refl
record-tests true true true false e f true false j k = refl
record-tests true true true false e f false i j k = refl
record-tests true true true true false f true true true k = refl
record-tests true true true true false f true true false k = refl
record-tests true true true true false f true false j k = refl
record-tests true true true true false f false i j k = refl
record-tests true true true true true false true true true true = refl
record-tests true true true true true false true true true false = refl
record-tests true true true true true false true true false k = refl
record-tests true true true true true false true false j k = refl
record-tests true true true true true false false i j k = refl
record-tests true true true true true true false i j k = refl
record-tests true true true true true true true false j k = refl
record-tests true true true true true true true true false k = refl
record-tests true true true true true true true true true false = refl
record-tests true true true true true true true true true true = refl

module _ (p : Program) (m : ℕ) (r : Machine) (st : List ℕ) where
  abbrev row : Row
  row = p.rows r.next

  abbrev heads : Bool
  heads = heads_left p.width p.rows p.count st (suc r.frame) r.frame

  abbrev tops : Bool
  tops = tops_left p.width p.rows p.count m st (suc r.frame) r.frame

  pub record-fault : record_fault p m r st ≡ not (record_good p m r st)
  unfolding record_fault next_past frame_fault top_fault limit_fault head_fault record_good
  record-fault =
      rw (
        below r.next p.count,
        at_most r.top m,
        at_most (get_or st (r.frame + row.a) 0) m,
        at_most (top_at_entry st r.frame) m,
        at_most m (memory_limit p.width),
        at_most (length st) stack_words,
        where-asked (eqb row.kind kind.end_block) (leb (get_or st (r.frame + row.a) 0) m),
        where-asked (eqb row.kind kind.tail_call) (leb (top_at_entry st r.frame) m),
        where-asked (leaves_frame row) tops,
        where-asked (leaves_frame row) heads,
        leaves-parts p.width p.rows p.count m st (suc r.frame) r.frame,
        given_both (leaves_frame row) heads tops,
      )
      (record-tests (ltb r.next p.count) (frame_ends p.rows p.count r (length st)) (leb r.top m)
      (given (eqb row.kind kind.end_block) (leb (get_or st (r.frame + row.a) 0) m)) (given (eqb row.kind kind.tail_call) (leb (top_at_entry st r.frame) m))
      (given (leaves_frame row) tops) (leb m (memory_limit p.width)) (leb (length st) stack_words) (head_good p.width p.rows p.count st r.frame) (given (leaves_frame row) heads))

then-labels : (x : Broken) (a b : Bool) → or_else x (if_true (one_of a (not b)) Somewhere No) ≡ or_else (or_else x (if_true b No Somewhere)) (if_true a Somewhere No)
unfolding or_else if_true
then-labels No true true = refl
then-labels No true false = refl
then-labels No false true = refl
then-labels No false false = refl
then-labels (At i) a b = refl
then-labels Somewhere a b = refl

module _ (p : Program) (r : Machine) (st : List ℕ) (m : ℕ) where
  -- a place, then the record, then the counts of labels
  broken-parts : (b : Broken)
      → if_true p.statements_past Somewhere (or_else b (if_true (one_of p.labels_past (record_fault p m r st)) Somewhere No))
      ≡ if_true p.statements_past Somewhere (or_else (with_record p r st m b) (if_true p.labels_past Somewhere No))
  unfolding with_record
  broken-parts b =
      ap (λ (x : Bool). if_true p.statements_past Somewhere (or_else b (if_true (one_of p.labels_past x) Somewhere No))) (record-fault p m r st)
      ∙ ap (if_true p.statements_past Somewhere) (then-labels b p.labels_past (record_good p m r st))

  pub step-broken : step_broken p r st m ≡ if_true p.statements_past Somewhere (or_else (within_broken p r st m) (if_true p.labels_past Somewhere No))
  unfolding step_broken within_broken row_bad
  step-broken = broken-parts _

  pub resume-broken : resume_broken p r st m ≡ if_true p.statements_past Somewhere (or_else (within_resume p r st m) (if_true p.labels_past Somewhere No))
  unfolding resume_broken within_resume row_bad
  resume-broken = broken-parts _

-- the names of the labels and the counts do not matter to the rest
module _ (t : List ℕ) (c : ℕ) (l : List ℕ) (k : ℕ) (names : List ℕ) (d : ℕ) (r : Machine) (st : List ℕ) (m : ℕ) where
  pub within-lent : within_broken (program_from Bits32 (tables_of t c l k names d)) r st m ≡ within_broken (lent_program t c l k d) r st m
  unfolding with_record within_broken row_bad row_fault kind_fault target_fault function_fault import_fault callee_fault label_at size_fault word_fault operands_fault address_fault rows_used record_good
  within-lent = refl

  pub resume-lent : within_resume (program_from Bits32 (tables_of t c l k names d)) r st m ≡ within_resume (lent_program t c l k d) r st m
  unfolding with_record within_resume not_import row_bad row_fault kind_fault target_fault function_fault import_fault callee_fault label_at size_fault word_fault operands_fault address_fault rows_used record_good
  resume-lent = refl

-- ---- tests

one-second : (p q : Bool) → one_of p q ≡ true → p ≡ false → q ≡ true
one-second true q e d = true-false d
one-second false q e d = e

-- a fault with a condition that is met
not-both : (p q : Bool) → both p (not q) ≡ false → p ≡ true → q ≡ true
not-both true true e d = refl
not-both true false e d = true-false e
not-both false q e d = true-false (sym d)

-- ---- the parts of the refusal

broken-no : (x y : Broken) → or_else x y ≡ No → x ≡ No
unfolding or_else
broken-no No y e = refl
broken-no (At i) y e = e
broken-no Somewhere y e = e

broken-then : (x y : Broken) → or_else x y ≡ No → y ≡ No
unfolding or_else
broken-then No y e = e
broken-then (At i) y e = cc
broken-then Somewhere y e = cc

good-then : (b : Bool) → if_true b No Somewhere ≡ No → b ≡ true
unfolding if_true
good-then true e = refl
good-then false e = cc

lower-some : (i : ℕ) (b : Broken) (P : Type 0) → lower i b ≡ No → P
unfolding lower
lower-some i No P e = absurd (let z : ◌≡◌ {A = ℕ} 0 1 = cc in omega arith)
lower-some i (At j) P e = absurd (let z : ◌≡◌ {A = ℕ} 0 1 = cc in omega arith)
lower-some i Somewhere P e = absurd (let z : ◌≡◌ {A = ℕ} 0 1 = cc in omega arith)

-- no row is bad: the first is good
first_good : (p : ℕ → Bool) (i : ℕ) (is : List ℕ) → lowest p (i ∷ is) ≡ No → p i ≡ false
unfolding lowest if_true
first_good p i is = by (p i)
  where
    by : (q : Bool) → if_true q (lower i (lowest p is)) (lowest p is) ≡ No → q ≡ false
    by true e = lower-some i (lowest p is) (true ≡ false) e
    by false e = refl

module _ (prog : Program) (n : ℕ) (e : row_fault prog n ≡ false) where
  kind-good : kind_fault prog n ≡ false
  unfolding row_fault some
  kind-good = one-no (kind_fault prog n) _ e

  callee-good : callee_fault prog n ≡ false
  unfolding row_fault some
  callee-good = one-no (callee_fault prog n) _ (one-rest (target_fault prog n) _ (one-rest (kind_fault prog n) _ e))

  pub row_listed : has_expression (prog.rows n).kind ≡ true → expression_listed (prog.rows n).kind (prog.rows n).expr ≡ true
  unfolding kind_fault if_true
  row_listed h = by (is_listed (prog.rows n).kind) kind-good
    where
      by : (q : Bool) → if_true q (expression_fault (prog.rows n).kind (prog.rows n).expr) true ≡ false
          → expression_listed (prog.rows n).kind (prog.rows n).expr ≡ true
      by true g = expression-listed (prog.rows n).kind (prog.rows n).expr g h
      by false g = true-false g

  function-good : function_fault prog n ≡ false
  unfolding callee_fault
  function-good = one-no (function_fault prog n) (import_fault prog n) callee-good

  pub import-good : import_fault prog n ≡ false
  unfolding callee_fault
  import-good = one-rest (function_fault prog n) (import_fault prog n) callee-good

  pub row-callee : is_call (prog.rows n).kind (prog.rows n).expr ≡ true → (prog.rows n).callee < prog.count
  unfolding function_fault
  row-callee h =
      ltb-true _ _ (both_left (ltb (prog.rows n).callee prog.count) _ (not-both (is_call (prog.rows n).kind (prog.rows n).expr) (both (ltb (prog.rows n).callee prog.count) _) function-good h))

lower-all : (prog : Program) (r : Machine) (b : Broken) → not_import prog r b ≡ No → b ≡ No
unfolding not_import if_lt if_true
lower-all prog r b = by (ltb r.next prog.count) (importing (prog.rows r.next))
  where
    by : (p q : Bool) → pick p (pick q b (lower r.next b)) b ≡ No → b ≡ No
    by true true e = e
    by true false e = lower-some r.next b (b ≡ No) e
    by false q e = e

-- what is known where no used row is bad and the record is good
module _ (t : List ℕ) (c : ℕ) (l : List ℕ) (k d : ℕ) (r : Machine) (st : List ℕ) (m : ℕ)
    (rows-passed : lowest (row_bad (lent_program t c l k d) r.next) (rows_used (lent_program t c l k d) r st) ≡ No)
    (record-passed : record_good (lent_program t c l k d) m r st ≡ true) where
  next-within : r.next < c
  unfolding record_good all
  next-within = ltb-true _ _ (both_left (ltb r.next c) _ record-passed)

  row-passed : row_fault (lent_program t c l k d) r.next ≡ false
  unfolding rows_used if_lt row_bad
  row-passed = one-no (row_fault (lent_program t c l k d) r.next) _ (first_good (row_bad (lent_program t c l k d) r.next) r.next _ (rw (lt-ltb _ _ next-within) at rows-passed))

  -- test k of the record
  tested : (j : ℕ) → j < 9 → get_or (
      ltb r.next c
      ∷ frame_ends (row_at t) c r (length st)
      ∷ leb r.top m
      ∷ leb m 65536
      ∷ leb (length st) 16384
      ∷ head_good Bits32 (row_at t) c st r.frame
      ∷ given (eqb (row_at t r.next).kind 4) (leb (get_or st (r.frame + (row_at t r.next).a) 0) m)
      ∷ given (eqb (row_at t r.next).kind 12) (leb (top_at_entry st r.frame) m)
      ∷ given (leaves_frame (row_at t r.next)) (leaves_good Bits32 (row_at t) c m st (suc r.frame) r.frame)
      ∷ []) j true ≡ true
  unfolding record_good
  tested j h = all-at _ j record-passed h

  known : Passed (lent_program t c l k d) r st m
  known =
      record {
        within = next-within;
        row = row-passed;
        callee = row-callee (lent_program t c l k d) r.next row-passed;
        stack = leb-true _ _ (tested 4 (omega arith));
        memory = leb-true _ _ (tested 3 (omega arith));
        leaves = given-then (leaves_frame (row_at t r.next)) _ (tested 8 (omega arith));
        listed = row_listed (lent_program t c l k d) r.next row-passed;
      }

module _ (t : List ℕ) (c : ℕ) (l : List ℕ) (k d : ℕ) (r : Machine) (st : List ℕ) (m : ℕ) where
  abbrev prog : Program
  prog = lent_program t c l k d

  abbrev used : Broken
  used = lowest (row_bad prog r.next) (rows_used prog r st)

  pub passed : within_broken prog r st m ≡ No → Passed prog r st m
  unfolding within_broken with_record
  passed e = known t c l k d r st m (broken-no _ _ e) (good-then (record_good prog m r st) (broken-then used _ e))

  pub resumable : within_resume prog r st m ≡ No → Passed prog r st m
  unfolding within_resume with_record
  resumable e =
      known t c l k d r st m (lower-all prog r used (broken-no _ _ e)) (good-then (record_good prog m r st) (broken-then (not_import prog r used) _ e))

  -- the next statement calls an imported function
  pub resumes-import : within_resume prog r st m ≡ No → importing (row_at t r.next) ≡ true
  unfolding within_resume with_record not_import if_lt if_true
  resumes-import e = by (importing (row_at t r.next)) refl
    where
      by : (q : Bool) → importing (row_at t r.next) ≡ q → q ≡ true
      by true h = refl
      by false h = lower-some r.next used (false ≡ true) (rw (lt-ltb _ _ (resumable e).within, h) at (broken-no _ _ e))

-- ---- a good way out

module _ (w : Width) (f : ℕ → Row) (c m : ℕ) (st : List ℕ) where
  -- a called frame: the call is a row, the caller's frame does not start behind it
  called-row : (s : ℕ) → called_from f c st s ≡ true → returns_to st s < c
  unfolding called_from
  called-row s e = ltb-true _ _ (both_left (ltb (returns_to st s) c) _ e)

  called-below : (s : ℕ) → called_from f c st s ≡ true → caller_frame st s ≤ s
  unfolding called_from
  called-below s e =
      let d = eqb-true (caller_frame st s + size_at f c (returns_to st s)) s
      (both_right (is_calling (f (returns_to st s))) _ (both_right (in_function f c (returns_to st s)) _ (both_right (ltb (returns_to st s) c) _ e))) in
      omega arith

  -- a frame with a good head is the first or was called
  head-called : (s : ℕ) → head_good w f c st s ≡ true → is_first w st s ≡ false → called_from f c st s ≡ true
  unfolding head_good
  head-called s e d = one-second (is_first w st s) (called_from f c st s) e d

  record Out (s i u : ℕ) : Type 0 where
    low : i < c
    below : u ≤ s

  out : (fuel s i v u top : ℕ) → leaves_good w f c m st fuel s ≡ true → resumption_of w f c st fuel s ≡ Caller i v u top → Out s i u
  unfolding leaves_good resumption_of if_true
  out zero s i v u top e d = true-false (sym e)
  out (suc fuel) s i v u top e d =
      at (is_first w st s) (passes_on w f c st s) refl (both_right (leb (top_at_entry st s) m) _ (both_right (head_good w f c st s) _ e)) d
      (out fuel (caller_frame st s) i v u top)
    where
      called : is_first w st s ≡ false → called_from f c st s ≡ true
      called q = head-called s (both_left (head_good w f c st s) _ e) q

      on : called_from f c st s ≡ true → Caller (returns_to st s) (caller_frame st s) s (top_at_entry st s) ≡ Caller i v u top → Out s i u
      on q g =
          let a : returns_to st s ≡ i = cc in
          let b : s ≡ u = cc in
          record { low = rw a at (called-row s q); below = omega arith }

      further : called_from f c st s ≡ true → Out (caller_frame st s) i u → Out s i u
      further q o = let h = called-below s q in record { low = o.low; below = omega (arith, o.below) }

      at : (p q : Bool) → is_first w st s ≡ p → if_true q (leaves_good w f c m st fuel (caller_frame st s)) true ≡ true
          → if_true p (Ends (top_at_entry st s))
          (if_true q (resumption_of w f c st fuel (caller_frame st s)) (Caller (returns_to st s) (caller_frame st s) s (top_at_entry st s))) ≡ Caller i v u top
          → (leaves_good w f c m st fuel (caller_frame st s) ≡ true → resumption_of w f c st fuel (caller_frame st s) ≡ Caller i v u top → Out (caller_frame st s) i u)
          → Out s i u
      at true q k a b go = absurd (let z : ◌≡◌ {A = ℕ} 0 1 = cc in omega arith)
      at false true k a b go = further (called k) (go a b)
      at false false k a b go = on (called k) b

  -- a good return resumes behind a call of the table
  pub caller-low : (fuel s i v u top : ℕ) → leaves_good w f c m st fuel s ≡ true → resumption_of w f c st fuel s ≡ Caller i v u top → i < c
  caller-low fuel s i v u top e d = (out fuel s i v u top e d).low

  -- and at or below the frame left
  pub caller-below : (fuel s i v u top : ℕ) → leaves_good w f c m st fuel s ≡ true → resumption_of w f c st fuel s ≡ Caller i v u top → u ≤ s
  caller-below fuel s i v u top e d = (out fuel s i v u top e d).below
