-- One law for each way through a function, numbered as its returns.
-- Assumes nothing.
use mathlib.Core.Path.{◌≡◌, ◌∙◌, ap}
use Prim.Native.Nat.{ℕ, ◌≤◌, ◌<◌}
use mathlib.Core.Bool.{Bool, true, false}
use mathlib.Core.List.{List}
use lib.ListN.{take}
use Rattle.base_prelude.specs.Lists.{same_list}
use Rattle.base_limits.specs.declared.Width.TheVariants.{Bits32}
use Rattle.vm_definitions.specs.Access.{store_from}
use Rattle.prog_tables.specs.Hosts.{Hosts}
use Rattle.res_hosts.specs.Marks.{host_list}
use Rattle.res_hosts.specs.Lister.{lister_hosts}
use Rattle.check_source.specs.Check.{Filled, filled, lent, check_of}
use Rattle.std.proofs.Common.{Ok, Err}
use Rattle.check_source.specs.Checked.{Checked, Counts, Refusal}
use Rattle.test_lines.specs.Lines.{starts_with}
use Rattle.test_lines.specs.Sources.{source, is_source}
use Rattle.test_text.specs.Answers.{add_all, rejected_bytes}
use Rattle.std.specs.Prelude.{None, Some}
use Rattle.test_state.specs.declared.Fault.{Fault}
use Rattle.test_state.specs.declared.Fault.TheVariants.{NoAnswer}
use Rattle.test_state.specs.declared.Progress.{Progress}
use Rattle.test_state.specs.Progress.{on, failed_of, checked_of, answered_of, unanswered_of, counted_of}
use Rattle.test_state.specs.Source.{body-word, close_body, read_source}
use Rattle.test_state.specs.Views.{read_memory, read_stack, read_answer, read_view}
use Rattle.test_state.specs.Changes.{changed, read_change}
use Rattle.base_prelude.proofs.Choice.{tests}
use Rattle.test_cases.specs.Checks.{with_checked, full_tables, kept, kept_in, check_source, once, check_once}
use Rattle.test_calls.specs.Calls.{ran, run-word, resume-word, step-word, is_start, read_call}
use Rattle.test_cases.specs.Lines.{begun-word, refused-word, broken-word, going-word, finished-word, stopped-word, paused-word, rejected-word, record-word, words-word, holds-word, same_word, memory_word, stack-word, is_call, is_answer, is_view, is_text, done, is_fault, read_checked, lined, read_behind, read_line}

-- `with_checked`
module _ (x : Checked) (q z : Progress) (got : List ℕ) where
  pub checked-accepted : (p : Counts) → x ≡ Ok p → z ≡ counted_of q p.statements p.labels p.size → on z got ≡ with_checked x q got
  unfolding with_checked
  checked-accepted p e f = rw (e, f)

  pub checked_refused : (r : Refusal) (n : ℕ) (u : List ℕ) → x ≡ Err r → source n u ≡ add_all (rejected_bytes r.number r.place) (source 0 got) → z ≡ answered_of q n
      → on z u ≡ with_checked x q got
  unfolding with_checked
  checked_refused r n u e f g = rw (e, ← f, g)

pub ruleset with-checked-ways = (checked-accepted, checked_refused)

-- `check_source`
lent_is : (l m n o p : ℕ) → l ≡ 32768 → m ≡ 27648 → n ≡ 1024 → o ≡ 16384 → p ≡ 32768 → lent l m n o p ≡ full_tables
unfolding full_tables
lent_is l m n o p hl hm hn ho hp = rw (hl, hm, hn, ho, hp)

lister-check : (s hs hn : List ℕ) (y : Filled) (l m n o p : ℕ) → l ≡ 32768 → m ≡ 27648 → n ≡ 1024 → o ≡ 16384 → p ≡ 32768 → hs ≡ lister_hosts.words → hn ≡ lister_hosts.names
    → y ≡ check_of Bits32 (host_list hs hn) s (lent l m n o p) → y ≡ check_of Bits32 lister_hosts s full_tables
lister-check s hs hn y l m n o p hl hm hn' ho hp w v e =
    let h : host_list hs hn ≡ lister_hosts = rw (w, v) in
    e ∙ ap (λ (z : Hosts). check_of Bits32 z s (lent l m n o p)) h ∙ ap (check_of Bits32 lister_hosts s) (lent_is l m n o p hl hm hn' ho hp)

pub check-source-is : (s t b : List ℕ) (x : Checked) (hs hn tokens rows labels names bytes t1 t2 b1 b2 : List ℕ) (l m n o p : ℕ) → l ≡ 32768 → m ≡ 27648 → n ≡ 1024 → o ≡ 16384 → p ≡ 32768
    → hs ≡ lister_hosts.words → hn ≡ lister_hosts.names → filled x tokens rows labels names bytes ≡ check_of Bits32 (host_list hs hn) s (lent l m n o p) → t1 ≡ store_from t 0 rows
    → t2 ≡ store_from t1 27648 labels → b1 ≡ store_from b 0 names → b2 ≡ store_from b1 16384 bytes → kept x t2 b2 ≡ check_source s t b
unfolding check_source
check-source-is s t b x hs hn tokens rows labels names bytes t1 t2 b1 b2 l m n o p hl hm hn' ho hp w v e f1 f2 g1 g2 =
    rw (f2, f1, g2, g1) (ap (λ (y : Filled). kept_in y t b) (lister-check s hs hn (filled x tokens rows labels names bytes) l m n o p hl hm hn' ho hp w v e))

-- `check_once`
module _ (q : Progress) (text : List ℕ) (got : List ℕ) (t : List ℕ) (b : List ℕ) where
  pub check-once-1 : q.is_checked ≡ true → once q text got t b ≡ check_once q text got t b
  unfolding check_once
  check-once-1 h0 = search tests

  pub check-once-2 : q.is_checked ≡ false → (o : Progress) → (u : List ℕ) → on o u ≡ close_body q text → (c : Progress) → c ≡ checked_of o → (s : List ℕ) → s ≡ take (c.size) u → (x : Checked) → (v : List ℕ) → (w : List ℕ) → kept x v w ≡ check_source s t b → (z : Progress) → (g : List ℕ) → on z g ≡ with_checked x c got → once z u g v w ≡ check_once q text got t b
  unfolding check_once
  check-once-2 h0 o u p0 c p1 s p2 x v w p3 z g p4 = rw (← p0, ← p1, ← p2, ← p3, ← p4) (search tests)

pub ruleset check-once-ways = (check-once-1, check-once-2)

-- `is_call`
module _ (l : List ℕ) where
  pub is-call-1 : (a : Bool) → a ≡ is_start l → a ≡ true → true ≡ is_call l
  unfolding is_call
  is-call-1 a p0 h0 = rw (← p0) (search tests)

  pub is-call-2 : (a : Bool) → a ≡ is_start l → a ≡ false → (b : Bool) → b ≡ starts_with l run-word → b ≡ true → true ≡ is_call l
  unfolding is_call
  is-call-2 a p0 h0 b p1 h1 = rw (← p0, ← p1) (search tests)

  pub is-call-3 : (a : Bool) → a ≡ is_start l → a ≡ false → (b : Bool) → b ≡ starts_with l run-word → b ≡ false → (c : Bool) → c ≡ starts_with l resume-word → c ≡ true → true ≡ is_call l
  unfolding is_call
  is-call-3 a p0 h0 b p1 h1 c p2 h2 = rw (← p0, ← p1, ← p2) (search tests)

  pub is-call-4 : (a : Bool) → a ≡ is_start l → a ≡ false → (b : Bool) → b ≡ starts_with l run-word → b ≡ false → (c : Bool) → c ≡ starts_with l resume-word → c ≡ false → (r : Bool) → r ≡ same_list l step-word → r ≡ is_call l
  unfolding is_call
  is-call-4 a p0 h0 b p1 h1 c p2 h2 r p3 = rw (← p0, ← p1, ← p2, ← p3) (search tests)

pub ruleset is_call_ways = (is-call-1, is-call-2, is-call-3, is-call-4)

-- `is_answer`
module _ (l : List ℕ) where
  pub is-answer-1 : (a : Bool) → a ≡ starts_with l begun-word → a ≡ true → true ≡ is_answer l
  unfolding is_answer
  is-answer-1 a p0 h0 = rw (← p0) (search tests)

  pub is-answer-2 : (a : Bool) → a ≡ starts_with l begun-word → a ≡ false → (b : Bool) → b ≡ starts_with l refused-word → b ≡ true → true ≡ is_answer l
  unfolding is_answer
  is-answer-2 a p0 h0 b p1 h1 = rw (← p0, ← p1) (search tests)

  pub is-answer-3 : (a : Bool) → a ≡ starts_with l begun-word → a ≡ false → (b : Bool) → b ≡ starts_with l refused-word → b ≡ false → (c : Bool) → c ≡ starts_with l broken-word → c ≡ true → true ≡ is_answer l
  unfolding is_answer
  is-answer-3 a p0 h0 b p1 h1 c p2 h2 = rw (← p0, ← p1, ← p2) (search tests)

  pub is-answer-4 : (a : Bool) → a ≡ starts_with l begun-word → a ≡ false → (b : Bool) → b ≡ starts_with l refused-word → b ≡ false → (c : Bool) → c ≡ starts_with l broken-word → c ≡ false → (d : Bool) → d ≡ starts_with l going-word → d ≡ true → true ≡ is_answer l
  unfolding is_answer
  is-answer-4 a p0 h0 b p1 h1 c p2 h2 d p3 h3 = rw (← p0, ← p1, ← p2, ← p3) (search tests)

  pub is-answer-5 : (a : Bool) → a ≡ starts_with l begun-word → a ≡ false → (b : Bool) → b ≡ starts_with l refused-word → b ≡ false → (c : Bool) → c ≡ starts_with l broken-word → c ≡ false → (d : Bool) → d ≡ starts_with l going-word → d ≡ false → (e : Bool) → e ≡ starts_with l finished-word → e ≡ true → true ≡ is_answer l
  unfolding is_answer
  is-answer-5 a p0 h0 b p1 h1 c p2 h2 d p3 h3 e p4 h4 = rw (← p0, ← p1, ← p2, ← p3, ← p4) (search tests)

  pub is-answer-6 : (a : Bool) → a ≡ starts_with l begun-word → a ≡ false → (b : Bool) → b ≡ starts_with l refused-word → b ≡ false → (c : Bool) → c ≡ starts_with l broken-word → c ≡ false → (d : Bool) → d ≡ starts_with l going-word → d ≡ false → (e : Bool) → e ≡ starts_with l finished-word → e ≡ false → (f : Bool) → f ≡ starts_with l stopped-word → f ≡ true → true ≡ is_answer l
  unfolding is_answer
  is-answer-6 a p0 h0 b p1 h1 c p2 h2 d p3 h3 e p4 h4 f p5 h5 = rw (← p0, ← p1, ← p2, ← p3, ← p4, ← p5) (search tests depth 16)

  pub is-answer-7 : (a : Bool) → a ≡ starts_with l begun-word → a ≡ false → (b : Bool) → b ≡ starts_with l refused-word → b ≡ false → (c : Bool) → c ≡ starts_with l broken-word → c ≡ false → (d : Bool) → d ≡ starts_with l going-word → d ≡ false → (e : Bool) → e ≡ starts_with l finished-word → e ≡ false → (f : Bool) → f ≡ starts_with l stopped-word → f ≡ false → (g : Bool) → g ≡ starts_with l paused-word → g ≡ true → true ≡ is_answer l
  unfolding is_answer
  is-answer-7 a p0 h0 b p1 h1 c p2 h2 d p3 h3 e p4 h4 f p5 h5 g p6 h6 = rw (← p0, ← p1, ← p2, ← p3, ← p4, ← p5, ← p6) (search tests depth 16)

  pub is-answer-8 : (a : Bool) → a ≡ starts_with l begun-word → a ≡ false → (b : Bool) → b ≡ starts_with l refused-word → b ≡ false → (c : Bool) → c ≡ starts_with l broken-word → c ≡ false → (d : Bool) → d ≡ starts_with l going-word → d ≡ false → (e : Bool) → e ≡ starts_with l finished-word → e ≡ false → (f : Bool) → f ≡ starts_with l stopped-word → f ≡ false → (g : Bool) → g ≡ starts_with l paused-word → g ≡ false → (r : Bool) → r ≡ starts_with l rejected-word → r ≡ is_answer l
  unfolding is_answer
  is-answer-8 a p0 h0 b p1 h1 c p2 h2 d p3 h3 e p4 h4 f p5 h5 g p6 h6 r p7 = rw (← p0, ← p1, ← p2, ← p3, ← p4, ← p5, ← p6, ← p7) (search tests depth 20)

pub ruleset is_answer_ways = (is-answer-1, is-answer-2, is-answer-3, is-answer-4, is-answer-5, is-answer-6, is-answer-7, is-answer-8)

-- `is_view`
module _ (l : List ℕ) where
  pub is-view-1 : (a : Bool) → a ≡ starts_with l record-word → a ≡ true → true ≡ is_view l
  unfolding is_view
  is-view-1 a p0 h0 = rw (← p0) (search tests)

  pub is-view-2 : (a : Bool) → a ≡ starts_with l record-word → a ≡ false → (b : Bool) → b ≡ starts_with l words-word → b ≡ true → true ≡ is_view l
  unfolding is_view
  is-view-2 a p0 h0 b p1 h1 = rw (← p0, ← p1) (search tests)

  pub is-view-3 : (a : Bool) → a ≡ starts_with l record-word → a ≡ false → (b : Bool) → b ≡ starts_with l words-word → b ≡ false → (c : Bool) → c ≡ starts_with l holds-word → c ≡ true → true ≡ is_view l
  unfolding is_view
  is-view-3 a p0 h0 b p1 h1 c p2 h2 = rw (← p0, ← p1, ← p2) (search tests)

  pub is-view-4 : (a : Bool) → a ≡ starts_with l record-word → a ≡ false → (b : Bool) → b ≡ starts_with l words-word → b ≡ false → (c : Bool) → c ≡ starts_with l holds-word → c ≡ false → (r : Bool) → r ≡ starts_with l same_word → r ≡ is_view l
  unfolding is_view
  is-view-4 a p0 h0 b p1 h1 c p2 h2 r p3 = rw (← p0, ← p1, ← p2, ← p3) (search tests)

pub ruleset is_view_ways = (is-view-1, is-view-2, is-view-3, is-view-4)

-- `is_text`
module _ (l : List ℕ) where
  pub is-text-1 : (a : Bool) → a ≡ is_source l → a ≡ true → true ≡ is_text l
  unfolding is_text
  is-text-1 a p0 h0 = rw (← p0) (search tests)

  pub is-text-2 : (a : Bool) → a ≡ is_source l → a ≡ false → (r : Bool) → r ≡ starts_with l body-word → r ≡ is_text l
  unfolding is_text
  is-text-2 a p0 h0 r p1 = rw (← p0, ← p1) (search tests)

pub ruleset is_text_ways = (is-text-1, is-text-2)

-- `read_checked`
module _ (l : List ℕ) (q : Progress) (got : List ℕ) (t : List ℕ) (b : List ℕ) (k : List ℕ) (m : List ℕ) where
  pub read-checked-1 : (a : Bool) → a ≡ is_answer l → a ≡ true → (z : Progress) → (g : List ℕ) → on z g ≡ read_answer l q got → done z g t b k m ≡ read_checked l q got t b k m
  unfolding read_checked
  read-checked-1 a p0 h0 z g p1 = rw (← p0, ← p1) (search tests)

  pub read-checked-2 : (a : Bool) → a ≡ is_answer l → a ≡ false → 0 < q.given → (n : Progress) → n ≡ unanswered_of q → (z : Progress) → z ≡ failed_of n NoAnswer → done z got t b k m ≡ read_checked l q got t b k m
  unfolding read_checked
  read-checked-2 a p0 h0 h1 n p1 z p2 = rw (← p0, ← p1, ← p2) (search tests)

  pub read-checked-3 : (a : Bool) → a ≡ is_answer l → a ≡ false → q.given ≤ 0 → (c : Bool) → c ≡ is_call l → c ≡ true → (z : Progress) → (g : List ℕ) → (u : List ℕ) → (v : List ℕ) → ran z g u v ≡ read_call l q got t b k m → done z g t b u v ≡ read_checked l q got t b k m
  unfolding read_checked
  read-checked-3 a p0 h0 h1 c p1 h2 z g u v p2 = rw (← p0, ← p1, ← p2) (search tests)

  pub read-checked-4 : (a : Bool) → a ≡ is_answer l → a ≡ false → q.given ≤ 0 → (c : Bool) → c ≡ is_call l → c ≡ false → (d : Bool) → d ≡ is_view l → d ≡ true → (z : Progress) → (g : List ℕ) → on z g ≡ read_view l q got k m → done z g t b k m ≡ read_checked l q got t b k m
  unfolding read_checked
  read-checked-4 a p0 h0 h1 c p1 h2 d p2 h3 z g p3 = rw (← p0, ← p1, ← p2, ← p3) (search tests)

  pub read-checked-5 : (a : Bool) → a ≡ is_answer l → a ≡ false → q.given ≤ 0 → (c : Bool) → c ≡ is_call l → c ≡ false → (d : Bool) → d ≡ is_view l → d ≡ false → (z : Progress) → (r : List ℕ) → (s : List ℕ) → (u : List ℕ) → (v : List ℕ) → changed z r s u v ≡ read_change l q t b k m → done z got r s u v ≡ read_checked l q got t b k m
  unfolding read_checked
  read-checked-5 a p0 h0 h1 c p1 h2 d p2 h3 z r s u v p3 = rw (← p0, ← p1, ← p2, ← p3) (search tests)

pub ruleset read-checked-ways = (read-checked-1, read-checked-2, read-checked-3, read-checked-4, read-checked-5)

-- `read_behind`
module _ (l : List ℕ) (q : Progress) (text : List ℕ) (got : List ℕ) (t : List ℕ) (b : List ℕ) (k : List ℕ) (m : List ℕ) where
  pub read-behind-1 : (o : Progress) → (e : List ℕ) → (f : List ℕ) → (r : List ℕ) → (s : List ℕ) → once o e f r s ≡ check_once q text got t b → (h : Fault) → o.fault ≡ Some h → lined o e f r s k m ≡ read_behind l q text got t b k m
  unfolding read_behind
  read-behind-1 o e f r s p0 h h0 = let g : is_fault o.fault ≡ true = ap is_fault h0 in rw (← p0) (search tests)

  pub read-behind-2 : (o : Progress) → (e : List ℕ) → (f : List ℕ) → (r : List ℕ) → (s : List ℕ) → once o e f r s ≡ check_once q text got t b → o.fault ≡ None → (z : Progress) → (g : List ℕ) → (t1 : List ℕ) → (b1 : List ℕ) → (u : List ℕ) → (v : List ℕ) → done z g t1 b1 u v ≡ read_checked l o f r s k m → lined z e g t1 b1 u v ≡ read_behind l q text got t b k m
  unfolding read_behind
  read-behind-2 o e f r s p0 h0 z g t1 b1 u v p1 = let h : is_fault o.fault ≡ false = ap is_fault h0 in rw (← p0, ← p1) (search tests)

pub ruleset read-behind-ways = (read-behind-1, read-behind-2)

-- `read_line`
module _ (l : List ℕ) (q : Progress) (text : List ℕ) (got : List ℕ) (t : List ℕ) (b : List ℕ) (k : List ℕ) (m : List ℕ) where
  pub read-line-1 : (a : Bool) → a ≡ is_text l → a ≡ true → (z : Progress) → (u : List ℕ) → on z u ≡ read_source l q text → lined z u got t b k m ≡ read_line l q text got t b k m
  unfolding read_line
  read-line-1 a p0 h0 z u p1 = rw (← p0, ← p1) (search tests)

  pub read-line-2 : (a : Bool) → a ≡ is_text l → a ≡ false → (c : Bool) → c ≡ starts_with l memory_word → c ≡ true → (z : Progress) → (u : List ℕ) → on z u ≡ read_memory l q m → lined z text got t b k u ≡ read_line l q text got t b k m
  unfolding read_line
  read-line-2 a p0 h0 c p1 h1 z u p2 = rw (← p0, ← p1, ← p2) (search tests)

  pub read-line-3 : (a : Bool) → a ≡ is_text l → a ≡ false → (c : Bool) → c ≡ starts_with l memory_word → c ≡ false → (d : Bool) → d ≡ starts_with l stack-word → d ≡ true → (z : Progress) → (u : List ℕ) → on z u ≡ read_stack l q k → lined z text got t b u m ≡ read_line l q text got t b k m
  unfolding read_line
  read-line-3 a p0 h0 c p1 h1 d p2 h2 z u p3 = rw (← p0, ← p1, ← p2, ← p3) (search tests)

  pub read-line-4 : (a : Bool) → a ≡ is_text l → a ≡ false → (c : Bool) → c ≡ starts_with l memory_word → c ≡ false → (d : Bool) → d ≡ starts_with l stack-word → d ≡ false → (z : Progress) → (e : List ℕ) → (g : List ℕ) → (r : List ℕ) → (s : List ℕ) → (u : List ℕ) → (v : List ℕ) → lined z e g r s u v ≡ read_behind l q text got t b k m → lined z e g r s u v ≡ read_line l q text got t b k m
  unfolding read_line
  read-line-4 a p0 h0 c p1 h1 d p2 h2 z e g r s u v p3 = rw (← p0, ← p1, ← p2, ← p3) (search tests)

pub ruleset read-line-ways = (read-line-1, read-line-2, read-line-3, read-line-4)
