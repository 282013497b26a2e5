-- One law for each way through a function, numbered as its returns.
-- Assumes nothing.
use mathlib.Core.Path.{◌≡◌}
use Prim.Native.Nat.{ℕ, ◌+◌, ◌-◌, ◌*◌, ◌%◌, ◌≤◌, ◌<◌}
use mathlib.Core.Bool.{Bool, true, false}
use Rattle.std.specs.Prelude.{None}
use mathlib.Core.List.{List}
use lib.ListN.{take, set, replicate}
use Rattle.base_prelude.specs.Lists.{same_list}
use Rattle.base_limits.specs.declared.Machine.{Machine}
use Rattle.base_limits.specs.Record.{fresh_of}
use Rattle.vm_definitions.specs.Access.{store_from}
use Rattle.test_lines.specs.Lines.{one_more, starts_with}
use Rattle.test_lines.specs.Fields.{no_number}
use Rattle.test_lines.specs.Sources.{source, add_text, add_line, add_source}
use Rattle.test_text.specs.Fields.{count_fields, has_word}
use Rattle.test_text.specs.Numbers.{field_value, has_values}
use Rattle.test_text.specs.Answers.{add_all, plain_bytes, record_bytes, words_bytes, holds_bytes}
use Rattle.test_text.specs.Records.{is_record_poke, poke_record}
use Rattle.test_text.specs.Buffers.{lesser_of, changed_in, stored, bytes_stored}
use Rattle.base_prelude.proofs.Choice.{tests}
use Rattle.test_state.specs.declared.Lent.{Lent}
use Rattle.test_state.specs.declared.Fault.TheVariants.{BadLine, Differs}
use Rattle.test_state.specs.declared.Progress.{Progress}
use Rattle.test_state.specs.Progress.{on, all_lent, first_of, opened_of, failed_of, sized_of, bodied_of, shown_of, unanswered_of, counted_of, lent_of, machine_of}
use Rattle.test_state.specs.Source.{body-word, body-head, body_end, with_size, open_body, close_body, read_body, read_source}
use Rattle.test_state.specs.Views.{rejected-word, accepted-word, words-word, holds-word, record-word, same_word, words-line, holds-line, stack_lent, memory_lent, read_memory, read_stack, compare_texts, blank, compare_line, read_accepted, read_answer, view_words, view_bytes, add_change, read_view}
use Rattle.test_state.specs.Changes.{bytes_word, poke-word, count_word, lend-word, poke-statement-word, poke-label-word, poke-name-word, poke-stack-word, poke-record-word, statements-word, labels-word, data-word, names-word, read_bytes, poke_statement, poke_label, poke_name, poke_stack, poke_machine, poked, read_poke, count_part, read_count, lend_part, lend_statements, lend_labels, lend_names, lend_bytes, read_lend, changed, read_change}

-- `first`, `open_case`
pub first-is : (a : Lent) (r : Machine) → a ≡ all_lent → r ≡ fresh_of 0 0 0 → record { line = 0; cases = 0; differ = 0; name = 0; size = 0; is_body = false; is_checked = false; is_wrong = false; given = 0; told = 0; fault = None; shown = 0; lent = a; counts = record { statements = 0; labels = 0; bytes = 0 }; machine = r } ≡ first_of
unfolding first_of
first-is a r e f = rw (e, f)

pub opened-is : (q f : Progress) (name n : ℕ) → f ≡ first_of → n ≡ one_more q.cases → record { line = q.line; cases = n; differ = q.differ; name = name; size = f.size; is_body = f.is_body; is_checked = f.is_checked; is_wrong = f.is_wrong; given = f.given; told = f.told; fault = f.fault; shown = f.shown; lent = f.lent; counts = f.counts; machine = f.machine } ≡ opened_of q name
unfolding opened_of first_of
opened-is q f name n e g = rw (e, g)

-- `with_size`
module _ (q : Progress) (size : ℕ) where
  pub with-size-1 : q.is_checked ≡ true → (z : Progress) → z ≡ failed_of q BadLine → z ≡ with_size q size
  unfolding with_size
  with-size-1 h0 z p0 = rw (← p0) (search tests)

  pub with-size-2 : q.is_checked ≡ false → 16401 ≤ size → (z : Progress) → z ≡ failed_of q BadLine → z ≡ with_size q size
  unfolding with_size
  with-size-2 h0 h1 z p0 = rw (← p0) (search tests)

  pub with-size-3 : q.is_checked ≡ false → size < 16401 → (z : Progress) → z ≡ sized_of q size → z ≡ with_size q size
  unfolding with_size
  with-size-3 h0 h1 z p0 = rw (← p0) (search tests)

pub ruleset with-size-ways = (with-size-1, with-size-2, with-size-3)

-- `open_body`
module _ (q : Progress) (text : List ℕ) where
  pub open-body-1 : q.is_body ≡ true → on q text ≡ open_body q text
  unfolding open_body
  open-body-1 h0 = search tests

  pub open-body-2 : q.is_body ≡ false → (n : ℕ) → (u : List ℕ) → source n u ≡ add_text body-head 0 (source q.size text) → (b : Progress) → b ≡ bodied_of q true → (z : Progress) → z ≡ with_size b n → on z u ≡ open_body q text
  unfolding open_body
  open-body-2 h0 n u p0 b p1 z p2 = rw (← p0, ← p1, ← p2) (search tests)

pub ruleset open-body-ways = (open-body-1, open-body-2)

-- `close_body`
module _ (q : Progress) (text : List ℕ) where
  pub close-body-1 : q.is_body ≡ true → (n : ℕ) → (u : List ℕ) → source n u ≡ add_text body_end 0 (source q.size text) → (b : Progress) → b ≡ bodied_of q false → (z : Progress) → z ≡ with_size b n → on z u ≡ close_body q text
  unfolding close_body
  close-body-1 h0 n u p0 b p1 z p2 = rw (← p0, ← p1, ← p2) (search tests)

  pub close-body-2 : q.is_body ≡ false → on q text ≡ close_body q text
  unfolding close_body
  close-body-2 h0 = search tests

pub ruleset close-body-ways = (close-body-1, close-body-2)

-- `read_body`
module _ (l : List ℕ) (q : Progress) (text : List ℕ) where
  pub read-body-is : (o : Progress) → (v : List ℕ) → on o v ≡ open_body q text → (n : ℕ) → (u : List ℕ) → source n u ≡ add_line l 5 (source (o.size) v) → (z : Progress) → z ≡ with_size o n → on z u ≡ read_body l q text
  unfolding read_body
  read-body-is o v p0 n u p1 z p2 = rw (← p0, ← p1, ← p2)

-- `read_source`
module _ (l : List ℕ) (q : Progress) (text : List ℕ) where
  pub read-source-1 : q.is_checked ≡ true → (z : Progress) → z ≡ failed_of q BadLine → on z text ≡ read_source l q text
  unfolding read_source
  read-source-1 h0 z p0 = rw (← p0) (search tests)

  pub read-source-2 : q.is_checked ≡ false → (a : Bool) → a ≡ starts_with l body-word → a ≡ true → (z : Progress) → (u : List ℕ) → on z u ≡ read_body l q text → on z u ≡ read_source l q text
  unfolding read_source
  read-source-2 h0 a p0 h1 z u p1 = rw (← p0, ← p1) (search tests)

  pub read-source-3 : q.is_checked ≡ false → (a : Bool) → a ≡ starts_with l body-word → a ≡ false → (n : ℕ) → (u : List ℕ) → source n u ≡ add_source l (source q.size text) → (z : Progress) → z ≡ with_size q n → on z u ≡ read_source l q text
  unfolding read_source
  read-source-3 h0 a p0 h1 n u p1 z p2 = rw (← p0, ← p1, ← p2) (search tests)

pub ruleset read-source-ways = (read-source-1, read-source-2, read-source-3)

-- `with_stack`
module _ (q : Progress) (n : ℕ) where
  pub with-stack-is : (z : Progress) → z ≡ lent_of q (record { statements = q.lent.statements; labels = q.lent.labels; names = q.lent.names; bytes = q.lent.bytes; stack = n; memory = q.lent.memory }) → z ≡ stack_lent q n
  unfolding stack_lent
  with-stack-is z p0 = rw (← p0)

-- `with_memory`
module _ (q : Progress) (n : ℕ) where
  pub with-memory-is : (z : Progress) → z ≡ lent_of q (record { statements = q.lent.statements; labels = q.lent.labels; names = q.lent.names; bytes = q.lent.bytes; stack = q.lent.stack; memory = n }) → z ≡ memory_lent q n
  unfolding memory_lent
  with-memory-is z p0 = rw (← p0)

-- `read_memory`
module _ (l : List ℕ) (q : Progress) (m : List ℕ) where
  pub read-memory-1 : (c : ℕ) → c ≡ count_fields l → (c ≡ 2 → ⊥) → (z : Progress) → z ≡ failed_of q BadLine → on z m ≡ read_memory l q m
  unfolding read_memory
  read-memory-1 c p0 h0 z p1 = rw (← p0, ← p1) (search tests)

  pub read-memory-2 : (c : ℕ) → c ≡ count_fields l → c ≡ 2 → (n : ℕ) → n ≡ field_value l 1 → 65537 < n → (z : Progress) → z ≡ failed_of q BadLine → on z m ≡ read_memory l q m
  unfolding read_memory
  read-memory-2 c p0 h0 n p1 h1 z p2 = rw (← p0, ← p1, ← p2) (search tests)

  pub read-memory-3 : (c : ℕ) → c ≡ count_fields l → c ≡ 2 → (n : ℕ) → n ≡ field_value l 1 → n ≤ 65537 → (u : List ℕ) → u ≡ store_from m n (replicate (65537 - n) 0) → (z : Progress) → z ≡ memory_lent q n → on z u ≡ read_memory l q m
  unfolding read_memory
  read-memory-3 c p0 h0 n p1 h1 u p2 z p3 = rw (← p0, ← p1, ← p2, ← p3) (search tests)

pub ruleset read-memory-ways = (read-memory-1, read-memory-2, read-memory-3)

-- `read_stack`
module _ (l : List ℕ) (q : Progress) (k : List ℕ) where
  pub read-stack-1 : (c : ℕ) → c ≡ count_fields l → (c ≡ 2 → ⊥) → (z : Progress) → z ≡ failed_of q BadLine → on z k ≡ read_stack l q k
  unfolding read_stack
  read-stack-1 c p0 h0 z p1 = rw (← p0, ← p1) (search tests)

  pub read-stack-2 : (c : ℕ) → c ≡ count_fields l → c ≡ 2 → (n : ℕ) → n ≡ field_value l 1 → 16385 < n → (z : Progress) → z ≡ failed_of q BadLine → on z k ≡ read_stack l q k
  unfolding read_stack
  read-stack-2 c p0 h0 n p1 h1 z p2 = rw (← p0, ← p1, ← p2) (search tests)

  pub read-stack-3 : (c : ℕ) → c ≡ count_fields l → c ≡ 2 → (n : ℕ) → n ≡ field_value l 1 → n ≤ 16385 → (u : List ℕ) → u ≡ store_from k n (replicate (16385 - n) 0) → (z : Progress) → z ≡ stack_lent q n → on z u ≡ read_stack l q k
  unfolding read_stack
  read-stack-3 c p0 h0 n p1 h1 u p2 z p3 = rw (← p0, ← p1, ← p2, ← p3) (search tests)

pub ruleset read-stack-ways = (read-stack-1, read-stack-2, read-stack-3)

-- `compare_texts`
module _ (want : List ℕ) (n : ℕ) (q : Progress) (got : List ℕ) (size : ℕ) where
  pub compare-texts-1 : (a : List ℕ) → a ≡ take n want → (b : List ℕ) → b ≡ take size got → (s : Bool) → s ≡ same_list a b → s ≡ true → q ≡ compare_texts want n q got size
  unfolding compare_texts
  compare-texts-1 a p0 b p1 s p2 h0 = rw (← p0, ← p1, ← p2) (search tests)

  pub compare-texts-2 : (a : List ℕ) → a ≡ take n want → (b : List ℕ) → b ≡ take size got → (s : Bool) → s ≡ same_list a b → s ≡ false → (h : Progress) → h ≡ shown_of q size → (z : Progress) → z ≡ failed_of h Differs → z ≡ compare_texts want n q got size
  unfolding compare_texts
  compare-texts-2 a p0 b p1 s p2 h0 h p3 z p4 = rw (← p0, ← p1, ← p2, ← p3, ← p4) (search tests)

pub ruleset compare-texts-ways = (compare-texts-1, compare-texts-2)

-- `compare`
module _ (l : List ℕ) (q : Progress) (got : List ℕ) (size : ℕ) where
  pub compare-1 : (n : ℕ) → (w : List ℕ) → source n w ≡ add_all (plain_bytes l) (source 0 blank) → 16401 ≤ n → (z : Progress) → z ≡ failed_of q BadLine → z ≡ compare_line l q got size
  unfolding compare_line
  compare-1 n w p0 h0 z p1 = rw (← p0, ← p1) (search tests)

  pub compare-2 : (n : ℕ) → (w : List ℕ) → source n w ≡ add_all (plain_bytes l) (source 0 blank) → n < 16401 → (z : Progress) → z ≡ compare_texts w n q got size → z ≡ compare_line l q got size
  unfolding compare_line
  compare-2 n w p0 h0 z p1 = rw (← p0, ← p1) (search tests)

pub ruleset compare-ways = (compare-1, compare-2)

-- `read_accepted`
module _ (l : List ℕ) (q : Progress) (got : List ℕ) where
  pub read-accepted-1 : (a : Bool) → a ≡ starts_with l rejected-word → a ≡ true → (n : ℕ) → (u : List ℕ) → source n u ≡ add_all accepted-word (source 0 got) → (z : Progress) → z ≡ compare_line l q u n → on z u ≡ read_accepted l q got
  unfolding read_accepted
  read-accepted-1 a p0 h0 n u p1 z p2 = rw (← p0, ← p1, ← p2) (search tests)

  pub read-accepted-2 : (a : Bool) → a ≡ starts_with l rejected-word → a ≡ false → (z : Progress) → z ≡ failed_of q BadLine → on z got ≡ read_accepted l q got
  unfolding read_accepted
  read-accepted-2 a p0 h0 z p1 = rw (← p0, ← p1) (search tests)

pub ruleset read-accepted-ways = (read-accepted-1, read-accepted-2)

-- `read_answer`
module _ (l : List ℕ) (q : Progress) (got : List ℕ) where
  pub read-answer-1 : q.given ≡ 0 → (z : Progress) → (u : List ℕ) → on z u ≡ read_accepted l q got → on z u ≡ read_answer l q got
  unfolding read_answer
  read-answer-1 h0 z u p0 = rw (← p0) (search tests)

  pub read-answer-2 : (q.given ≡ 0 → ⊥) → (o : Progress) → o ≡ unanswered_of q → (z : Progress) → z ≡ compare_line l o got q.given → on z got ≡ read_answer l q got
  unfolding read_answer
  read-answer-2 h0 o p0 z p1 = rw (← p0, ← p1) (search tests)

pub ruleset read-answer-ways = (read-answer-1, read-answer-2)

-- `view_words`
module _ (l : List ℕ) (q : Progress) (got : List ℕ) (k : List ℕ) where
  pub view-words-1 : (i : ℕ) → i ≡ field_value l 1 → 16385 ≤ i → (z : Progress) → z ≡ failed_of q BadLine → on z got ≡ view_words l q got k
  unfolding view_words
  view-words-1 i p0 h0 z p1 = rw (← p0, ← p1) (search tests)

  pub view-words-2 : (i : ℕ) → i ≡ field_value l 1 → i < 16385 → (n : ℕ) → n ≡ lesser_of q.lent.stack 16385 → (w : List ℕ) → w ≡ take n k → (s : ℕ) → (u : List ℕ) → source s u ≡ add_all (words_bytes l i w) (source 0 got) → (z : Progress) → z ≡ compare_line l q u s → on z u ≡ view_words l q got k
  unfolding view_words
  view-words-2 i p0 h0 n p1 w p2 s u p3 z p4 = rw (← p0, ← p1, ← p2, ← p3, ← p4) (search tests)

pub ruleset view-words-ways = (view-words-1, view-words-2)

-- `view_bytes`
module _ (l : List ℕ) (q : Progress) (got : List ℕ) (m : List ℕ) where
  pub view-bytes-1 : (i : ℕ) → i ≡ field_value l 1 → 65537 ≤ i → (z : Progress) → z ≡ failed_of q BadLine → on z got ≡ view_bytes l q got m
  unfolding view_bytes
  view-bytes-1 i p0 h0 z p1 = rw (← p0, ← p1) (search tests)

  pub view-bytes-2 : (i : ℕ) → i ≡ field_value l 1 → i < 65537 → (n : ℕ) → n ≡ lesser_of q.lent.memory 65537 → (w : List ℕ) → w ≡ take n m → (s : ℕ) → (u : List ℕ) → source s u ≡ add_all (holds_bytes l i w) (source 0 got) → (z : Progress) → z ≡ compare_line l q u s → on z u ≡ view_bytes l q got m
  unfolding view_bytes
  view-bytes-2 i p0 h0 n p1 w p2 s u p3 z p4 = rw (← p0, ← p1, ← p2, ← p3, ← p4) (search tests)

pub ruleset view-bytes-ways = (view-bytes-1, view-bytes-2)

-- `add_change`
module _ (a : Lent) (got : List ℕ) (k : List ℕ) (m : List ℕ) where
  pub add-change-1 : (n : ℕ) → n ≡ lesser_of a.stack 16385 → (i : ℕ) → i ≡ changed_in 16385 k n → i < n → (w : List ℕ) → w ≡ take n k → (s : ℕ) → (u : List ℕ) → source s u ≡ add_all (words_bytes words-line i w) (source 0 got) → source s u ≡ add_change a got k m
  unfolding add_change
  add-change-1 n p0 i p1 h0 w p2 s u p3 = rw (← p0, ← p1, ← p2, ← p3) (search tests)

  pub add-change-2 : (n : ℕ) → n ≡ lesser_of a.stack 16385 → (i : ℕ) → i ≡ changed_in 16385 k n → n ≤ i → (h : ℕ) → h ≡ lesser_of a.memory 65537 → (j : ℕ) → j ≡ changed_in 65537 m h → j < h → (w : List ℕ) → w ≡ take h m → (s : ℕ) → (u : List ℕ) → source s u ≡ add_all (holds_bytes holds-line j w) (source 0 got) → source s u ≡ add_change a got k m
  unfolding add_change
  add-change-2 n p0 i p1 h0 h p2 j p3 h1 w p4 s u p5 = rw (← p0, ← p1, ← p2, ← p3, ← p4, ← p5) (search tests)

  pub add-change-3 : (n : ℕ) → n ≡ lesser_of a.stack 16385 → (i : ℕ) → i ≡ changed_in 16385 k n → n ≤ i → (h : ℕ) → h ≡ lesser_of a.memory 65537 → (j : ℕ) → j ≡ changed_in 65537 m h → h ≤ j → (s : ℕ) → (u : List ℕ) → source s u ≡ add_all same_word (source 0 got) → source s u ≡ add_change a got k m
  unfolding add_change
  add-change-3 n p0 i p1 h0 h p2 j p3 h1 s u p4 = rw (← p0, ← p1, ← p2, ← p3, ← p4) (search tests)

pub ruleset add-change-ways = (add-change-1, add-change-2, add-change-3)

-- `read_view`
module _ (l : List ℕ) (q : Progress) (got : List ℕ) (k : List ℕ) (m : List ℕ) where
  pub read-view-1 : (a : Bool) → a ≡ starts_with l words-word → a ≡ true → (z : Progress) → (u : List ℕ) → on z u ≡ view_words l q got k → on z u ≡ read_view l q got k m
  unfolding read_view
  read-view-1 a p0 h0 z u p1 = rw (← p0, ← p1) (search tests)

  pub read-view-2 : (a : Bool) → a ≡ starts_with l words-word → a ≡ false → (b : Bool) → b ≡ starts_with l holds-word → b ≡ true → (z : Progress) → (u : List ℕ) → on z u ≡ view_bytes l q got m → on z u ≡ read_view l q got k m
  unfolding read_view
  read-view-2 a p0 h0 b p1 h1 z u p2 = rw (← p0, ← p1, ← p2) (search tests)

  pub read-view-3 : (a : Bool) → a ≡ starts_with l words-word → a ≡ false → (b : Bool) → b ≡ starts_with l holds-word → b ≡ false → (c : Bool) → c ≡ starts_with l record-word → c ≡ true → (s : ℕ) → (u : List ℕ) → source s u ≡ add_all (record_bytes q.machine) (source 0 got) → (z : Progress) → z ≡ compare_line l q u s → on z u ≡ read_view l q got k m
  unfolding read_view
  read-view-3 a p0 h0 b p1 h1 c p2 h2 s u p3 z p4 = rw (← p0, ← p1, ← p2, ← p3, ← p4) (search tests)

  pub read-view-4 : (a : Bool) → a ≡ starts_with l words-word → a ≡ false → (b : Bool) → b ≡ starts_with l holds-word → b ≡ false → (c : Bool) → c ≡ starts_with l record-word → c ≡ false → (s : ℕ) → (u : List ℕ) → source s u ≡ add_change q.lent got k m → (z : Progress) → z ≡ compare_line l q u s → on z u ≡ read_view l q got k m
  unfolding read_view
  read-view-4 a p0 h0 b p1 h1 c p2 h2 s u p3 z p4 = rw (← p0, ← p1, ← p2, ← p3, ← p4) (search tests)

pub ruleset read-view-ways = (read-view-1, read-view-2, read-view-3, read-view-4)

-- `read_bytes`
module _ (l : List ℕ) (q : Progress) (m : List ℕ) where
  pub read-bytes-1 : (i : ℕ) → i ≡ field_value l 1 → 65537 ≤ i → (z : Progress) → z ≡ failed_of q BadLine → on z m ≡ read_bytes l q m
  unfolding read_bytes
  read-bytes-1 i p0 h0 z p1 = rw (← p0, ← p1) (search tests)

  pub read-bytes-2 : (i : ℕ) → i ≡ field_value l 1 → i < 65537 → (d : Bool) → (u : List ℕ) → stored d u ≡ bytes_stored l i q.lent.memory m → d ≡ true → on q u ≡ read_bytes l q m
  unfolding read_bytes
  read-bytes-2 i p0 h0 d u p1 h1 = rw (← p0, ← p1) (search tests)

  pub read-bytes-3 : (i : ℕ) → i ≡ field_value l 1 → i < 65537 → (d : Bool) → (u : List ℕ) → stored d u ≡ bytes_stored l i q.lent.memory m → d ≡ false → (z : Progress) → z ≡ failed_of q BadLine → on z u ≡ read_bytes l q m
  unfolding read_bytes
  read-bytes-3 i p0 h0 d u p1 h1 z p2 = rw (← p0, ← p1, ← p2) (search tests)

pub ruleset read-bytes-ways = (read-bytes-1, read-bytes-2, read-bytes-3)

-- `poke_statement`
module _ (l : List ℕ) (q : Progress) (t : List ℕ) where
  pub poke-statement-1 : (i : ℕ) → i ≡ field_value l 2 → 1024 ≤ i → (z : Progress) → z ≡ failed_of q BadLine → on z t ≡ poke_statement l q t
  unfolding poke_statement
  poke-statement-1 i p0 h0 z p1 = rw (← p0, ← p1) (search tests)

  pub poke-statement-2 : (i : ℕ) → i ≡ field_value l 2 → i < 1024 → (j : ℕ) → j ≡ field_value l 3 → 27 ≤ j → (z : Progress) → z ≡ failed_of q BadLine → on z t ≡ poke_statement l q t
  unfolding poke_statement
  poke-statement-2 i p0 h0 j p1 h1 z p2 = rw (← p0, ← p1, ← p2) (search tests)

  pub poke-statement-3 : (i : ℕ) → i ≡ field_value l 2 → i < 1024 → (j : ℕ) → j ≡ field_value l 3 → j < 27 → (h : Bool) → h ≡ has_values l 4 5 → h ≡ true → (n : ℕ) → n ≡ field_value l 4 → (v : ℕ) → v ≡ n % no_number → on q (set t (i * 27 + j) v) ≡ poke_statement l q t
  unfolding poke_statement
  poke-statement-3 i p0 h0 j p1 h1 h p2 h2 n p3 v p4 = rw (← p0, ← p1, ← p2, ← p3, ← p4) (search tests)

  pub poke-statement-4 : (i : ℕ) → i ≡ field_value l 2 → i < 1024 → (j : ℕ) → j ≡ field_value l 3 → j < 27 → (h : Bool) → h ≡ has_values l 4 5 → h ≡ false → (z : Progress) → z ≡ failed_of q BadLine → on z t ≡ poke_statement l q t
  unfolding poke_statement
  poke-statement-4 i p0 h0 j p1 h1 h p2 h2 z p3 = rw (← p0, ← p1, ← p2, ← p3) (search tests)

pub ruleset poke-statement-ways = (poke-statement-1, poke-statement-2, poke-statement-3, poke-statement-4)

-- `poke_label`
module _ (l : List ℕ) (q : Progress) (t : List ℕ) where
  pub poke-label-1 : (i : ℕ) → i ≡ field_value l 2 → 256 ≤ i → (z : Progress) → z ≡ failed_of q BadLine → on z t ≡ poke_label l q t
  unfolding poke_label
  poke-label-1 i p0 h0 z p1 = rw (← p0, ← p1) (search tests)

  pub poke-label-2 : (i : ℕ) → i ≡ field_value l 2 → i < 256 → (j : ℕ) → j ≡ field_value l 3 → 4 ≤ j → (z : Progress) → z ≡ failed_of q BadLine → on z t ≡ poke_label l q t
  unfolding poke_label
  poke-label-2 i p0 h0 j p1 h1 z p2 = rw (← p0, ← p1, ← p2) (search tests)

  pub poke-label-3 : (i : ℕ) → i ≡ field_value l 2 → i < 256 → (j : ℕ) → j ≡ field_value l 3 → j < 4 → (h : Bool) → h ≡ has_values l 4 5 → h ≡ true → (n : ℕ) → n ≡ field_value l 4 → (v : ℕ) → v ≡ n % no_number → on q (set t (i * 4 + j + 27648) v) ≡ poke_label l q t
  unfolding poke_label
  poke-label-3 i p0 h0 j p1 h1 h p2 h2 n p3 v p4 = rw (← p0, ← p1, ← p2, ← p3, ← p4) (search tests)

  pub poke-label-4 : (i : ℕ) → i ≡ field_value l 2 → i < 256 → (j : ℕ) → j ≡ field_value l 3 → j < 4 → (h : Bool) → h ≡ has_values l 4 5 → h ≡ false → (z : Progress) → z ≡ failed_of q BadLine → on z t ≡ poke_label l q t
  unfolding poke_label
  poke-label-4 i p0 h0 j p1 h1 h p2 h2 z p3 = rw (← p0, ← p1, ← p2, ← p3) (search tests)

pub ruleset poke-label-ways = (poke-label-1, poke-label-2, poke-label-3, poke-label-4)

-- `poke_name`
module _ (l : List ℕ) (q : Progress) (b : List ℕ) where
  pub poke-name-1 : (i : ℕ) → i ≡ field_value l 2 → 256 ≤ i → (z : Progress) → z ≡ failed_of q BadLine → on z b ≡ poke_name l q b
  unfolding poke_name
  poke-name-1 i p0 h0 z p1 = rw (← p0, ← p1) (search tests)

  pub poke-name-2 : (i : ℕ) → i ≡ field_value l 2 → i < 256 → (j : ℕ) → j ≡ field_value l 3 → 64 ≤ j → (z : Progress) → z ≡ failed_of q BadLine → on z b ≡ poke_name l q b
  unfolding poke_name
  poke-name-2 i p0 h0 j p1 h1 z p2 = rw (← p0, ← p1, ← p2) (search tests)

  pub poke-name-3 : (i : ℕ) → i ≡ field_value l 2 → i < 256 → (j : ℕ) → j ≡ field_value l 3 → j < 64 → (c : ℕ) → c ≡ count_fields l → (c ≡ 5 → ⊥) → (z : Progress) → z ≡ failed_of q BadLine → on z b ≡ poke_name l q b
  unfolding poke_name
  poke-name-3 i p0 h0 j p1 h1 c p2 h2 z p3 = rw (← p0, ← p1, ← p2, ← p3) (search tests)

  pub poke-name-4 : (i : ℕ) → i ≡ field_value l 2 → i < 256 → (j : ℕ) → j ≡ field_value l 3 → j < 64 → (c : ℕ) → c ≡ count_fields l → c ≡ 5 → (v : ℕ) → v ≡ field_value l 4 → 255 < v → (z : Progress) → z ≡ failed_of q BadLine → on z b ≡ poke_name l q b
  unfolding poke_name
  poke-name-4 i p0 h0 j p1 h1 c p2 h2 v p3 h3 z p4 = rw (← p0, ← p1, ← p2, ← p3, ← p4) (search tests)

  pub poke-name-5 : (i : ℕ) → i ≡ field_value l 2 → i < 256 → (j : ℕ) → j ≡ field_value l 3 → j < 64 → (c : ℕ) → c ≡ count_fields l → c ≡ 5 → (v : ℕ) → v ≡ field_value l 4 → v ≤ 255 → on q (set b (i * 64 + j) v) ≡ poke_name l q b
  unfolding poke_name
  poke-name-5 i p0 h0 j p1 h1 c p2 h2 v p3 h3 = rw (← p0, ← p1, ← p2, ← p3) (search tests)

pub ruleset poke-name-ways = (poke-name-1, poke-name-2, poke-name-3, poke-name-4, poke-name-5)

-- `poke_stack`
module _ (l : List ℕ) (q : Progress) (k : List ℕ) where
  pub poke-stack-1 : (i : ℕ) → i ≡ field_value l 2 → 16385 ≤ i → (z : Progress) → z ≡ failed_of q BadLine → on z k ≡ poke_stack l q k
  unfolding poke_stack
  poke-stack-1 i p0 h0 z p1 = rw (← p0, ← p1) (search tests)

  pub poke-stack-2 : (i : ℕ) → i ≡ field_value l 2 → i < 16385 → (h : Bool) → h ≡ has_values l 2 4 → h ≡ true → (n : ℕ) → n ≡ field_value l 3 → (v : ℕ) → v ≡ n % no_number → on q (set k i v) ≡ poke_stack l q k
  unfolding poke_stack
  poke-stack-2 i p0 h0 h p1 h1 n p2 v p3 = rw (← p0, ← p1, ← p2, ← p3) (search tests)

  pub poke-stack-3 : (i : ℕ) → i ≡ field_value l 2 → i < 16385 → (h : Bool) → h ≡ has_values l 2 4 → h ≡ false → (z : Progress) → z ≡ failed_of q BadLine → on z k ≡ poke_stack l q k
  unfolding poke_stack
  poke-stack-3 i p0 h0 h p1 h1 z p2 = rw (← p0, ← p1, ← p2) (search tests)

pub ruleset poke-stack-ways = (poke-stack-1, poke-stack-2, poke-stack-3)

-- `poke_record`
module _ (l : List ℕ) (q : Progress) where
  pub poke-record-1 : (a : Bool) → a ≡ is_record_poke l → a ≡ true → (p : Machine) → p ≡ poke_record l q.machine → (z : Progress) → z ≡ machine_of q p → z ≡ poke_machine l q
  unfolding poke_machine
  poke-record-1 a p0 h0 p p1 z p2 = rw (← p0, ← p1, ← p2) (search tests)

  pub poke-record-2 : (a : Bool) → a ≡ is_record_poke l → a ≡ false → (z : Progress) → z ≡ failed_of q BadLine → z ≡ poke_machine l q
  unfolding poke_machine
  poke-record-2 a p0 h0 z p1 = rw (← p0, ← p1) (search tests)

pub ruleset poke-record-ways = (poke-record-1, poke-record-2)

-- `read_poke`
module _ (l : List ℕ) (q : Progress) (t : List ℕ) (b : List ℕ) (k : List ℕ) where
  pub read-poke-1 : (a : Bool) → a ≡ starts_with l poke-statement-word → a ≡ true → (z : Progress) → (u : List ℕ) → on z u ≡ poke_statement l q t → poked z u b k ≡ read_poke l q t b k
  unfolding read_poke
  read-poke-1 a p0 h0 z u p1 = rw (← p0, ← p1) (search tests)

  pub read-poke-2 : (a : Bool) → a ≡ starts_with l poke-statement-word → a ≡ false → (c : Bool) → c ≡ starts_with l poke-label-word → c ≡ true → (z : Progress) → (u : List ℕ) → on z u ≡ poke_label l q t → poked z u b k ≡ read_poke l q t b k
  unfolding read_poke
  read-poke-2 a p0 h0 c p1 h1 z u p2 = rw (← p0, ← p1, ← p2) (search tests)

  pub read-poke-3 : (a : Bool) → a ≡ starts_with l poke-statement-word → a ≡ false → (c : Bool) → c ≡ starts_with l poke-label-word → c ≡ false → (d : Bool) → d ≡ starts_with l poke-name-word → d ≡ true → (z : Progress) → (u : List ℕ) → on z u ≡ poke_name l q b → poked z t u k ≡ read_poke l q t b k
  unfolding read_poke
  read-poke-3 a p0 h0 c p1 h1 d p2 h2 z u p3 = rw (← p0, ← p1, ← p2, ← p3) (search tests)

  pub read-poke-4 : (a : Bool) → a ≡ starts_with l poke-statement-word → a ≡ false → (c : Bool) → c ≡ starts_with l poke-label-word → c ≡ false → (d : Bool) → d ≡ starts_with l poke-name-word → d ≡ false → (e : Bool) → e ≡ starts_with l poke-stack-word → e ≡ true → (z : Progress) → (u : List ℕ) → on z u ≡ poke_stack l q k → poked z t b u ≡ read_poke l q t b k
  unfolding read_poke
  read-poke-4 a p0 h0 c p1 h1 d p2 h2 e p3 h3 z u p4 = rw (← p0, ← p1, ← p2, ← p3, ← p4) (search tests)

  pub read-poke-5 : (a : Bool) → a ≡ starts_with l poke-statement-word → a ≡ false → (c : Bool) → c ≡ starts_with l poke-label-word → c ≡ false → (d : Bool) → d ≡ starts_with l poke-name-word → d ≡ false → (e : Bool) → e ≡ starts_with l poke-stack-word → e ≡ false → (f : Bool) → f ≡ starts_with l poke-record-word → f ≡ true → (z : Progress) → z ≡ poke_machine l q → poked z t b k ≡ read_poke l q t b k
  unfolding read_poke
  read-poke-5 a p0 h0 c p1 h1 d p2 h2 e p3 h3 f p4 h4 z p5 = rw (← p0, ← p1, ← p2, ← p3, ← p4, ← p5) (search tests)

  pub read-poke-6 : (a : Bool) → a ≡ starts_with l poke-statement-word → a ≡ false → (c : Bool) → c ≡ starts_with l poke-label-word → c ≡ false → (d : Bool) → d ≡ starts_with l poke-name-word → d ≡ false → (e : Bool) → e ≡ starts_with l poke-stack-word → e ≡ false → (f : Bool) → f ≡ starts_with l poke-record-word → f ≡ false → (z : Progress) → z ≡ failed_of q BadLine → poked z t b k ≡ read_poke l q t b k
  unfolding read_poke
  read-poke-6 a p0 h0 c p1 h1 d p2 h2 e p3 h3 f p4 h4 z p5 = rw (← p0, ← p1, ← p2, ← p3, ← p4, ← p5) (search tests)

pub ruleset read-poke-ways = (read-poke-1, read-poke-2, read-poke-3, read-poke-4, read-poke-5, read-poke-6)

-- `count_part`
module _ (l : List ℕ) (q : Progress) (n : ℕ) where
  pub count-part-1 : (a : Bool) → a ≡ has_word l 1 statements-word → a ≡ true → (z : Progress) → z ≡ counted_of q n q.counts.labels q.counts.bytes → z ≡ count_part l q n
  unfolding count_part
  count-part-1 a p0 h0 z p1 = rw (← p0, ← p1) (search tests)

  pub count-part-2 : (a : Bool) → a ≡ has_word l 1 statements-word → a ≡ false → (b : Bool) → b ≡ has_word l 1 labels-word → b ≡ true → (z : Progress) → z ≡ counted_of q q.counts.statements n q.counts.bytes → z ≡ count_part l q n
  unfolding count_part
  count-part-2 a p0 h0 b p1 h1 z p2 = rw (← p0, ← p1, ← p2) (search tests)

  pub count-part-3 : (a : Bool) → a ≡ has_word l 1 statements-word → a ≡ false → (b : Bool) → b ≡ has_word l 1 labels-word → b ≡ false → (c : Bool) → c ≡ has_word l 1 data-word → c ≡ true → (z : Progress) → z ≡ counted_of q q.counts.statements q.counts.labels n → z ≡ count_part l q n
  unfolding count_part
  count-part-3 a p0 h0 b p1 h1 c p2 h2 z p3 = rw (← p0, ← p1, ← p2, ← p3) (search tests)

  pub count-part-4 : (a : Bool) → a ≡ has_word l 1 statements-word → a ≡ false → (b : Bool) → b ≡ has_word l 1 labels-word → b ≡ false → (c : Bool) → c ≡ has_word l 1 data-word → c ≡ false → (z : Progress) → z ≡ failed_of q BadLine → z ≡ count_part l q n
  unfolding count_part
  count-part-4 a p0 h0 b p1 h1 c p2 h2 z p3 = rw (← p0, ← p1, ← p2, ← p3) (search tests)

pub ruleset count-part-ways = (count-part-1, count-part-2, count-part-3, count-part-4)

-- `read_count`
module _ (l : List ℕ) (q : Progress) where
  pub read-count-1 : (a : Bool) → a ≡ has_values l 2 3 → a ≡ true → (m : ℕ) → m ≡ field_value l 2 → (n : ℕ) → n ≡ m % no_number → (z : Progress) → z ≡ count_part l q n → z ≡ read_count l q
  unfolding read_count
  read-count-1 a p0 h0 m p1 n p2 z p3 = rw (← p0, ← p1, ← p2, ← p3) (search tests)

  pub read-count-2 : (a : Bool) → a ≡ has_values l 2 3 → a ≡ false → (z : Progress) → z ≡ failed_of q BadLine → z ≡ read_count l q
  unfolding read_count
  read-count-2 a p0 h0 z p1 = rw (← p0, ← p1) (search tests)

pub ruleset read-count-ways = (read-count-1, read-count-2)

-- `lend_part`
module _ (q : Progress) (n most : ℕ) (a : Lent) where
  pub lend-part-1 : most < n → (z : Progress) → z ≡ failed_of q BadLine → z ≡ lend_part q n most a
  unfolding lend_part
  lend-part-1 h0 z p0 = rw (← p0) (search tests)

  pub lend-part-2 : n ≤ most → (z : Progress) → z ≡ lent_of q a → z ≡ lend_part q n most a
  unfolding lend_part
  lend-part-2 h0 z p0 = rw (← p0) (search tests)

pub ruleset lend-part-ways = (lend-part-1, lend-part-2)

-- `read_lend`
module _ (l : List ℕ) (q : Progress) where
  pub read-lend-1 : (i : ℕ) → i ≡ count_fields l → (i ≡ 3 → ⊥) → (z : Progress) → z ≡ failed_of q BadLine → z ≡ read_lend l q
  unfolding read_lend
  read-lend-1 i p0 h0 z p1 = rw (← p0, ← p1) (search tests)

  pub read-lend-2 : (i : ℕ) → i ≡ count_fields l → i ≡ 3 → (n : ℕ) → n ≡ field_value l 2 → (a : Bool) → a ≡ has_word l 1 statements-word → a ≡ true → (z : Progress) → z ≡ lend_part q n 27648 (record { statements = n; labels = q.lent.labels; names = q.lent.names; bytes = q.lent.bytes; stack = q.lent.stack; memory = q.lent.memory }) → z ≡ read_lend l q
  unfolding read_lend lend_statements
  read-lend-2 i p0 h0 n p1 a p2 h1 z p3 = rw (← p0, ← p1, ← p2, ← p3) (search tests)

  pub read-lend-3 : (i : ℕ) → i ≡ count_fields l → i ≡ 3 → (n : ℕ) → n ≡ field_value l 2 → (a : Bool) → a ≡ has_word l 1 statements-word → a ≡ false → (b : Bool) → b ≡ has_word l 1 labels-word → b ≡ true → (z : Progress) → z ≡ lend_part q n 1024 (record { statements = q.lent.statements; labels = n; names = q.lent.names; bytes = q.lent.bytes; stack = q.lent.stack; memory = q.lent.memory }) → z ≡ read_lend l q
  unfolding read_lend lend_labels
  read-lend-3 i p0 h0 n p1 a p2 h1 b p3 h2 z p4 = rw (← p0, ← p1, ← p2, ← p3, ← p4) (search tests)

  pub read-lend-4 : (i : ℕ) → i ≡ count_fields l → i ≡ 3 → (n : ℕ) → n ≡ field_value l 2 → (a : Bool) → a ≡ has_word l 1 statements-word → a ≡ false → (b : Bool) → b ≡ has_word l 1 labels-word → b ≡ false → (c : Bool) → c ≡ has_word l 1 names-word → c ≡ true → (z : Progress) → z ≡ lend_part q n 16384 (record { statements = q.lent.statements; labels = q.lent.labels; names = n; bytes = q.lent.bytes; stack = q.lent.stack; memory = q.lent.memory }) → z ≡ read_lend l q
  unfolding read_lend lend_names
  read-lend-4 i p0 h0 n p1 a p2 h1 b p3 h2 c p4 h3 z p5 = rw (← p0, ← p1, ← p2, ← p3, ← p4, ← p5) (search tests)

  pub read-lend-5 : (i : ℕ) → i ≡ count_fields l → i ≡ 3 → (n : ℕ) → n ≡ field_value l 2 → (a : Bool) → a ≡ has_word l 1 statements-word → a ≡ false → (b : Bool) → b ≡ has_word l 1 labels-word → b ≡ false → (c : Bool) → c ≡ has_word l 1 names-word → c ≡ false → (d : Bool) → d ≡ has_word l 1 data-word → d ≡ true → (z : Progress) → z ≡ lend_part q n 32768 (record { statements = q.lent.statements; labels = q.lent.labels; names = q.lent.names; bytes = n; stack = q.lent.stack; memory = q.lent.memory }) → z ≡ read_lend l q
  unfolding read_lend lend_bytes
  read-lend-5 i p0 h0 n p1 a p2 h1 b p3 h2 c p4 h3 d p5 h4 z p6 = rw (← p0, ← p1, ← p2, ← p3, ← p4, ← p5, ← p6) (search tests)

  pub read-lend-6 : (i : ℕ) → i ≡ count_fields l → i ≡ 3 → (n : ℕ) → n ≡ field_value l 2 → (a : Bool) → a ≡ has_word l 1 statements-word → a ≡ false → (b : Bool) → b ≡ has_word l 1 labels-word → b ≡ false → (c : Bool) → c ≡ has_word l 1 names-word → c ≡ false → (d : Bool) → d ≡ has_word l 1 data-word → d ≡ false → (z : Progress) → z ≡ failed_of q BadLine → z ≡ read_lend l q
  unfolding read_lend
  read-lend-6 i p0 h0 n p1 a p2 h1 b p3 h2 c p4 h3 d p5 h4 z p6 = rw (← p0, ← p1, ← p2, ← p3, ← p4, ← p5, ← p6) (search tests)

pub ruleset read-lend-ways = (read-lend-1, read-lend-2, read-lend-3, read-lend-4, read-lend-5, read-lend-6)

-- `read_change`
module _ (l : List ℕ) (q : Progress) (t : List ℕ) (b : List ℕ) (k : List ℕ) (m : List ℕ) where
  pub read-change-1 : (a : Bool) → a ≡ starts_with l bytes_word → a ≡ true → (z : Progress) → (u : List ℕ) → on z u ≡ read_bytes l q m → changed z t b k u ≡ read_change l q t b k m
  unfolding read_change
  read-change-1 a p0 h0 z u p1 = rw (← p0, ← p1) (search tests)

  pub read-change-2 : (a : Bool) → a ≡ starts_with l bytes_word → a ≡ false → (c : Bool) → c ≡ starts_with l poke-word → c ≡ true → (z : Progress) → (u : List ℕ) → (v : List ℕ) → (w : List ℕ) → poked z u v w ≡ read_poke l q t b k → changed z u v w m ≡ read_change l q t b k m
  unfolding read_change
  read-change-2 a p0 h0 c p1 h1 z u v w p2 = rw (← p0, ← p1, ← p2) (search tests)

  pub read-change-3 : (a : Bool) → a ≡ starts_with l bytes_word → a ≡ false → (c : Bool) → c ≡ starts_with l poke-word → c ≡ false → (d : Bool) → d ≡ starts_with l count_word → d ≡ true → (z : Progress) → z ≡ read_count l q → changed z t b k m ≡ read_change l q t b k m
  unfolding read_change
  read-change-3 a p0 h0 c p1 h1 d p2 h2 z p3 = rw (← p0, ← p1, ← p2, ← p3) (search tests)

  pub read-change-4 : (a : Bool) → a ≡ starts_with l bytes_word → a ≡ false → (c : Bool) → c ≡ starts_with l poke-word → c ≡ false → (d : Bool) → d ≡ starts_with l count_word → d ≡ false → (e : Bool) → e ≡ starts_with l lend-word → e ≡ true → (z : Progress) → z ≡ read_lend l q → changed z t b k m ≡ read_change l q t b k m
  unfolding read_change
  read-change-4 a p0 h0 c p1 h1 d p2 h2 e p3 h3 z p4 = rw (← p0, ← p1, ← p2, ← p3, ← p4) (search tests)

  pub read-change-5 : (a : Bool) → a ≡ starts_with l bytes_word → a ≡ false → (c : Bool) → c ≡ starts_with l poke-word → c ≡ false → (d : Bool) → d ≡ starts_with l count_word → d ≡ false → (e : Bool) → e ≡ starts_with l lend-word → e ≡ false → (z : Progress) → z ≡ failed_of q BadLine → changed z t b k m ≡ read_change l q t b k m
  unfolding read_change
  read-change-5 a p0 h0 c p1 h1 d p2 h2 e p3 h3 z p4 = rw (← p0, ← p1, ← p2, ← p3, ← p4) (search tests)

pub ruleset read-change-ways = (read-change-1, read-change-2, read-change-3, read-change-4, read-change-5)
