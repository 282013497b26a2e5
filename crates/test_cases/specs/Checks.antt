-- The check of a case, and the tables it leaves.
-- Assumes nothing.
use Rattle.std.specs.Prelude.{ℕ, List, take, Ok, Err}
use Rattle.base_prelude.specs.Choice.{if_true}
use Rattle.base_limits.specs.declared.Width.TheVariants.{Bits32}
use Rattle.vm_definitions.specs.Access.{store_from}
use Rattle.res_hosts.specs.Lister.{lister_hosts}
use Rattle.check_source.specs.Check.{Filled, Lent, lent, check_of}
use Rattle.check_source.specs.Checked.{Checked}
use Rattle.test_lines.specs.Sources.{source}
use Rattle.test_text.specs.Answers.{add_all, rejected_bytes}
use Rattle.test_state.specs.declared.Progress.{Progress}
use Rattle.test_state.specs.Progress.{On, on, checked_of, answered_by, counted_of}
use Rattle.test_state.specs.Source.{close_body}

-- the answer of a check, in the progress; a refusal waits for its line
unfoldable pub with_checked : Checked → Progress → List ℕ → On
with_checked (Ok p) q got = on (counted_of q p.statements p.labels p.size) got
with_checked (Err r) q got =
    answered_by q (add_all (rejected_bytes r.number r.place) (source 0 got))

-- all tables lent whole
unfoldable pub full_tables : Lent
full_tables = lent 32768 27648 1024 16384 32768

-- the answer of a check, and the tables kept: labels behind statements, data behind names
abbrev pub Kept : Type 0
Kept = record { answer : Checked; rows : List ℕ; bytes : List ℕ }

abbrev pub kept : Checked → List ℕ → List ℕ → Kept
kept answer rows bytes = record { answer = answer; rows = rows; bytes = bytes }

abbrev pub kept_in : Filled → List ℕ → List ℕ → Kept
kept_in x t b =
    kept x.answer (store_from (store_from t 0 x.statements) 27648 x.labels) (store_from (store_from b 0 x.names) 16384 x.bytes)

-- "lister and case runner lend `bath` with 1 argument and `order` with 2" (02, 3)
unfoldable pub check_source : List ℕ → List ℕ → List ℕ → Kept
check_source s t b = kept_in (check_of Bits32 lister_hosts s full_tables) t b

-- a progress, and the buffers that a check changes
abbrev pub Once : Type 0
Once = record { progress : Progress; text : List ℕ; got : List ℕ; rows : List ℕ; bytes : List ℕ }

abbrev pub once : Progress → List ℕ → List ℕ → List ℕ → List ℕ → Once
once progress text got rows bytes = record { progress = progress; text = text; got = got; rows = rows; bytes = bytes }

abbrev pub once_by : Kept → Progress → List ℕ → List ℕ → Once
once_by x q text got =
    once (with_checked x.answer q got).progress text (with_checked x.answer q got).buffer x.rows x.bytes

abbrev pub closed_by : On → List ℕ → List ℕ → List ℕ → Once
closed_by x got t b =
    once_by (check_source (take (checked_of x.progress).size x.buffer) t b) (checked_of x.progress) x.buffer got

-- the source is checked once, before the first line that needs its tables
unfoldable pub check_once : Progress → List ℕ → List ℕ → List ℕ → List ℕ → Once
check_once q text got t b =
    if_true q.is_checked (once q text got t b)
    (closed_by (close_body q text) got t b)
