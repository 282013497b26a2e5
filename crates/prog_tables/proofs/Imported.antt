-- Imports, computed: tables with a call to an imported function, good and spoilt; which entry of the host's list counts.
-- Assumes nothing.
use mathlib.Core.Path.{◌≡◌, refl}
use mathlib.Core.Bool.{true, false}
use mathlib.Core.List.{List, [], ◌∷◌, ◌++◌}
use Prim.Native.Nat.{ℕ, ◌+◌, ◌*◌}
use lib.ListN.{set}
use Rattle.base_limits.specs.declared.Width.TheVariants.{Bits32}
use Rattle.prog_tables.specs.Layout.{statement_row, label_row, call_expression, import_expression, constant_operand, exported_function, import_label}
use Rattle.prog_tables.specs.StatementRow as row
use Rattle.prog_tables.specs.LabelRow as label
use Rattle.lang_kinds.specs.Kinds as kind
use Rattle.prog_tables.specs.Label.{Tables}
use Rattle.prog_tables.specs.Program.{program_from}
use Rattle.prog_tables.specs.Faults.{row_fault, tables_fault}
use Rattle.prog_tables.specs.WellFormed.{well_formed}
use Rattle.prog_tables.specs.Canonical.{canonical}
use Rattle.prog_tables.specs.Hosts.{Hosts, host_of, host_mark, mark_number, mark_arguments, hosted}
use Rattle.prog_tables.proofs.Samples.{table_of, program}
use Rattle.prog_tables.proofs.Opened.{opened}

abbrev bath : List ℕ
bath = 98 ∷ 97 ∷ 116 ∷ 104 ∷ []

-- `import bath`; a function with `let x call bath 7`, whose first argument is in its place, and `tail-call bath 7`
abbrev imports : Tables
imports =
    program
    ((kind.function ∷ 0 ∷ 0 ∷ 0 ∷ 4 ∷ [])
    ∷ (kind.let_local ∷ 0 ∷ 0 ∷ 1 ∷ 3 ∷ 0 ∷ import_expression ∷ 0 ∷ 1 ∷ 0 ∷ 0 ∷ constant_operand ∷ 7 ∷ [])
    ∷ (kind.tail_call ∷ 0 ∷ 0 ∷ 1 ∷ 0 ∷ 0 ∷ import_expression ∷ 0 ∷ 1 ∷ 0 ∷ 0 ∷ constant_operand ∷ 7 ∷ [])
    ∷ (kind.end_function ∷ 0 ∷ 0 ∷ 0 ∷ [])
    ∷ [])
    ((import_label ∷ 2 ∷ 1 ∷ 4 ∷ []) ∷ (exported_function ∷ 0 ∷ 0 ∷ 1 ∷ []) ∷ [])
    (bath ∷ (102 ∷ []) ∷ []) 0

-- word j of statement n, of label n
abbrev statement : ℕ → ℕ → ℕ → Tables
statement n j v =
    record { statements = set imports.statements (n * statement_row + j) v; count = 4; labels = imports.labels; label_count = 2; names = imports.names; data_length = 0 }

abbrev labelled : ℕ → ℕ → ℕ → Tables
labelled n j v =
    record { statements = imports.statements; count = 4; labels = set imports.labels (n * label_row + j) v; label_count = 2; names = imports.names; data_length = 0 }

-- (bath, 9), (bath, 1) cut short, (bath, 1), (bath, 2)
abbrev hosts : Hosts
hosts =
    record {
      words = 4 ∷ 9 ∷ 65 ∷ 1 ∷ 4 ∷ 1 ∷ 4 ∷ 2 ∷ 4 ∷ [];
      names = table_of 64 (bath ∷ bath ∷ bath ∷ []) ++ bath;
    }

abbrev short : Hosts
short = record { words = 4 ∷ 1 ∷ []; names = 98 ∷ 97 ∷ 116 ∷ [] }

pub record Imports : Type 0 where
  -- good
  pub good : well_formed (program_from Bits32 imports) ≡ true
  pub whole : tables_fault (program_from Bits32 imports) ≡ false
  pub tidy : canonical imports ≡ true
  -- "35 takes an imported name as a function with its argument count": a label past the table, of a function, with other arguments
  pub past : row_fault (program_from Bits32 (statement 1 row.callee 2)) 1 ≡ true
  pub function : row_fault (program_from Bits32 (statement 1 row.callee 1)) 1 ≡ true
  pub arguments : row_fault (program_from Bits32 (labelled 0 label.arguments 2)) 1 ≡ true
  pub tail : row_fault (program_from Bits32 (labelled 0 label.arguments 2)) 2 ≡ true
  -- a call of a function does not name a label row
  pub called : well_formed (program_from Bits32 (statement 1 row.expr call_expression)) ≡ false
  pub nine : well_formed (program_from Bits32 (labelled 0 label.arguments 9)) ≡ false
  -- "an entry with more is passed over and keeps its number; of equal names left the first counts"
  pub first : host_of hosts bath ≡ 2
  pub number : mark_number (host_mark hosts bath) ≡ 2
  pub takes : mark_arguments (host_mark hosts bath) ≡ 1
  pub other : host_mark hosts (98 ∷ 97 ∷ []) ≡ 0
  -- half an entry is none, and a name longer than what is lent matches nothing
  pub cut : host_mark short bath ≡ 0
  pub listed : hosted hosts (program_from Bits32 imports) ≡ true
  pub renumbered : hosted hosts (program_from Bits32 (labelled 0 label.number 3)) ≡ false

pub imported : Imports
unfolding opened
imported =
    record {
      good = refl;
      whole = refl;
      tidy = refl;
      past = refl;
      function = refl;
      arguments = refl;
      tail = refl;
      called = refl;
      nine = refl;
      first = refl;
      number = refl;
      takes = refl;
      other = refl;
      cut = refl;
      listed = refl;
      renumbered = refl;
    }
