-- Writing a rule file: "Writing: 35 as start gives it and for more rows, data or name bytes than 01 allows, then 16, the buffer unchanged, as is
-- its rest after a write" (02, 7).
-- Assumes nothing.
use Rattle.std.specs.Prelude.{ℕ, Bool, List, [], ◌∷◌, ltb, length, Result, Ok, Err}
use Rattle.base_prelude.specs.Choice.{if_lt, if_true}
use Rattle.base_prelude.specs.Lists.{overlay}
use Rattle.base_limits.specs.Limits as limits
use Rattle.base_limits.specs.declared.Width.TheVariants.{Bits32}
use Rattle.prog_tables.specs.Tests.{some}
use Rattle.prog_tables.specs.Label.{Tables}
use Rattle.prog_tables.specs.Program.{program_from}
use Rattle.vm_definitions.specs.Broken.{or_else, start_broken}
use Rattle.vm_definitions.specs.declared.Broken.{Broken}
use Rattle.vm_definitions.specs.declared.Broken.TheVariants.{No, At, Somewhere}
use Rattle.file_codec.specs.File.{file_of}
use Rattle.file_writer.specs.declared.WriteError.{WriteError}
use Rattle.file_writer.specs.declared.WriteError.TheVariants as error

-- "for more rows, data [..] than 01 allows": statement rows, label rows, data bytes. A name of more bytes is 35 of a start already.
unfoldable pub past_limits : ℕ → ℕ → ℕ → Bool
past_limits c k d = some (ltb limits.statements c ∷ ltb limits.labels k ∷ ltb limits.data_bytes d ∷ [])

abbrev pub over_limits : Tables → Bool
over_limits t = past_limits t.count t.label_count t.data_length

-- "35 as start gives it and for more rows, data or name bytes than 01 allows", n bytes of data being lent
unfoldable pub write_broken : Tables → ℕ → Broken
write_broken t n = or_else (start_broken (program_from Bits32 t) n) (if_true (over_limits t) Somewhere No)

-- the answer, and the buffer behind the call
pub record Wrote : Type 0 where
  pub answer : Result ℕ WriteError
  pub buffer : List ℕ

abbrev pub wrote : Result ℕ WriteError → List ℕ → Wrote
wrote a out = record { answer = a; buffer = out }

-- "then 16, the buffer unchanged, as is its rest after a write": file x to a buffer
unfoldable pub fitted : List ℕ → List ℕ → Wrote
fitted x out = if_lt (length out) (length x) (wrote (Err (error.Short (length x))) out) (wrote (Ok (length x)) (overlay x out))

-- after 35, "the buffer unchanged", else w
unfoldable pub unless_broken : Broken → List ℕ → Wrote → Wrote
unless_broken No out w = w
unless_broken (At i) out w = wrote (Err (error.Broken (At i))) out
unless_broken Somewhere out w = wrote (Err (error.Broken Somewhere)) out

-- tables, data, buffer
unfoldable pub write_of : Tables → List ℕ → List ℕ → Wrote
write_of t d out = unless_broken (write_broken t (length d)) out (fitted (file_of t d) out)
