-- Statement rows in a file: "the words that its kind uses" (docs/FILES.md), little-endian, in the order of the row's words.
-- Assumes nothing.
use Rattle.std.specs.Prelude.{ℕ, zero, suc, ◌+◌, ◌*◌, Bool, List, [], ◌++◌, eqb, length, get_or}
use Rattle.base_prelude.specs.Choice.{if_true}
use Rattle.base_word.specs.Bytes.{word_bytes}
use Rattle.prog_tables.specs.StatementRow as row
use Rattle.prog_tables.specs.Layout.{statement_row}
use Rattle.prog_tables.specs.Tests.{count_below}
use Rattle.prog_tables.specs.Statement.{Row}
use Rattle.prog_tables.specs.Canonical.{uses_word}
use Rattle.prog_tables.specs.declared.Operand.TheVariants.{Unlisted}
use Rattle.file_codec.specs.Words.{word_size, word_in, listed}

-- a row of which only the three words are known that say which words it uses: kind, expression kind, count
abbrev pub row_with : ℕ → ℕ → ℕ → Row
row_with k e n =
    record { kind = k; func = 0; scope = 0; up = 0; a = 0; b = 0; expr = e; callee = 0; count = n; address = Unlisted; operands = [] }

-- a row of kind k with expression kind e and count n uses its word j
unfoldable pub uses : ℕ → ℕ → ℕ → ℕ → Bool
uses k e n j = uses_word (row_with k e n) j

-- ---- written: u says which words are used, g gives them

-- the used words below j, as bytes
unfoldable pub packed_below : (ℕ → Bool) → (ℕ → ℕ) → ℕ → List ℕ
packed_below u g zero = []
packed_below u g (suc j) = packed_below u g j ++ if_true (u j) (word_bytes word_size (g j)) []

unfoldable pub packed : (ℕ → ℕ) → List ℕ
packed g = packed_below (uses (g row.kind) (g row.expr) (g row.count)) g statement_row

-- word j of row n of a table
abbrev pub word_of : List ℕ → ℕ → ℕ → ℕ
word_of t n j = get_or t (n * statement_row + j) 0

-- ---- read, from the bytes x of a field; words that it lacks are 0

-- word j: a used one stands behind the used ones before it
unfoldable pub unpacked_at : (ℕ → Bool) → List ℕ → ℕ → ℕ
unpacked_at u x j = if_true (u j) (word_in x (word_size * count_below u j)) 0

unfoldable pub kind_in : List ℕ → ℕ
kind_in x = word_in x 0

-- which words stand before it says the kind
unfoldable pub expr_in : List ℕ → ℕ
expr_in x = unpacked_at (uses (kind_in x) 0 0) x row.expr

-- which words stand before it say kind and expression kind
unfoldable pub count_in : List ℕ → ℕ
count_in x = unpacked_at (uses (kind_in x) (expr_in x) 0) x row.count

unfoldable pub uses_in : List ℕ → ℕ → Bool
uses_in x = uses (kind_in x) (expr_in x) (count_in x)

-- the 27 words of the row
unfoldable pub unpacked : List ℕ → List ℕ
unpacked x = listed (unpacked_at (uses_in x) x) statement_row 0

-- not "of wrong length"
unfoldable pub row_fits : List ℕ → Bool
row_fits x = eqb (length x) (word_size * count_below (uses_in x) statement_row)
