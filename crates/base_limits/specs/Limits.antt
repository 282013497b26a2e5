-- The limits of 01, "Limits", each under one name; and the sizes of the tables that follow from them.
-- Assumes nothing.
use Rattle.std.specs.Prelude.{◌≡◌, refl, ℕ, ◌+◌, ◌*◌, ◌^◌}
use Rattle.base_limits.specs.declared.Limits.{Limits}

-- "A word has 32 bits"
abbrev pub word_bits : ℕ
word_bits = 32

-- "source 16,384 bytes"
abbrev pub source_bytes : ℕ
source_bytes = 16384

-- "tokens 4,096"
abbrev pub tokens : ℕ
tokens = 4096

-- "statements 1,024"
abbrev pub statements : ℕ
statements = 1024

-- "labels 256"
abbrev pub labels : ℕ
labels = 256

-- "a name 64 decoded bytes"
abbrev pub name_bytes : ℕ
name_bytes = 64

-- "parameters and arguments 8"
abbrev pub parameters : ℕ
parameters = 8

-- "locals in scope 64, parameters and shadowed ones included"
abbrev pub locals : ℕ
locals = 64

-- "blocks nested 16 deep"
abbrev pub block_depth : ℕ
block_depth = 16

-- "data 32,768 bytes"
abbrev pub data_bytes : ℕ
data_bytes = 32768

-- "memory 65,536 bytes"
abbrev pub memory_bytes : ℕ
memory_bytes = 65536

-- "stack 16,384 words"
abbrev pub stack_words : ℕ
stack_words = 16384

-- "`align` takes 1 to 4,096"
abbrev pub alignment : ℕ
alignment = 4096

-- how many numbers a word of 32 bits holds, and the greatest of them; words of tables have 32 bits at both widths
abbrev pub word_values : ℕ
word_values = 4294967296

abbrev pub greatest_word : ℕ
greatest_word = 4294967295

pub word-values : word_values ≡ 2 ^ word_bits
word-values = refl

pub greatest-word : greatest_word + 1 ≡ word_values
greatest-word = refl

-- words of one row of the token table
abbrev pub token_row : ℕ
token_row = 8

-- words of the token table: a row for each token
abbrev pub token_words : ℕ
token_words = 32768

pub table-size : token_words ≡ tokens * token_row
table-size = refl

-- all of them, as `all_limits` gives them
unfoldable pub limits_of : Limits
limits_of =
    record {
      word_bits = word_bits;
      source_bytes = source_bytes;
      tokens = tokens;
      statements = statements;
      labels = labels;
      name_bytes = name_bytes;
      parameters = parameters;
      locals = locals;
      block_depth = block_depth;
      data_bytes = data_bytes;
      memory_bytes = memory_bytes;
      stack_words = stack_words;
      alignment = alignment;
      word_values = word_values;
      token_row = token_row;
      token_words = token_words;
      mark = greatest_word;
    }
