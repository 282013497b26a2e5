-- How the code fills the table: a name is looked for in the rows written so far. proofs/Filling shows that the rows are those of
-- specs/Lex.
-- Assumes nothing.
use Rattle.std.specs.Prelude.{Option, Some, None, Result, Ok, Err, ℕ, zero, suc, ◌+◌, ◌*◌, Bool, false, List, [], ◌∷◌, ◌++◌, get_or, take, drop, unwrap_or}
use Rattle.base_prelude.specs.Choice.{if_lt, if_eq, if_true}
use Rattle.base_prelude.specs.Fault.{none}
use Rattle.base_prelude.specs.Lists.{same_list}
use Rattle.base_limits.specs.declared.Width.{Width}
use Rattle.base_limits.specs.Limits.{token_row}
use Rattle.lang_kinds.specs.TokenRow as field
use Rattle.lang_words.specs.Sections.{known_of}
use Rattle.lang_words.specs.Substitutes.{substitute_of}
use Rattle.lex_spelling.specs.Text.{name_at}
use Rattle.lex_lexeme.specs.Reading.{Reading, is_named, name_start, next_read}
use Rattle.lex_lexeme.specs.declared.Lexeme.{Lexeme}
use Rattle.lex_lexeme.specs.declared.TokenError.TheVariants.{Lone, Broken, Open}
use Rattle.lex_source.specs.Token.{is_substitute, token_value}
use Rattle.lex_source.specs.Faults.{fault_of}
use Rattle.lex_source.specs.declared.Row.{Row}

-- whether the token of row k has the name that starts at a place; the hash is compared first
unfoldable pub row_named : List ℕ → List ℕ → ℕ → ℕ → ℕ → Bool
row_named s t k hash start =
    if_eq (get_or t (k * token_row + field.hash) 0) hash
    (if_true (is_named (get_or t (k * token_row) 0))
    (same_list (name_at s (name_start s (get_or t (k * token_row) 0) (get_or t (k * token_row + field.first) 0))) (name_at s start))
    false)
    false

unfoldable pub find_within : ℕ → List ℕ → List ℕ → ℕ → ℕ → ℕ → ℕ
find_within zero s t k hash start = k
find_within (suc left) s t k hash start = if_true (row_named s t k hash start) k (find_within left s t (k + 1) hash start)

-- the first of n rows with the name, n where none has it
unfoldable pub find_name : List ℕ → List ℕ → ℕ → ℕ → ℕ → ℕ
find_name s t n hash start = find_within n s t 0 hash start

unfoldable pub word_named : ℕ → List ℕ → ℕ
word_named kind text = if_true (is_substitute kind) (substitute_of text) (known_of text)

unfoldable pub row_from : Width → List ℕ → List ℕ → ℕ → Lexeme → Row
row_from w s t n x =
    if_true (is_named x.kind)
    (record {
      kind = x.kind;
      first = x.first;
      next = x.next;
      value = token_value w x.kind (unwrap_or x.value 0) x.size (word_named x.kind (name_at s x.start));
      name = find_name s t n x.hash x.start;
      word = word_named x.kind (name_at s x.start);
      hash = x.hash;
    })
    (record {
      kind = x.kind;
      first = x.first;
      next = x.next;
      value = token_value w x.kind (unwrap_or x.value 0) x.size 0;
      name = 0;
      word = 0;
      hash = x.hash;
    })

abbrev pub words_of : Row → List ℕ
words_of r = r.kind ∷ r.first ∷ r.next ∷ r.value ∷ r.name ∷ r.word ∷ r.hash ∷ 0 ∷ []

-- a row written as row n
unfoldable pub put_row : List ℕ → ℕ → Row → List ℕ
put_row t n r = take (n * token_row) t ++ words_of r ++ drop (n * token_row + token_row) t

-- what reading one token comes to: the place behind it, nothing at the end, or a fault
abbrev pub FillStep : Type 0
FillStep = Result (Option ℕ) ℕ

-- what reading one token comes to, and the table then
pub record Filled : Type 0 where
  pub fill_step : FillStep
  pub table : List ℕ

abbrev pub filled : FillStep → List ℕ → Filled
filled x t = record { fill_step = x; table = t }

unfoldable pub fill_by : Width → List ℕ → List ℕ → ℕ → Reading → Filled
fill_by w s t n (Ok None) = filled (Ok None) t
fill_by w s t n (Err (Lone p)) = filled (Err none) t
fill_by w s t n (Err (Broken p)) = filled (Err none) t
fill_by w s t n (Err (Open p)) = filled (Err none) t
fill_by w s t n (Ok (Some x)) = filled (Ok (Some x.next)) (put_row t n (row_from w s t n x))

unfoldable pub fill_reading : Width → List ℕ → List ℕ → ℕ → Reading → Filled
fill_reading w s t n r = if_lt (fault_of s n r) none (filled (Err (fault_of s n r)) t) (fill_by w s t n r)

unfoldable pub fill_at : Width → List ℕ → List ℕ → ℕ → ℕ → Filled
fill_at w s t n at = fill_reading w s t n (next_read w s at)
